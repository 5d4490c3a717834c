-- The limits of a problem in TPTP's clause form, in the order in which they are told where one token passes several.
use Rattle.std.specs.Prelude.{ℕ, List, [], ◌∷◌, map, drop, length, Option, Ok, Err, option_map, slice_get, nat_le}
use Rattle.sc_input_rules.specs.declared.fault.InputKind.TheVariants.{TooMany, TooHeavy, TooDeep}
use Rattle.sc_input_rules.specs.declared.fault.Place.{Place}
use Rattle.sc_input_rules.specs.declared.token.Token.{Token}
use Rattle.sc_input_rules.specs.Syntax.{WrittenClause}
use Rattle.sc_input_rules.specs.Position.{sentences}
use Rattle.sc_input_rules.specs.Numbering.{symbol_order}
use Rattle.sc_input_rules.specs.Faults.{Limit, passed}
use Rattle.sc_input_rules.specs.ClauseLimits.{Bounds, when, first_at, arity_told, weight_told, depth_told}
use Rattle.sc_tptp_rules.specs.CnfGrammar.{formula}
use Rattle.sc_tptp_rules.specs.CnfStating.{renamed}

-- the formula of an item: what stands behind `cnf`, `(`, name, `,`, role and `,`
abbrev pub formula_of : List Token → List Token
formula_of item = drop 6 item

-- Of the tokens up to one: the formulas of the whole items, and that of the item so far.
pub record CnfPosition : Type 0 where
  pub formulas : List (List Token)
  pub formula : List Token

abbrev pub cnf_position : List Token → CnfPosition
cnf_position tokens =
    let cut = sentences tokens in
    record { formulas = map formula_of cut.0; formula = formula_of cut.1 }

-- the first token of the formula of a clause too many
abbrev pub formulas_told : Bounds → CnfPosition → Option ℕ
formulas_told bounds p = when (nat_le bounds.clauses (length p.formulas)) (first_at p.formula)

-- the clause that a formula writes
abbrev pub clause_written : List Token → WrittenClause
clause_written tokens = elim (formula tokens) [ Ok c ↦ renamed c.0 | Err f ↦ [] ]

-- the word whose symbol is one too many, `=` among them
abbrev pub cnf_symbols_told : Bounds → CnfPosition → Option ℕ
cnf_symbols_told bounds p = option_map (λ f. f.at) (slice_get (symbol_order (map clause_written p.formulas)) bounds.symbols)

abbrev pub cnf_limits : Bounds → List (Limit CnfPosition)
cnf_limits bounds =
    record { kind = TooMany; told = λ p. arity_told bounds p.formula }
    ∷ record { kind = TooMany; told = formulas_told bounds }
    ∷ record { kind = TooHeavy; told = λ p. weight_told bounds p.formula }
    ∷ record { kind = TooDeep; told = λ p. depth_told bounds p.formula }
    ∷ record { kind = TooMany; told = cnf_symbols_told bounds } ∷ []

-- the limit that is passed at the last of the tokens
abbrev pub cnf_fault_at : Bounds → List Token → Option Place
cnf_fault_at bounds tokens = passed (cnf_limits bounds) (cnf_position tokens)
