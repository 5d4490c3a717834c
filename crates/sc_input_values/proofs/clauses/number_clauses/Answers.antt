use Rattle.std.proofs.Common.{◌≡◌, ◌∙◌, sym, ap, subst, List, ◌∷◌, [], ◌++◌, map, flat_map}
use Rattle.sc_term.specs.declared.symbol.Symbol.{Symbol}
use Rattle.sc_term.specs.Symbol.{same_symbol, equality}
use Rattle.sc_input_rules.specs.Syntax.{WrittenClause}
use Rattle.sc_input_rules.specs.Numbering.{symbols_of, clause_of}
use Rattle.sc_input_values.specs.Once.{with_each}
use Rattle.sc_input_values.specs.Names.{clause_symbols, MayJoin}
use Rattle.sc_input_values.proofs.JoinLaws.{may_join, symbols_join}
use Rattle.sc_input_values.proofs.clauses.number_clauses.Goals as goal

all_symbols : (cs : List WrittenClause) (first symbols : List Symbol) → first ≡ equality ∷ [] → symbols ≡ with_each same_symbol first (flat_map clause_symbols cs) → symbols ≡ symbols_of cs
all_symbols cs first symbols is joined = joined ∙ ap (λ ss. with_each same_symbol ss (flat_map clause_symbols cs)) is ∙ sym (symbols_join cs)

pub add_clauses-requires : goal.add_clauses-requires
add_clauses-requires c =
    subst (λ ss. MayJoin ss (flat_map clause_symbols c.args.written.now)) (sym c.in_ok-sig.ensures) (may_join c.args.written.now c.requires.symbols)

pub returns-clause-signature : goal.returns-clause-signature
returns-clause-signature c = all_symbols c.args.written.now c.in_ok-sig.sig c.add_clauses.new.sig c.in_ok-sig.ensures c.in_ok-add_clauses.ensures

pub returns-clause-clauses : goal.returns-clause-clauses
returns-clause-clauses c =
    c.in_ok-push_clauses.ensures ∙ ap (λ cs. cs ++ map (clause_of c.add_clauses.new.sig) c.args.written.now) c.new-clauses.ensures
    ∙ ap (λ ss. map (clause_of ss) c.args.written.now) (all_symbols c.args.written.now c.in_ok-sig.sig c.add_clauses.new.sig c.in_ok-sig.ensures c.in_ok-add_clauses.ensures)
