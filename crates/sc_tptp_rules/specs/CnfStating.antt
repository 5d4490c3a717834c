-- What the items of TPTP's clause form state: what these items of the problem language do.
use Rattle.std.specs.Prelude.{ℕ, Bool, true, false, not, ◌&&◌, ◌||◌, List, [], ◌∷◌, ◌++◌, map, ◌==◌, nat_le, codes, if◌then◌else◌}
use Rattle.std.specs.List.{list_any}
use Rattle.sc_input_rules.specs.declared.written.Occurrence.{Occurrence}
use Rattle.sc_input_rules.specs.declared.written.WrittenLiteral.{WrittenLiteral}
use Rattle.sc_input_rules.specs.Tokens.{begins}
use Rattle.sc_input_rules.specs.Syntax.{WrittenClause}
use Rattle.sc_input_rules.specs.Reader.{Name}
use Rattle.sc_input_rules.specs.Demodulator.{is_equation}
use Rattle.sc_input_rules.specs.ProblemGrammar.{Item, Setting, Listing}
use Rattle.sc_input_rules.specs.Problem.{Stated, stated}
use Rattle.sc_tptp_rules.specs.Placing.{is_upper}
use Rattle.sc_tptp_rules.specs.CnfGrammar.{Statement}

-- ---- names, as the problem language writes them

abbrev pub begins_with_c_ : List ℕ → Bool
begins_with_c_ (c ∷ underscore ∷ name) = c == 99 && underscore == 95
begins_with_c_ name = false

-- a constant that the problem language would take for a variable, or for another such constant renamed
abbrev pub wants_prefix : Occurrence → Bool
wants_prefix o = o.arity == 0 && (begins (λ b. nat_le 117 b && nat_le b 122) o.name || begins_with_c_ o.name)

-- A variable V is the variable xV of the problem language, and such a constant c the constant c_c.
abbrev pub renamed_term : Occurrence → Occurrence
renamed_term o =
    if begins is_upper o.name then record o { name = codes "x" ++ o.name } else
    if wants_prefix o then record o { name = codes "c_" ++ o.name } else o

abbrev pub renamed_literal : WrittenLiteral → WrittenLiteral
renamed_literal l = record l { arguments = map renamed_term l.arguments }

abbrev pub renamed : WrittenClause → WrittenClause
renamed c = map renamed_literal c

-- ---- the added clause

abbrev pub has_equation : Statement → Bool
has_equation s = list_any is_equation s.clause

abbrev pub use_equality : List Statement → Bool
use_equality ss = list_any has_equation ss

-- x=x
abbrev pub reflexivity : WrittenClause
reflexivity =
    let x : Occurrence = record { at = 0; name = codes "x"; arity = 0 } in
    let equation : WrittenLiteral = record { positive = true; predicate = record { at = 0; name = codes "="; arity = 2 }; arguments = x ∷ x ∷ [] } in
    equation ∷ []

-- ---- items

abbrev pub named : List ℕ → Name
named text = record { at = 0; text = text }

abbrev pub setting_of : List ℕ → Item
setting_of flag = Setting (named flag) true

-- Clauses that a proof starts from are of sos, the others usable; without any of the first kind all are of sos.
abbrev pub home_word : Bool → Bool → List ℕ
home_word some_goal goal = if goal || not some_goal then codes "sos" else codes "usable"

abbrev pub some_goal_in : List Statement → Bool
some_goal_in ss = list_any (λ (s : Statement). s.goal) ss

abbrev pub listing_of : Bool → Statement → Item
listing_of some_goal s = Listing (named (home_word some_goal s.goal)) (renamed s.clause ∷ [])

-- paramodulation where `=` occurs
abbrev pub settings_of : Bool → List Item
settings_of equality =
    setting_of (codes "binary_res") ∷ setting_of (codes "factor")
    ∷ (if equality then setting_of (codes "para_from") ∷ setting_of (codes "para_into") ∷ [] else [])

abbrev pub added_listing : Bool → List Item
added_listing equality = if equality then Listing (named (codes "usable")) (reflexivity ∷ []) ∷ [] else []

abbrev pub items_stated : List Statement → List Item
items_stated ss =
    let equality = use_equality ss in
    settings_of equality ++ map (listing_of (some_goal_in ss)) ss ++ added_listing equality

abbrev pub cnf_stated : List Statement → Stated
cnf_stated ss = stated (items_stated ss)
