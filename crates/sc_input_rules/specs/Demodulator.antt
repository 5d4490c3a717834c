-- Which clauses may stand in the list demodulators.
use Rattle.std.specs.Prelude.{Bool, false, not, ◌&&◌, List, [], ◌∷◌, filter, nat_lt, codes}
use Rattle.std.specs.List.{list_any, list_all}
use Rattle.sc_input_rules.specs.Token.{same_text}
use Rattle.sc_input_rules.specs.declared.written.Occurrence.{Occurrence}
use Rattle.sc_input_rules.specs.declared.written.WrittenLiteral.{WrittenLiteral}
use Rattle.sc_input_rules.specs.Syntax.{WrittenClause}
use Rattle.sc_input_rules.specs.Numbering.{is_variable, same_name}

abbrev pub is_equation : WrittenLiteral → Bool
is_equation l = same_text l.predicate.name (codes "=")

-- the names before `=`, and those behind it
abbrev pub left_side : WrittenLiteral → List Occurrence
left_side l = filter (λ o. nat_lt o.at l.predicate.at) l.arguments

abbrev pub right_side : WrittenLiteral → List Occurrence
right_side l = filter (λ o. nat_lt l.predicate.at o.at) l.arguments

abbrev pub is_one_variable : List Occurrence → Bool
is_one_variable [] = false
is_one_variable (o ∷ os) = is_variable o

-- each variable of the right side stands in the left side
abbrev pub left_holds_right : WrittenLiteral → Bool
left_holds_right l = list_all (λ o. list_any (same_name o) (filter is_variable (left_side l))) (filter is_variable (right_side l))

-- one positive equation, whose left side is no variable and holds every variable of the right side
abbrev pub is_demodulator : WrittenClause → Bool
is_demodulator [] = false
is_demodulator (l ∷ []) = l.positive && is_equation l && not (is_one_variable (left_side l)) && left_holds_right l
is_demodulator (l ∷ m ∷ ls) = false
