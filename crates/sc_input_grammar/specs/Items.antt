-- Items as code answers them: a number beyond each of ten digits stands as the least such number of its sign.
use Rattle.std.specs.Prelude.{ℕ, suc, min, Bool, true, false, List, map, Option, Some, None, Ok, ℤ, pos, negsuc, neg_ℤ}
use Rattle.std.specs.List.{list_all}
use Rattle.std.specs.Str.Parse.{digits_value_after}
use Rattle.sc_input_rules.specs.Tokens.{is_digit}
use Rattle.sc_input_rules.specs.declared.token.Token.{Token}
use Rattle.sc_input_rules.specs.Reader.{Read, ◌>>=◌, Name}
use Rattle.sc_input_rules.specs.ProblemGrammar.{Item, Setting, Assignment, Listing, item, at_end, at_proof_or_end}
use Rattle.sc_input_grammar.specs.declared.item.Ending.{Ending}
use Rattle.sc_input_grammar.specs.declared.item.Ending.TheVariants.{AtEnd, AtSection}
use Rattle.sc_input_grammar.specs.declared.item.Name.{Name as Named}
use Rattle.sc_input_grammar.specs.declared.item.Item.{Item as Told}
use Rattle.sc_input_grammar.specs.declared.item.Item.TheVariants.{Setting as TheSetting, Assignment as TheAssignment, Listing as TheListing}

-- greater than each number of at most ten digits
abbrev pub beyond : ℕ
beyond = 10000000000

-- at most that, and at least its negative
abbrev pub clipped : ℤ → ℤ
clipped (pos n) = pos (min n beyond)
clipped (negsuc n) = neg_ℤ (pos (min (suc n) beyond))

-- a number that is read, clipped
abbrev pub clipped_read : Read ℤ → Read ℤ
clipped_read read = read >>= λ n. Ok (clipped n.0, n.1)

-- the number that digits write, clipped; none where another byte is among them
abbrev pub clipped_numeral : List ℕ → Option ℕ
clipped_numeral text = elim (list_all is_digit text) [ true ↦ Some (min (digits_value_after 10 0 text) beyond) | false ↦ None ]

-- ---- items

-- as a name of the grammar
abbrev pub name_of : Named → Name
name_of n = record { at = n.at; text = n.text }

-- as an item of the grammar
abbrev pub item_of : Told → Item
item_of (TheSetting n positive) = Setting (name_of n) positive
item_of (TheAssignment n value) = Assignment (name_of n) value
item_of (TheListing n clauses) = Listing (name_of n) clauses

-- the same of a list of them
abbrev pub items_of : List Told → List Item
items_of = map item_of

-- an item with its number clipped
abbrev pub with_clipped : Item → Item
with_clipped (Setting n positive) = Setting n positive
with_clipped (Assignment n value) = Assignment n (clipped value)
with_clipped (Listing n clauses) = Listing n clauses

-- an item that is read, its number clipped
abbrev pub clipped_item : Read Item → Read Item
clipped_item read = read >>= λ r. Ok (with_clipped r.0, r.1)

-- the production of an item, its number clipped
abbrev pub told_item : List Token → Read Item
told_item tokens = clipped_item (item tokens)

-- items that are read, their numbers clipped
abbrev pub clipped_items : Read (List Item) → Read (List Item)
clipped_items read = read >>= λ r. Ok (map with_clipped r.0, r.1)

-- where a problem ends, which a section of a proof or a run may follow
abbrev pub ends_at : Ending → List Token → Bool
ends_at AtSection = at_proof_or_end
ends_at AtEnd = at_end
