-- What reading some first tokens of a text says of all of it.
use Rattle.std.specs.Prelude.{◌≡◌, ℕ, List, [], ◌∷◌, length, map, Result, Ok, Err}
use Rattle.sc_input_rules.specs.declared.fault.InputKind.{InputKind}
use Rattle.sc_input_rules.specs.declared.fault.Place.{Place}
use Rattle.sc_input_rules.specs.declared.token.Token.{Token}
use Rattle.sc_input_rules.specs.Token.{at_of}
use Rattle.sc_input_rules.specs.Reader.{Read, ◌>>=◌}
use Rattle.sc_input_rules.specs.ProblemGrammar.{Item, problem, items}
use Rattle.sc_input_rules.specs.ProblemLimits.{problem_bounds}
use Rattle.sc_input_rules.specs.Faults.{place, place_of}
use Rattle.sc_input_rules.specs.Reading.{judged_items}
use Rattle.sc_input_grammar.specs.declared.item.Ending.{Ending}
use Rattle.sc_input_grammar.specs.declared.item.Ending.TheVariants.{AtEnd, AtSection}
use Rattle.sc_input_grammar.specs.Items.{with_clipped}
use Rattle.sc_input.specs.declared.refusal.InputError.{InputError}
use Rattle.sc_input.specs.Refusal.{Refuses}

-- the production of a problem: one that a section of a proof or a run may follow, or one that ends with the text
abbrev pub production : Ending → List Token → Read (List Item)
production AtSection = items
production AtEnd = problem

-- where the first of the tokens left begins; where none is left, what stands behind them: the byte at which the text
-- ends, or the limit that the last of them passes
abbrev pub first_byte : Result ℕ Place → List Token → Result ℕ Place
first_byte behind [] = behind
first_byte behind (t ∷ tokens) = Ok (at_of t)

-- a value, and the byte behind it
abbrev pub read_at : {A : Type 0} → A → Result ℕ Place → Result (A × ℕ) Place
read_at a (Ok at) = Ok (a, at)
read_at a (Err p) = Err p

-- a fault of that kind at the byte
abbrev pub fault_at : InputKind → Result ℕ Place → Place
fault_at kind (Ok at) = place at kind
fault_at kind (Err p) = p

-- what was read, with what stands behind the tokens
abbrev pub answer : {A : Type 0} → Result ℕ Place → Read A → Result (A × ℕ) Place
answer behind (Ok r) = read_at r.0 (first_byte behind r.1)
answer behind (Err f) = Err (fault_at f.kind (first_byte behind f.left))

-- what is read, seen by view
abbrev pub seen : {A B : Type 0} → (A → B) → Read A → Read B
seen view read = read >>= λ r. Ok (view r.0, r.1)

-- what was judged: the value, seen by view, and the byte behind it
abbrev pub told_by : {A B : Type 0} → (A → B) → ℕ → Result (A × List Token) Place → Result (B × ℕ) Place
told_by view end (Ok r) = Ok (view r.0, place_of end r.1)
told_by view end (Err p) = Err p

-- the same of items, their numbers clipped
abbrev pub told : ℕ → Result (List Item × List Token) Place → Result (List Item × ℕ) Place
told end judgement = told_by (map with_clipped) end judgement

-- the same of bytes
abbrev pub judged_at : Ending → List ℕ → Result (List Item × ℕ) Place
judged_at ending bytes = told (length bytes) (judged_items problem_bounds (production ending) bytes)

-- what a call returned, seen by view, is what was meant, unless memory ran out
abbrev pub Tells : {X Y : Type 0} → (X → Y) → Result X InputError → Result Y Place → Type 0
Tells view (Ok x) meant = meant ≡ Ok (view x)
Tells view (Err e) meant = Refuses e meant
