-- What was judged says what the bytes are.
use Rattle.std.proofs.Common.{◌≡◌, ◌∙◌, sym, ap, subst, refl, ℕ, List, length, map, Result, Ok, Err}
use Rattle.sc_input_rules.specs.declared.fault.Place.{Place}
use Rattle.sc_input_rules.specs.declared.token.Token.{Token}
use Rattle.sc_input_rules.specs.ProblemGrammar.{Item}
use Rattle.sc_input_rules.specs.ProblemLimits.{problem_bounds}
use Rattle.sc_input_rules.specs.Faults.{place_of}
use Rattle.sc_input_rules.specs.Problem.{Stated, stated}
use Rattle.sc_input_rules.specs.Reading.{judged_items, problem_of, StatedItems, items_of}
use Rattle.sc_input_rules.specs.WellFormed.{IsProblem}
use Rattle.sc_input_rules.proofs.ReadProblems as reading
use Rattle.sc_input_grammar.specs.declared.item.Ending.TheVariants.{AtEnd, AtSection}
use Rattle.sc_input_grammar.specs.Items.{with_clipped}
use Rattle.sc_input.specs.declared.refusal.InputError.{InputError}
use Rattle.sc_input.specs.declared.refusal.InputError.TheVariants.{Refused, OutOfMemory}
use Rattle.sc_input.specs.Refusal.{Refuses}
use Rattle.sc_input.specs.Answer.{production, told, judged_at}
use Rattle.sc_input.proofs.Clipped.{stated-clipped}

abbrev Judged : Type 0
Judged = Result (List Item × List Token) Place

as_stated : Judged → Result Stated Place
as_stated r = elim r [ Ok r ↦ Ok (stated r.0) | Err p ↦ Err p ]

with_rest : List ℕ → Judged → Result StatedItems Place
with_rest bytes r = elim r [ Ok r ↦ Ok (record { problem = stated r.0; rest = place_of (length bytes) r.1 }) | Err p ↦ Err p ]

-- ---- what is read

record IsRead (r : Judged) (end : ℕ) (is : List Item) (at : ℕ) : Type 0 where
  written : List Item
  left : List Token
  read : r ≡ Ok (written, left)
  clipped : map with_clipped written ≡ is
  rest : place_of end left ≡ at

is_read : (r : Judged) (end : ℕ) (is : List Item) (at : ℕ) → told end r ≡ Ok (is, at) → IsRead r end is at
is_read (Ok v) end is at e =
    record {
      written = v.0;
      left = v.1;
      read = refl;
      clipped = ap (λ (r : Result (List Item × ℕ) Place). elim r [ Ok v ↦ v.0 | Err p ↦ is ]) e;
      rest = ap (λ (r : Result (List Item × ℕ) Place). elim r [ Ok v ↦ v.1 | Err p ↦ at ]) e;
    }
is_read (Err p) end is at e = absurd cc

-- it states what was written, which keeps what problems keep
same_stated : (written is : List Item) → map with_clipped written ≡ is → IsProblem (stated written) → stated written ≡ stated is
same_stated written is e h = sym (stated-clipped written h.params) ∙ ap stated e

pub record States (bytes : List ℕ) (is : List Item) : Type 0 where
  pub meant : problem_of bytes ≡ Ok (stated is)
  pub keeps : IsProblem (stated is)

pub problem_stated : (bytes : List ℕ) (is : List Item) (at : ℕ) → judged_at AtEnd bytes ≡ Ok (is, at) → States bytes is
unfolding as_stated
problem_stated bytes is at e =
    let r = is_read (judged_items problem_bounds (production AtEnd) bytes) (length bytes) is at e in
    let whole : problem_of bytes ≡ Ok (stated r.written) = ap as_stated r.read in
    let keeps = reading.read_problem bytes (stated r.written) whole in
    let same = same_stated r.written is r.clipped keeps in
    record { meant = whole ∙ ap Ok same; keeps = subst IsProblem same keeps }

pub record StatesBefore (bytes : List ℕ) (is : List Item) (at : ℕ) : Type 0 where
  pub meant : items_of bytes ≡ Ok (record { problem = stated is; rest = at })
  pub keeps : IsProblem (stated is)

pub items_stated : (bytes : List ℕ) (is : List Item) (at : ℕ) → judged_at AtSection bytes ≡ Ok (is, at) → StatesBefore bytes is at
unfolding with_rest
items_stated bytes is at e =
    let r = is_read (judged_items problem_bounds (production AtSection) bytes) (length bytes) is at e in
    let all : StatedItems = record { problem = stated r.written; rest = place_of (length bytes) r.left } in
    let whole : items_of bytes ≡ Ok all = ap (with_rest bytes) r.read in
    let keeps = reading.read_items bytes all whole in
    let same = same_stated r.written is r.clipped keeps in
    record { meant = whole ∙ (λ j. Ok (record { problem = same j; rest = r.rest j })); keeps = subst IsProblem same keeps }

-- ---- what is refused

abbrev place_or : {X : Type 0} → Place → Result X Place → Place
place_or p (Ok x) = p
place_or p (Err q) = q

told_refused : (r : Judged) (end : ℕ) (p : Place) → told end r ≡ Err p → r ≡ Err p
told_refused (Ok v) end p e = absurd cc
told_refused (Err q) end p e = let same : q ≡ p = ap (place_or q) e in ap Err same

pub problem_refused : (bytes : List ℕ) (e : InputError) → Refuses e (judged_at AtEnd bytes) → Refuses e (problem_of bytes)
unfolding as_stated
problem_refused bytes (Refused p) h = ap as_stated (told_refused (judged_items problem_bounds (production AtEnd) bytes) (length bytes) p h)
problem_refused bytes OutOfMemory h = h

pub items_refused : (bytes : List ℕ) (e : InputError) → Refuses e (judged_at AtSection bytes) → Refuses e (items_of bytes)
unfolding with_rest
items_refused bytes (Refused p) h = ap (with_rest bytes) (told_refused (judged_items problem_bounds (production AtSection) bytes) (length bytes) p h)
items_refused bytes OutOfMemory h = h
