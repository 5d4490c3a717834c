-- What is read of all tokens where none passes a limit, or of those up to the first that does, is the answer.
use Rattle.std.proofs.Common.{◌≡◌, ◌∙◌, sym, ap, subst, refl, ℕ, zero, suc, ◌+◌, ◌-◌, ◌<◌, ◌≤◌, List, [], ◌∷◌, ◌++◌, length, map, take, drop, length-append, Option, Some, None, Result, Ok, Err, arith}
use Rattle.std.specs.Prelude.{unwrap_or}
use Rattle.sc_input_rules.specs.declared.fault.InputKind.{InputKind}
use Rattle.sc_input_rules.specs.declared.fault.Place.{Place}
use Rattle.sc_input_rules.specs.declared.token.Token.{Token}
use Rattle.sc_input_rules.specs.Reader.{Read}
use Rattle.sc_input_rules.specs.ProblemGrammar.{Item}
use Rattle.sc_input_rules.specs.ProblemLimits.{problem_bounds, problem_fault_at}
use Rattle.sc_input_rules.specs.Faults.{place, place_of, passed_behind, first_passed, judged}
use Rattle.sc_input_rules.proofs.Prefix.{Good}
use Rattle.sc_input_rules.proofs.PrefixOfProblems.{good_problem, good_items}
use Rattle.sc_input_rules.proofs.TwoPasses.{on_front, two_passes}
use Rattle.sc_input_scan.specs.Told.{failure_of}
use Rattle.sc_input_grammar.specs.declared.item.Ending.{Ending}
use Rattle.sc_input_grammar.specs.declared.item.Ending.TheVariants.{AtEnd, AtSection}
use Rattle.sc_input_grammar.specs.Items.{with_clipped, clipped_items}
use Rattle.sc_input.specs.Answer.{production, first_byte, read_at, fault_at, answer, seen, told_by, told}
use Rattle.sc_input_rules.proofs.Ends.{Leaves, LeavesEnd, problem-end, items-end}

-- ---- no limit is passed

read_up_to : {A : Type 0} (end : ℕ) (a : A) (left : List Token) → Ok (a, place_of end left) ≡ read_at a (first_byte (Ok end) left)
read_up_to end a [] = refl
read_up_to end a (t ∷ ts) = refl

failed_up_to : (end : ℕ) (kind : InputKind) (left : List Token) → place (place_of end left) kind ≡ fault_at kind (first_byte (Ok end) left)
failed_up_to end kind [] = refl
failed_up_to end kind (t ∷ ts) = refl

abbrev or_else : Option Place → Option Place → Option Place
or_else o p = elim o [ Some q ↦ Some q | None ↦ p ]

module _ (passes : List Token → Option Place) where
  -- what isn't passed isn't passed earlier
  unpassed-take : (earlier : List Token) (k : ℕ) (xs : List Token) → passed_behind passes earlier xs ≡ None → passed_behind passes earlier (take k xs) ≡ None
  unpassed-take earlier zero xs e = refl
  unpassed-take earlier (suc k) [] e = refl
  unpassed-take earlier (suc k) (x ∷ xs) e = by (passes (earlier ++ x ∷ [])) e (unpassed-take (earlier ++ x ∷ []) k xs)
    where
      by : (o : Option Place) → or_else o (passed_behind passes (earlier ++ x ∷ []) xs) ≡ None → (passed_behind passes (earlier ++ x ∷ []) xs ≡ None → passed_behind passes (earlier ++ x ∷ []) (take k xs) ≡ None) → or_else o (passed_behind passes (earlier ++ x ∷ []) (take k xs)) ≡ None
      by (Some q) e h = absurd cc
      by None e h = h e

  pub unlimited : {A B : Type 0} (view : A → B) (end : ℕ) (ts : List Token) (r : Read A) → first_passed passes ts ≡ None → told_by view end (judged passes end ts r) ≡ answer (Ok end) (seen view r)
  unlimited view end ts (Ok r) e =
      ap (λ (o : Option Place). told_by view end (elim o [ None ↦ Ok r | Some p ↦ Err p ])) (unpassed-take [] (length ts - length r.1) ts e)
      ∙ read_up_to end (view r.0) r.1
  unlimited view end ts (Err f) e =
      ap (λ (o : Option Place). told_by view end (Err (unwrap_or o (place (place_of end f.left) f.kind)))) (unpassed-take [] (length ts - length f.left) ts e)
      ∙ ap (λ (p : Place). Err p) (failed_up_to end f.kind f.left)

-- ---- the last token passes one

told_on_front : {A B : Type 0} (view : A → B) (end : ℕ) (more : List Token) (p : Place) (r : Read A) → told_by view end (on_front more p r) ≡ answer (Err p) (seen view r)
told_on_front {A} {B} view end more p (Ok r) = by r.0 r.1
  where
    by : (a : A) (left : List Token) → told_by view end (on_front more p (Ok (a, left))) ≡ answer (Err p) (seen view (Ok (a, left)))
    by a [] = refl
    by a (t ∷ ts) = refl
told_on_front {A} {B} view end more p (Err f) = by f.kind f.left
  where
    by : (kind : InputKind) (left : List Token) → told_by view end (on_front {A = A} more p (Err (record { left = left; kind = kind }))) ≡ answer (Err p) (seen view (Err (record { left = left; kind = kind })))
    by kind [] = refl
    by kind (t ∷ ts) = refl

record IsSplit (k : ℕ) (ts : List Token) : Type 0 where
  last : Token
  more : List Token
  front : take (k + 1) ts ≡ take k ts ++ last ∷ []
  whole : ts ≡ (take k ts ++ last ∷ []) ++ more

split : (k : ℕ) (ts : List Token) → k < length ts → IsSplit k ts
split k [] lt = absurd (omega (arith, lt))
split zero (t ∷ ts) lt = record { last = t; more = ts; front = refl; whole = refl }
split (suc k) (t ∷ ts) lt =
    let s = split k ts (omega (arith, lt)) in
    let n : suc k + 1 ≡ suc (k + 1) = omega arith in
    record { last = s.last; more = s.more; front = ap (λ (n : ℕ). take n (t ∷ ts)) n ∙ ap (λ us. t ∷ us) s.front; whole = ap (λ us. t ∷ us) s.whole }

module _ {A B : Type 0} (view : A → B) (production : List Token → Read A) (good : (n m : ℕ) → Good n m production production) (passes : List Token → Option Place) (end : ℕ) where
  abbrev whole_of : List Token → Result (B × ℕ) Place
  whole_of ts = told_by view end (judged passes end ts (production ts))

  limited_at : (init : List Token) (t : Token) (more : List Token) (p : Place) → first_passed passes init ≡ None → first_passed passes (init ++ t ∷ []) ≡ Some p
      → whole_of ((init ++ t ∷ []) ++ more) ≡ answer (Err p) (seen view (production (init ++ t ∷ [])))
  limited_at init t more p e e' =
      let g = good (length (init ++ t ∷ [])) (length ((init ++ t ∷ []) ++ more)) in
      ap (told_by view end) (two_passes passes end init t more (production (init ++ t ∷ [])) (production ((init ++ t ∷ []) ++ more)) p e e' (g.agrees (init ++ t ∷ []) more (omega arith) (omega arith)) (g.short (init ++ t ∷ [])))
      ∙ told_on_front view end more p (production (init ++ t ∷ []))

  pub limited : (ts : List Token) (k : ℕ) (p : Place) → k < length ts → first_passed passes (take k ts) ≡ None → first_passed passes (take (k + 1) ts) ≡ Some p
      → whole_of ts ≡ answer (Err p) (seen view (production (take (k + 1) ts)))
  limited ts k p lt e e' =
      let s = split k ts lt in
      ap whole_of s.whole
      ∙ limited_at (take k ts) s.last s.more p e (subst (λ us. first_passed passes us ≡ Some p) s.front e')
      ∙ sym (ap (λ us. answer (Err p) (seen view (production us))) s.front)

-- ---- a fault

drop_used : (used left : List Token) → drop (length used) (used ++ left) ≡ left
drop_used [] left = refl
drop_used (u ∷ us) left = drop_used us left

pub record FailsBehind {A : Type 0} (ts : List Token) (n : ℕ) (kind : InputKind) (r : Read A) : Type 0 where
  pub few : n ≤ length ts
  pub fails : (behind : Result ℕ Place) → answer behind r ≡ Err (fault_at kind (first_byte behind (drop (length ts - n) ts)))

seen-end : {A B : Type 0} (view : A → B) (ts : List Token) (r : Read A) → Leaves ts r → Leaves ts (seen view r)
seen-end view ts (Ok r) h = h
seen-end view ts (Err f) h = h

fails_from : {A : Type 0} (ts : List Token) (r : Read A) (n : ℕ) (kind : InputKind) → Leaves ts r → failure_of r ≡ Some (n, kind) → FailsBehind ts n kind r
fails_from ts (Ok r) n kind h e = absurd cc
fails_from ts (Err f) n kind h e =
    let m : length f.left ≡ n = ap (λ (o : Option (ℕ × InputKind)). elim o [ Some x ↦ x.0 | None ↦ 0 ]) e in
    let k : f.kind ≡ kind = ap (λ (o : Option (ℕ × InputKind)). elim o [ Some x ↦ x.1 | None ↦ f.kind ]) e in
    let all : length ts ≡ length h.used + length f.left = ap (λ (us : List Token). length us) h.is ∙ length-append h.used f.left in
    let used : length ts - n ≡ length h.used = omega (arith, m, all) in
    let left : drop (length ts - n) ts ≡ f.left = ap (λ (k : ℕ). drop k ts) used ∙ ap (λ (us : List Token). drop (length h.used) us) h.is ∙ drop_used h.used f.left in
    record { few = omega (arith, m, all); fails = λ behind. ap (λ kind. Err (fault_at kind (first_byte behind f.left))) k ∙ sym (ap (λ us. Err (fault_at kind (first_byte behind us))) left) }

pub fails_behind : {A B : Type 0} (view : A → B) (ts : List Token) (r : Read A) (n : ℕ) (kind : InputKind) → Leaves ts r → failure_of (seen view r) ≡ Some (n, kind) → FailsBehind ts n kind (seen view r)
fails_behind view ts r n kind h e = fails_from ts (seen view r) n kind (seen-end view ts r h) e

-- ---- items

production-end : (ending : Ending) → LeavesEnd (production ending)
production-end AtSection = items-end
production-end AtEnd = problem-end

good_production : (ending : Ending) (n m : ℕ) → Good n m (production ending) (production ending)
good_production AtSection = good_items
good_production AtEnd = good_problem

abbrev clips : List Item → List Item
clips is = map with_clipped is

production_fails : (ending : Ending) (ts : List Token) (n : ℕ) (kind : InputKind) → failure_of (clipped_items (production ending ts)) ≡ Some (n, kind) → FailsBehind ts n kind (clipped_items (production ending ts))
production_fails ending ts n kind e = fails_behind clips ts (production ending ts) n kind (production-end ending ts) e

pub few_left : (ending : Ending) (ts : List Token) (n : ℕ) (kind : InputKind) → failure_of (clipped_items (production ending ts)) ≡ Some (n, kind) → n ≤ length ts
few_left ending ts n kind e = (production_fails ending ts n kind e).few

pub answer_fails : (ending : Ending) (ts : List Token) (n : ℕ) (kind : InputKind) (behind : Result ℕ Place) → failure_of (clipped_items (production ending ts)) ≡ Some (n, kind)
    → answer behind (clipped_items (production ending ts)) ≡ Err (fault_at kind (first_byte behind (drop (length ts - n) ts)))
answer_fails ending ts n kind behind e = (production_fails ending ts n kind e).fails behind

pub judged_unlimited : (ending : Ending) (end : ℕ) (ts : List Token) → first_passed (problem_fault_at problem_bounds) ts ≡ None
    → told end (judged (problem_fault_at problem_bounds) end ts (production ending ts)) ≡ answer (Ok end) (clipped_items (production ending ts))
judged_unlimited ending end ts e = unlimited (problem_fault_at problem_bounds) clips end ts (production ending ts) e

pub judged_limited : (ending : Ending) (end : ℕ) (ts : List Token) (k : ℕ) (p : Place) → k < length ts
    → first_passed (problem_fault_at problem_bounds) (take k ts) ≡ None → first_passed (problem_fault_at problem_bounds) (take (k + 1) ts) ≡ Some p
    → told end (judged (problem_fault_at problem_bounds) end ts (production ending ts)) ≡ answer (Err p) (clipped_items (production ending (take (k + 1) ts)))
judged_limited ending end ts k p lt e e' = limited clips (production ending) (good_production ending) (problem_fault_at problem_bounds) end ts k p lt e e'
