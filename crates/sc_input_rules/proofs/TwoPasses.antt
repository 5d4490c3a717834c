-- Where the first limit is passed by the last of some tokens, reading those tokens alone decides the answer. So limits
-- may be looked for first, and productions then read no further than that token.
use Rattle.std.proofs.Common.{◌≡◌, ◌∙◌, ap, refl, ℕ, zero, suc, ◌+◌, ◌-◌, ◌≤◌, List, [], ◌∷◌, ◌++◌, length, take, Option, Some, None, Result, Ok, Err, arith}
use Rattle.std.specs.Prelude.{unwrap_or}
use Rattle.std.proofs.lemmas.List.{length-append, take-append-le}
use Rattle.std.proofs.Math.Seq.{take-append-add}
use Rattle.sc_input_rules.specs.declared.fault.InputKind.{InputKind}
use Rattle.sc_input_rules.specs.declared.fault.Place.{Place}
use Rattle.sc_input_rules.specs.declared.token.Token.{Token}
use Rattle.sc_input_rules.specs.Token.{at_of}
use Rattle.sc_input_rules.specs.Reader.{Read}
use Rattle.sc_input_rules.specs.Faults.{place, place_of, passed_behind, first_passed, before, judged}
use Rattle.sc_input_rules.proofs.Shrinking.{LeavesAtMost}
use Rattle.sc_input_rules.proofs.Prefix.{Agrees, ok_agrees, err_agrees}

abbrev or_else : Option Place → Option Place → Option Place
or_else o p = elim o [ Some q ↦ Some q | None ↦ p ]

module _ (fault_at : List Token → Option Place) where
  -- what is passed stays passed
  passed-append : (earlier xs ys : List Token) (p : Place) → passed_behind fault_at earlier xs ≡ Some p → passed_behind fault_at earlier (xs ++ ys) ≡ Some p
  passed-append earlier [] ys p e = absurd cc
  passed-append earlier (x ∷ xs) ys p e = by (fault_at (earlier ++ x ∷ [])) e (passed-append (earlier ++ x ∷ []) xs ys p)
    where
      by : (o : Option Place) → or_else o (passed_behind fault_at (earlier ++ x ∷ []) xs) ≡ Some p → (passed_behind fault_at (earlier ++ x ∷ []) xs ≡ Some p → passed_behind fault_at (earlier ++ x ∷ []) (xs ++ ys) ≡ Some p) → or_else o (passed_behind fault_at (earlier ++ x ∷ []) (xs ++ ys)) ≡ Some p
      by (Some q) e h = e
      by None e h = h e

  -- what isn't passed isn't passed earlier
  passed-take : (earlier : List Token) (k : ℕ) (xs : List Token) → passed_behind fault_at earlier xs ≡ None → passed_behind fault_at earlier (take k xs) ≡ None
  passed-take earlier zero xs e = refl
  passed-take earlier (suc k) [] e = refl
  passed-take earlier (suc k) (x ∷ xs) e = by (fault_at (earlier ++ x ∷ [])) e (passed-take (earlier ++ x ∷ []) k xs)
    where
      by : (o : Option Place) → or_else o (passed_behind fault_at (earlier ++ x ∷ []) xs) ≡ None → (passed_behind fault_at (earlier ++ x ∷ []) xs ≡ None → passed_behind fault_at (earlier ++ x ∷ []) (take k xs) ≡ None) → or_else o (passed_behind fault_at (earlier ++ x ∷ []) (take k xs)) ≡ None
      by (Some q) e h = absurd cc
      by None e h = h e

  past : (front more left : List Token) (p : Place) → first_passed fault_at front ≡ Some p → length left ≤ length more → first_passed fault_at (before left (front ++ more)) ≡ Some p
  past front more left p e le =
      let k : length (front ++ more) - length left ≡ length front + (length more - length left) = omega (arith, le, length-append front more) in
      ap (λ (k : ℕ). first_passed fault_at (take k (front ++ more))) k ∙ ap (first_passed fault_at) (take-append-add front more (length more - length left)) ∙ passed-append [] front (take (length more - length left) more) p e

  not_yet : (init : List Token) (t u : Token) (us more : List Token) → first_passed fault_at init ≡ None → length (u ∷ us) ≤ length (init ++ t ∷ []) → first_passed fault_at (before ((u ∷ us) ++ more) ((init ++ t ∷ []) ++ more)) ≡ None
  not_yet init t u us more e le =
      let front = init ++ t ∷ [] in
      let k = length init - length us in
      let ends : length (init ++ t ∷ []) ≡ length init + 1 = length-append init (t ∷ []) in
      let n : length ((init ++ t ∷ []) ++ more) - length ((u ∷ us) ++ more) ≡ length init - length us = omega (arith, le, ends, length-append (init ++ t ∷ []) more, length-append (u ∷ us) more) in
      ap (λ (k : ℕ). first_passed fault_at (take k ((init ++ t ∷ []) ++ more))) n
      ∙ ap (first_passed fault_at) (take-append-le (length init - length us) (init ++ t ∷ []) more (omega (arith, ends)) ∙ take-append-le (length init - length us) init (t ∷ []) (omega arith))
      ∙ passed-take [] (length init - length us) init e

-- the answer, from what is read of the tokens up to the limit
abbrev pub ok_on_front : {A : Type 0} → List Token → Place → A → List Token → Result (A × List Token) Place
ok_on_front more p a [] = Err p
ok_on_front more p a (t ∷ ts) = Ok (a, (t ∷ ts) ++ more)

abbrev pub err_on_front : {A : Type 0} → Place → InputKind → List Token → Result (A × List Token) Place
err_on_front p kind [] = Err p
err_on_front p kind (t ∷ ts) = Err (place (at_of t) kind)

abbrev pub on_front : {A : Type 0} → List Token → Place → Read A → Result (A × List Token) Place
on_front more p (Ok r) = ok_on_front more p r.0 r.1
on_front more p (Err f) = err_on_front p f.kind f.left

judged_past : {A : Type 0} (fault_at : List Token → Option Place) (end : ℕ) (front more : List Token) (s : Read A) (p : Place) → first_passed fault_at front ≡ Some p → LeavesAtMost (length more) s → judged fault_at end (front ++ more) s ≡ Err p
judged_past fault_at end front more (Ok r) p e le = ap (λ (o : Option Place). elim o [ None ↦ Ok r | Some p ↦ Err p ]) (past fault_at front more r.1 p e le)
judged_past fault_at end front more (Err f) p e le = ap (λ (o : Option Place). Err (unwrap_or o (place (place_of end f.left) f.kind))) (past fault_at front more f.left p e le)

pub two_passes : {A : Type 0} (fault_at : List Token → Option Place) (end : ℕ) (init : List Token) (t : Token) (more : List Token) (r s : Read A) (p : Place)
    → first_passed fault_at init ≡ None → first_passed fault_at (init ++ t ∷ []) ≡ Some p → Agrees more r s → LeavesAtMost (length (init ++ t ∷ [])) r
    → judged fault_at end ((init ++ t ∷ []) ++ more) s ≡ on_front more p r
two_passes {A} fault_at end init t more (Ok r) s p e e' h le = by r.0 r.1 h le
  where
    by : (a : A) (left : List Token) → ok_agrees more a left s → length left ≤ length (init ++ t ∷ []) → judged fault_at end ((init ++ t ∷ []) ++ more) s ≡ ok_on_front more p a left
    by a [] h le = judged_past fault_at end (init ++ t ∷ []) more s p e' h
    by a (u ∷ us) h le =
        ap (judged fault_at end ((init ++ t ∷ []) ++ more)) h
        ∙ ap (λ (o : Option Place). elim o [ None ↦ Ok (a, (u ∷ us) ++ more) | Some p ↦ Err p ]) (not_yet fault_at init t u us more e le)
two_passes {A} fault_at end init t more (Err f) s p e e' h le = by f.left h le
  where
    by : (left : List Token) → err_agrees more f.kind left s → length left ≤ length (init ++ t ∷ []) → judged fault_at end ((init ++ t ∷ []) ++ more) s ≡ err_on_front p f.kind left
    by [] h le = judged_past fault_at end (init ++ t ∷ []) more s p e' h
    by (u ∷ us) h le =
        ap (judged fault_at end ((init ++ t ∷ []) ++ more)) h
        ∙ ap (λ (o : Option Place). Err (unwrap_or o (place (at_of u) f.kind))) (not_yet fault_at init t u us more e le)
