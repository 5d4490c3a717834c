-- A subterm replaced, from its parts.
use Rattle.std.proofs.Common.{◌≡◌, ◌∙◌, sym, ap, subst, ℕ, suc, ◌+◌, ◌-◌, ◌<◌, List, [], ◌∷◌, ◌++◌, append_assoc, length, get_or, take, drop, Result, Ok, Err, IfOk, Some, arith}
use Rattle.std.specs.Prelude.{slice_set}
use Rattle.sc_term.specs.declared.Term.{Term}
use Rattle.sc_term.specs.Numbering.{numbered, with_element}
use Rattle.sc_term.specs.Path.{IsSubtermAt, IsReplaced}
use Rattle.sc_steps.specs.Replacement.{IsTermReplaced}
use Rattle.sc_steps.proofs.ChangedElement.{set_parts, back_range}
use Rattle.sc_steps.proofs.LineLaws.{number_at, number_within}
use Rattle.sc_demod.proofs.FindLaws.{split, at_got}

pub put_parts : {A : Type 0} (xs : List A) (i : ℕ) (x : A) (front mid back whole : List A) → i < length xs → front ≡ take i xs → mid ≡ front ++ x ∷ [] → back ≡ take (length xs - (i + 1)) (drop (i + 1) xs)
    → whole ≡ mid ++ back → whole ≡ slice_set xs i x
put_parts xs i x front mid back whole less f m b w =
    w ∙ (λ n. m n ++ b n) ∙ (λ n. (f n ++ x ∷ []) ++ back_range xs i n) ∙ append_assoc (take i xs) (x ∷ []) (drop (suc i) xs) ∙ sym (set_parts xs i x less)

replaced_at : (args : List Term) (n : ℕ) (rest : List ℕ) (redex value t new : Term) (all : List Term) → numbered args n ≡ Some t → IsTermReplaced t rest redex value new → all ≡ with_element args n new
    → IsReplaced args (n ∷ rest) redex value all
replaced_at args n [] redex value t new all there h grows = (there ∙ ap Some h.0, grows ∙ ap (with_element args n) h.1)
replaced_at args n (j ∷ path) redex value t new all there h grows = (h.0, h.1, h.2, there ∙ ap Some h.3, h.4, grows ∙ ap (with_element args n) h.5)

pub replaced_where : {E : Type 0} (r : Result (List Term) E) (args : List Term) (path : List ℕ) (n : ℕ) (rest : List ℕ) (redex value t new : Term) → path ≡ n ∷ rest → IsSubtermAt args path redex
    → t ≡ get_or args (n - 1) t → IsTermReplaced t rest redex value new → IfOk r (λ all. all ≡ slice_set args (n - 1) new) → IfOk r (λ all. IsReplaced args path redex value all)
replaced_where (Err e) args path n rest redex value t new p sub at h made = tt
replaced_where (Ok all) args path n rest redex value t new p sub at h made =
    let there = split args n rest redex (subst (λ q. IsSubtermAt args q redex) p sub) in
    let within = number_within args n there.0 there.1 in
    subst (λ q. IsReplaced args q redex value all) (sym p)
    (replaced_at args n rest redex value t new all (number_at args n t within.0 (at_got args (n - 1) t (omega (arith, within.0, within.1)) at)) h made)
