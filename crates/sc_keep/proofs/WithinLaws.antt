-- Merging and the canonical form keep the last clause within the limits.
use Rattle.std.proofs.Common.{◌≡◌, ◌∙◌, sym, ap, subst, refl, ℕ, zero, suc, ◌-◌, ◌≤◌, max, List, [], ◌∷◌, ◌++◌, length, map, sum, nat_eq, Some, Option, arith, append-nil, length-append}
use Rattle.std.specs.Prelude.{IsSomeAnd}
use Rattle.std.specs.List.{fold, position_or_len, remove}
use Rattle.std.proofs.lemmas.List.Sums.{sum_by-cons}
use Rattle.sc_term.specs.declared.Literal.{Literal}
use Rattle.sc_term.specs.declared.Clause.{Clause}
use Rattle.sc_term.specs.declared.Line.{Line}
use Rattle.sc_term.specs.declared.Step.TheVariants.{Merge}
use Rattle.sc_term.specs.Term.{largest}
use Rattle.sc_term.specs.Clause.{IsWithinLimits, firsts, literal_depth, literal_weight, variables}
use Rattle.sc_term.specs.JointInstance.{canonical, renumbering, whole}
use Rattle.sc_term.specs.Numbering.{numbered}
use Rattle.sc_term.specs.Proof.{IsMerged, clause_of}
use Rattle.sc_steps.specs.Derivation.{last_clause}
use Rattle.sc_steps.proofs.ListLaws.{some_and}
use Rattle.sc_steps.proofs.LineLaws.{clause_of_end, some_so}
use Rattle.sc_unify.proofs.JointLaws.{limits_kept}
use Rattle.sc_core_rules.specs.Order.{Exhausts, ends, goes}
use Rattle.sc_core_rules.specs.Derivation.{EndsCanonical}
use Rattle.sc_core_rules.specs.Simplification.{MergesOnce}
use Rattle.sc_keep.proofs.CanonicalForm.{ends_with}

-- the last clause is within the limits
abbrev pub EndsWithin : List Line → Type 0
EndsWithin lines = IsSomeAnd (last_clause lines) (λ c. IsWithinLimits c)

pub each_within : (lines : List Line) (c : Clause) → EndsWithin lines → last_clause lines ≡ Some c → IsWithinLimits c
each_within lines c h e =
    let found = some_and (last_clause lines) (λ c. IsWithinLimits c) h in
    let same : ◌≡◌ {A = Option Clause} (Some found.0) (Some c) = sym found.1 ∙ e in
    let is : found.0 ≡ c = cc in
    subst IsWithinLimits is found.2

-- ---- the canonical form

whole_one : (c : Clause) → whole (c ∷ []) ≡ c
whole_one c = ap (λ (ls : List Literal). let d : Clause = record { literals = ls } in d) (append-nil c.literals)

canonical_within : (c : Clause) → IsWithinLimits c → IsWithinLimits (canonical c)
canonical_within c h =
    subst IsWithinLimits (whole_one (canonical c))
    ((limits_kept (renumbering (firsts (variables c))) (λ n. position_or_len (nat_eq n) (firsts (variables c))) (λ n. refl) (c ∷ [])).0 (subst IsWithinLimits (sym (whole_one c)) h))

-- ---- a literal less

sum_less : (ls : List Literal) (k : ℕ) → sum (map literal_weight (remove ls k)) ≤ sum (map literal_weight ls)
sum_less [] zero = omega arith
sum_less [] (suc k) = omega arith
sum_less (l ∷ ls) zero = omega (arith, sum_by-cons (λ n. n) (literal_weight l) (map literal_weight ls))
sum_less (l ∷ ls) (suc k) =
    omega (arith, sum_less ls k, sum_by-cons (λ n. n) (literal_weight l) (map literal_weight ls), sum_by-cons (λ n. n) (literal_weight l) (map literal_weight (remove ls k)))

from_less : (a b : ℕ) (ns : List ℕ) → a ≤ b → fold max a ns ≤ fold max b ns
from_less a b [] less = less
from_less a b (n ∷ ns) less = from_less (max a n) (max b n) ns (omega (arith, less))

largest_less : (a : ℕ) (ls : List Literal) (k : ℕ) → fold max a (map literal_depth (remove ls k)) ≤ fold max a (map literal_depth ls)
largest_less a [] zero = omega arith
largest_less a [] (suc k) = omega arith
largest_less a (l ∷ ls) zero = from_less a (max a (literal_depth l)) (map literal_depth ls) (omega arith)
largest_less a (l ∷ ls) (suc k) = largest_less (max a (literal_depth l)) ls k

less_within : (c d : Clause) (k : ℕ) → d.literals ≡ remove c.literals k → IsWithinLimits c → IsWithinLimits d
less_within c d k e h =
    let light = subst (λ (ls : List Literal). sum (map literal_weight ls) ≤ sum (map literal_weight c.literals)) (sym e) (sum_less c.literals k) in
    let shallow = subst (λ (ls : List Literal). largest (map literal_depth ls) ≤ largest (map literal_depth c.literals)) (sym e) (largest_less 0 c.literals k) in
    record { light = omega (arith, light, h.light); shallow = omega (arith, shallow, h.shallow) }

-- ---- merging

merged_once : (before after : List Line) → MergesOnce before after → EndsWithin before → EndsWithin after
merged_once before after m h =
    let c = m.merges.0 in
    let line : Line = record { step = Merge (length before) m.a; clause = c } in
    let of = some_and (clause_of before (length before)) (λ of. IsMerged of m.a c) m.merges.1 in
    let literal = some_and (numbered (of.0).literals m.a) _ of.2 in
    let within = less_within of.0 c (m.a - 1) literal.2.1 (each_within before of.0 h of.1) in
    let there : last_clause after ≡ Some c = ap last_clause m.merges.2 ∙ ap (clause_of (before ++ line ∷ [])) (length-append before (line ∷ [])) ∙ clause_of_end before line in
    some_so (last_clause after) (λ c. IsWithinLimits c) c there within

pub merged_within : (before after : List Line) → Exhausts MergesOnce before after → EndsWithin before → EndsWithin after
merged_within before after (ends none) h = h
merged_within before after (goes {y = mid} m rest) h = merged_within mid after rest (merged_once before mid m h)

-- ---- the end

pub canonical_end_within : (before after : List Line) → EndsCanonical before after → EndsWithin before → (c : Clause) → last_clause after ≡ Some c → IsWithinLimits c
canonical_end_within before after e h =
    (ends_with IsWithinLimits before after e (λ c there _. each_within before c h there) (λ c there. canonical_within c (each_within before c h there))).1
