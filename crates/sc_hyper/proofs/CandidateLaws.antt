-- The candidates that the loops find are those of the usable clauses, in order.
use Rattle.std.proofs.Common.{◌≡◌, ◌∙◌, sym, ap, subst, refl, ℕ, zero, suc, ◌+◌, ◌<◌, ◌≤◌, max, fold, inl, inr, List, [], ◌∷◌, ◌++◌, length, length-append, map, Some, None, Option, true, false, nat_eq, slice_get, get_or, arith}
use Rattle.std.specs.Prelude.{AllPairs}
use Rattle.std.specs.List.{All, list_all}
use Rattle.std.proofs.lemmas.Bool.{eq-eqb}
use Rattle.std.proofs.lemmas.List.Sums.{AllPass-from_list_all, list_all-from_AllPass}
use Rattle.std.proofs.lemmas.List.Elements.{All-contains}
use Rattle.std.proofs.lemmas.Option.{slice_get_within, get_or_from_slice_get}
use Rattle.sc_term.specs.declared.Literal.{Literal}
use Rattle.sc_term.specs.declared.Clause.{Clause}
use Rattle.sc_term.specs.declared.Numbered.{Numbered}
use Rattle.sc_term.specs.Numbering.{numbered}
use Rattle.sc_term.specs.Term.{largest}
use Rattle.sc_term.specs.Clause.{width, literal_width}
use Rattle.sc_core_rules.specs.Order.{IsBefore}
use Rattle.sc_core_rules.specs.Hyperresolution.{IsPositive}
use Rattle.sc_core_rules.proofs.StepLaws.{same_some}
use Rattle.sc_resolve.specs.Extending.{Extends, Below}
use Rattle.sc_resolve.specs.Kept.{IsKept}
use Rattle.sc_resolve.proofs.Extending.{Rising, same, one, nothing}
use Rattle.sc_resolve.proofs.LiteralLaws.{numbered_next, numbered_place, contains_at, at_contains}
use Rattle.sc_resolve.proofs.KeptLaws.{kept_width}
use Rattle.sc_hyper.specs.declared.candidates.Candidate.{Candidate}
use Rattle.sc_hyper.specs.Candidates.{candidate_numbers, IsCandidate, AreCandidates, IsNarrow, IsSingle, IsOfElectron, IsOfUsable}
use Rattle.sc_hyper.proofs.ExtendingLaws.{in_order}

abbrev pub candidate : ℕ → ℕ → ℕ → Literal → Candidate
candidate number lit wide l = record { number = number; lit = lit; wide = wide; literal = l }

abbrev pub candidate_of : Numbered → ℕ → Literal → Candidate
candidate_of e lit l = record { number = e.number; lit = lit; wide = width e.clause; literal = l }

ordered : (x y u v : Candidate) → x ≡ u → y ≡ v → IsBefore (candidate_numbers u) (candidate_numbers v) → IsBefore (candidate_numbers x) (candidate_numbers y)
ordered x y u v e f h = subst (λ (z : Candidate). IsBefore (candidate_numbers z) (candidate_numbers y)) (sym e) (subst (λ (z : Candidate). IsBefore (candidate_numbers u) (candidate_numbers z)) (sym f) h)

pub of_electron_rise : (e : Numbered) → Rising candidate_numbers (IsOfElectron e)
of_electron_rise e j k x y less h i = ordered x y (candidate_of e (j + 1) h.0) (candidate_of e (k + 1) i.0) h.2 i.2 (inr (refl, inl (omega arith)))

pub of_usable_rise : (Fits : Clause → Type 0) (usable : List Numbered) → AllPairs (λ p q. p.number < q.number) usable → Rising candidate_numbers (IsOfUsable Fits usable)
of_usable_rise Fits usable up j k x y less h i =
    ordered x y (candidate_of h.0 (h.3.0 + 1) h.3.2.0) (candidate_of i.0 (i.3.0 + 1) i.3.2.0) h.3.2.2 i.3.2.2 (inl numbers)
  where
    numbers : h.0.number < i.0.number
    numbers =
        subst (λ (q : Numbered). h.0.number < q.number) (get_or_from_slice_get usable k i.0 h.0 i.1)
        (subst (λ (q : Numbered). q.number < (get_or usable k h.0).number) (get_or_from_slice_get usable j h.0 h.0 h.1) (up j k h.0 less (slice_get_within usable k i.0 i.1)))

pub added : (e : Numbered) (k : ℕ) (l : Literal) → slice_get e.clause.literals k ≡ Some l → (xs ys : List Candidate) → ys ≡ xs ++ candidate_of e (k + 1) l ∷ []
    → Extends candidate_numbers (IsOfElectron e k) (length ys + 1) xs ys
added e k l there xs ys grown =
    one candidate_numbers (length ys + 1) (IsOfElectron e k) xs ys (candidate_of e (k + 1) l) (omega (arith, ap (λ (zs : List Candidate). length zs) grown, length-append xs (candidate_of e (k + 1) l ∷ []))) grown
    (l, there, refl) (λ y h. ap (candidate_of e (k + 1)) (same_some (slice_get e.clause.literals k) l h.0 there h.1) ∙ sym h.2)

pub with_electron : (Fits : Clause → Type 0) (usable : List Numbered) (k : ℕ) (e : Numbered) → slice_get usable k ≡ Some e → Fits e.clause → (n : ℕ) (xs ys : List Candidate)
    → Extends candidate_numbers (Below (IsOfElectron e) (length e.clause.literals)) n xs ys → Extends candidate_numbers (IsOfUsable Fits usable k) n xs ys
with_electron Fits usable k e there positive n xs ys h =
    same candidate_numbers n (Below (IsOfElectron e) (length e.clause.literals)) (IsOfUsable Fits usable k) xs ys h
    (λ x b. (e, there, positive, b))
    (λ x b. subst (λ (q : Numbered). Below (IsOfElectron q) (length q.clause.literals) x) (same_some (slice_get usable k) b.0 e b.1 there) b.3)

pub no_electron : (Fits : Clause → Type 0) (usable : List Numbered) (k : ℕ) (e : Numbered) → slice_get usable k ≡ Some e → ¬ Fits e.clause → (n : ℕ) (xs : List Candidate) → Extends candidate_numbers (IsOfUsable Fits usable k) n xs xs
no_electron Fits usable k e there not_positive n xs =
    nothing candidate_numbers n (IsOfUsable Fits usable k) xs (λ x b. not_positive (subst (λ (q : Numbered). Fits q.clause) (same_some (slice_get usable k) b.0 e b.1 there) b.2))

pub are_candidates : (Fits : Clause → Type 0) (usable : List Numbered) (cs : List Candidate) → Extends candidate_numbers (Below (IsOfUsable Fits usable) (length usable)) (length cs + 1) [] cs → AreCandidates Fits usable cs
are_candidates Fits usable cs h =
    in_order candidate_numbers (IsCandidate Fits usable) cs (same candidate_numbers (length cs + 1) (Below (IsOfUsable Fits usable) (length usable)) (IsCandidate Fits usable) [] cs h to from)
  where
    to : (c : Candidate) → Below (IsOfUsable Fits usable) (length usable) c → IsCandidate Fits usable c
    to c (n, less_n, (e, at_n, positive, (k, less_k, (l, at_k, is)))) = record {
      electron = e;
      listed = contains_at usable n e at_n;
      fits = positive;
      number = ap (λ (d : Candidate). d.number) is;
      wide = ap (λ (d : Candidate). d.wide) is;
      there = ap (λ (d : Candidate). numbered e.clause.literals d.lit) is ∙ numbered_next e.clause.literals k ∙ at_k ∙ ap (λ (d : Candidate). Some d.literal) (sym is);
    }

    from : (c : Candidate) → IsCandidate Fits usable c → Below (IsOfUsable Fits usable) (length usable) c
    from c h =
        let place = numbered_place h.electron.clause.literals c.lit c.literal h.there in (
          h.listed.0,
          h.listed.1,
          (
            h.electron,
            at_contains usable h.electron h.listed,
            h.fits,
            (
              place.0,
              slice_get_within h.electron.clause.literals place.0 c.literal place.2,
              (c.literal, place.2, λ i. record { number = h.number i; lit = place.1 i; wide = h.wide i; literal = c.literal }),
            ),
          ),
        )

-- ---- signs

pub all_positive : (c : Clause) → list_all (λ (l : Literal). l.positive) c.literals ≡ true → IsPositive c
all_positive c h = AllPass-from_list_all (λ (l : Literal). l.positive) c.literals h

pub not_all_positive : (c : Clause) → list_all (λ (l : Literal). l.positive) c.literals ≡ false → ¬ IsPositive c
not_all_positive c h all = let bad : true ≡ false = sym (list_all-from_AllPass (λ (l : Literal). l.positive) c.literals all) ∙ h in cc

pub not_single : (c : Clause) → nat_eq (length c.literals) 1 ≡ false → ¬ IsSingle c
not_single c h e = let bad : true ≡ false = sym (eq-eqb (length c.literals) 1 e) ∙ h in cc

-- ---- widths

pub from_start : (a : ℕ) (ns : List ℕ) → fold max a ns ≡ max a (largest ns)
from_start a [] = omega arith
from_start a (n ∷ ns) = omega (arith, from_start (max a n) ns, from_start (max 0 n) ns)

at_most : {X : Type 0} (w : X → ℕ) (xs : List X) (k : ℕ) (x : X) → slice_get xs k ≡ Some x → w x ≤ largest (map w xs)
at_most {X} w [] k x h = let none : ◌≡◌ {A = Option X} None (Some x) = h in absurd cc
at_most w (y ∷ ys) zero x h = let e : y ≡ x = cc in omega (arith, ap w e, from_start (max 0 (w y)) (map w ys))
at_most w (y ∷ ys) (suc k) x h = omega (arith, at_most w ys k x h, from_start (max 0 (w y)) (map w ys))

pub are_narrow : (Fits : Clause → Type 0) (usable : List Numbered) (cs : List Candidate) → All (λ p. IsKept p.clause) usable → AreCandidates Fits usable cs → All IsNarrow cs
are_narrow Fits usable cs kept are = λ k d less. narrow _ (are.only k d less)
  where
    narrow : (c : Candidate) → IsCandidate Fits usable c → IsNarrow c
    narrow c h =
        let few = kept_width h.electron.clause (All-contains (λ (p : Numbered). IsKept p.clause) usable h.electron kept h.listed) in
        let place = numbered_place h.electron.clause.literals c.lit c.literal h.there in
        record { literal = omega (arith, few, at_most literal_width h.electron.clause.literals place.0 c.literal place.2); clause = omega (arith, few, h.wide) }
