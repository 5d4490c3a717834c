-- The terms that take a clause to its canonical form.
use Rattle.std.proofs.Common.{◌≡◌, ◌∙◌, sym, ap, subst, refl, ℕ, zero, suc, ◌+◌, ◌<◌, ◌≤◌, ◌⊎◌, inl, inr, max, fold, List, [], ◌∷◌, length, map, get_or, slice_get, Some, Bool, true, false, ◌||◌, not, nat_eq, if◌then◌else◌, arith}
use Rattle.std.specs.List.{AllByRecursion, Contains, list_any, position_or_len}
use Rattle.std.proofs.lemmas.Bool.{eqb-true, eqb-false, lt-ltb, le-ltb}
use Rattle.std.proofs.lemmas.Option.{get_or_from_slice_get}
use Rattle.std.proofs.lemmas.List.{append-nil}
use Rattle.sc_term.specs.declared.Term.{Term, Var}
use Rattle.sc_term.specs.declared.Term.TheVariants.{App}
use Rattle.sc_term.specs.declared.Literal.{Literal}
use Rattle.sc_term.specs.declared.Clause.{Clause}
use Rattle.sc_term.specs.declared.Line.{Line}
use Rattle.sc_term.specs.declared.Step.TheVariants.{Instance}
use Rattle.sc_term.specs.Term.{largest, joined, term_width, term_variables, value_of}
use Rattle.sc_term.specs.Clause.{literal_width, width, variables, firsts, firsts_after, counting_from, instance, IsCanonical, IsWithinLimits}
use Rattle.sc_term.specs.JointInstance.{canonical, renumbering, whole}
use Rattle.sc_term.proofs.TermLaws.{term_ind, width-Var, width-App}
use Rattle.sc_term.proofs.TermSteps.{variables-Var, variables-App}
use Rattle.sc_term.proofs.SubstitutionLaws.{clause_laws, all_join, all_of, literal_variables}
use Rattle.sc_term.specs.Occurrence.{noted}
use Rattle.sc_term.proofs.Occurrences.{noted-firsts}
use Rattle.sc_steps.specs.Derivation.{last_clause}
use Rattle.sc_steps.proofs.LineLaws.{some_so}
use Rattle.sc_unify.proofs.TermFacts.{all_so}
use Rattle.sc_unify.proofs.JointLaws.{limits_kept}
use Rattle.sc_interp.proofs.Width.{canonical_width}
use Rattle.sc_core_rules.specs.Order.{Where}
use Rattle.sc_core_rules.specs.Derivation.{Adds, AreTermsTo, EndsCanonical}
use Rattle.sc_term.proofs.ContainsLaws.{first_or_later, later}
use Rattle.sc_core_rules.proofs.DerivationLaws.{at_found}
use Rattle.sc_resolve.specs.Lines.{IsAdded}
use Rattle.sc_resolve.specs.Canonical.{place_in}
use Rattle.sc_resolve.proofs.LineLaws.{adds_instance_of}

-- ---- 0, 1, ..

pub counting_is : (n : ℕ) (xs : List ℕ) → ((k : ℕ) → k < length xs → get_or xs k 0 ≡ n + k) → xs ≡ counting_from n xs
counting_is n [] h = refl
counting_is n (x ∷ xs) h =
    let first : x ≡ n = omega (arith, h 0 (omega arith)) in
    let rest : xs ≡ counting_from (n + 1) xs = counting_is (n + 1) xs (λ k less. omega (arith, h (suc k) (omega arith))) in
    λ i. first i ∷ rest i

pub counting_at : (n : ℕ) (xs : List ℕ) → xs ≡ counting_from n xs → (k d : ℕ) → k < length xs → get_or xs k d ≡ n + k
counting_at n [] e k d less = absurd (omega arith)
counting_at n (x ∷ xs) e zero d less = let first : x ≡ n = cc in omega (arith, first)
counting_at n (x ∷ xs) e (suc k) d less = let rest : xs ≡ counting_from (n + 1) xs = cc in omega (arith, counting_at (n + 1) xs rest k d (omega arith))

-- ---- first occurrences

pub noted_so : (c : Clause) (start order : List ℕ) → start ≡ [] → order ≡ noted start (variables c) → order ≡ firsts (variables c)
noted_so c start order none noted_all = noted_all ∙ ap (λ (l : List ℕ). noted l (variables c)) none ∙ noted-firsts (variables c)

pub firsts_has : (seen ns : List ℕ) (n : ℕ) → Contains ns n → list_any (nat_eq n) seen ≡ false → Contains (firsts_after seen ns) n
firsts_has seen [] n h new = absurd (omega (arith, h.1))
firsts_has seen (m ∷ ms) n h new =
    by (λ k. firsts_has seen ms n k new) (λ k. firsts_has (m ∷ seen) ms n k) (list_any (nat_eq m) seen) refl (first_or_later n m ms h)
  where
    beside : (Contains ms n → list_any (nat_eq n) (m ∷ seen) ≡ false → Contains (firsts_after (m ∷ seen) ms) n) → (b : Bool) → nat_eq n m ≡ b → Contains ms n
        → Contains (m ∷ firsts_after (m ∷ seen) ms) n
    beside more true e k = (0, omega arith, sym (eqb-true n m e))
    beside more false e k = later n m (firsts_after (m ∷ seen) ms) (more k (ap (λ b. b || list_any (nat_eq n) seen) e ∙ new))

    by : (Contains ms n → Contains (firsts_after seen ms) n) → (Contains ms n → list_any (nat_eq n) (m ∷ seen) ≡ false → Contains (firsts_after (m ∷ seen) ms) n)
        → (b : Bool) → list_any (nat_eq m) seen ≡ b → (m ≡ n) ⊎ Contains ms n → Contains (if b then firsts_after seen ms else m ∷ firsts_after (m ∷ seen) ms) n
    by old more true e (inl same) = let bad : true ≡ false = sym e ∙ ap (λ k. list_any (nat_eq k) seen) same ∙ new in cc
    by old more true e (inr k) = old k
    by old more false e (inl same) = (0, omega arith, same)
    by old more false e (inr k) = beside more (nat_eq n m) refl k

pub firsts_only : (seen ns : List ℕ) (n : ℕ) → Contains (firsts_after seen ns) n → Contains ns n
firsts_only seen [] n h = h
firsts_only seen (m ∷ ms) n h = by (λ k. firsts_only seen ms n k) (λ k. firsts_only (m ∷ seen) ms n k) (list_any (nat_eq m) seen) h
  where
    split : (Contains (firsts_after (m ∷ seen) ms) n → Contains ms n) → (m ≡ n) ⊎ Contains (firsts_after (m ∷ seen) ms) n → Contains (m ∷ ms) n
    split more (inl e) = (0, omega arith, e)
    split more (inr k) = later n m ms (more k)

    by : (Contains (firsts_after seen ms) n → Contains ms n) → (Contains (firsts_after (m ∷ seen) ms) n → Contains ms n)
        → (b : Bool) → Contains (if b then firsts_after seen ms else m ∷ firsts_after (m ∷ seen) ms) n → Contains (m ∷ ms) n
    by old more true k = later n m ms (old k)
    by old more false k = split more (first_or_later n m (firsts_after (m ∷ seen) ms) k)

position_there : (n : ℕ) (order : List ℕ) → Contains order n → position_or_len (nat_eq n) order < length order
position_there n [] h = absurd (omega (arith, h.1))
position_there n (m ∷ ms) h = by (λ k. position_there n ms k) (nat_eq n m) refl (first_or_later n m ms h)
  where
    by : (Contains ms n → position_or_len (nat_eq n) ms < length ms) → (b : Bool) → nat_eq n m ≡ b → (m ≡ n) ⊎ Contains ms n
        → (if not b then 1 + position_or_len (nat_eq n) ms else 0) < length (m ∷ ms)
    by below true e k = omega arith
    by below false e (inl same) = absurd (eqb-false n m e (sym same))
    by below false e (inr k) = omega (arith, below k)

position_absent : (n : ℕ) (order : List ℕ) → ¬ Contains order n → length order ≤ position_or_len (nat_eq n) order
position_absent n [] h = omega arith
position_absent n (m ∷ ms) h = by (position_absent n ms (λ k. h (later n m ms k))) (nat_eq n m) refl
  where
    by : length ms ≤ position_or_len (nat_eq n) ms → (b : Bool) → nat_eq n m ≡ b → length (m ∷ ms) ≤ (if not b then 1 + position_or_len (nat_eq n) ms else 0)
    by below true e = absurd (h (0, omega arith, sym (eqb-true n m e)))
    by below false e = omega (arith, below)

place_there : (n : ℕ) (order : List ℕ) → Contains order n → place_in order n ≡ position_or_len (nat_eq n) order
place_there n order h = ap (λ b. if b then position_or_len (nat_eq n) order else 0) (lt-ltb (position_or_len (nat_eq n) order) (length order) (position_there n order h))

place_absent : (n : ℕ) (order : List ℕ) → ¬ Contains order n → place_in order n ≡ 0
place_absent n order h = ap (λ b. if b then position_or_len (nat_eq n) order else 0) (le-ltb (position_or_len (nat_eq n) order) (length order) (position_absent n order h))

-- ---- variables are below the width

from_start : (a : ℕ) (ns : List ℕ) → fold max a ns ≡ max a (largest ns)
from_start a [] = omega arith
from_start a (n ∷ ns) = omega (arith, from_start (max a n) ns, from_start (max 0 n) ns)

below_row : {X : Type 0} (w : X → ℕ) (f : X → List ℕ) (xs : List X) → AllByRecursion (λ x. AllByRecursion (λ n. n < w x) (f x)) xs → AllByRecursion (λ n. n < largest (map w xs)) (joined (map f xs))
below_row w f [] h = tt
below_row w f (x ∷ xs) h =
    let most = from_start (max 0 (w x)) (map w xs) in
    all_join (λ n. n < largest (map w (x ∷ xs))) (f x) (joined (map f xs))
    (all_so (λ n. n < w x) (λ n. n < largest (map w (x ∷ xs))) (λ n less. omega (arith, most)) (f x) h.0)
    (all_so (λ n. n < largest (map w xs)) (λ n. n < largest (map w (x ∷ xs))) (λ n less. omega (arith, most)) (joined (map f xs)) (below_row w f xs h.1))

term_below : (t : Term) → AllByRecursion (λ n. n < term_width t) (term_variables t)
term_below t = term_ind (λ t. AllByRecursion (λ n. n < term_width t) (term_variables t))
    (λ n. subst (AllByRecursion (λ k. k < term_width (Var n))) (sym (variables-Var n)) (omega (arith, width-Var n), tt))
    (λ f xs h. subst (λ w. AllByRecursion (λ n. n < w) (term_variables (App f xs))) (sym (width-App f xs))
    (subst (AllByRecursion (λ n. n < largest (map term_width xs))) (sym (variables-App f xs)) (below_row term_width term_variables xs h)))
    t

clause_below : (c : Clause) → AllByRecursion (λ n. n < width c) (variables c)
clause_below c = below_row literal_width literal_variables c.literals
    (all_of (λ l. AllByRecursion (λ n. n < literal_width l) (literal_variables l))
    (λ l. below_row term_width term_variables l.args (all_of (λ t. AllByRecursion (λ n. n < term_width t) (term_variables t)) term_below l.args)) c.literals)

each_of : (P : ℕ → Type 0) (ns : List ℕ) → ((n : ℕ) → Contains ns n → P n) → AllByRecursion P ns
each_of P [] h = tt
each_of P (n ∷ ns) h = (h n (0, omega arith, refl), each_of P ns (λ m k. h m (later m n ns k)))

-- ---- the terms

pub are_terms : (c : Clause) (order : List ℕ) (terms : List Term) → order ≡ firsts (variables c) → length terms ≡ width c
    → ((n : ℕ) → n < width c → slice_get terms n ≡ Some (Var (place_in order n))) → AreTermsTo c (canonical c) terms
are_terms c order terms is many each = record { many = many; gives = gives; rest = rest }
  where
    there : (n : ℕ) → Contains (variables c) n → Contains order n
    there n h = subst (λ (l : List ℕ). Contains l n) (sym is) (firsts_has [] (variables c) n h refl)

    value : (n : ℕ) → Contains (variables c) n → value_of terms n ≡ renumbering (firsts (variables c)) n
    value n h =
        get_or_from_slice_get terms n (Var (place_in order n)) (Var n) (each n (at_found (λ n. n < width c) (variables c) n (clause_below c) h))
        ∙ ap Var (place_there n order (there n h)) ∙ ap (λ (l : List ℕ). Var (position_or_len (nat_eq n) l)) is

    gives : instance terms c ≡ canonical c
    gives = (clause_laws c).agree (value_of terms) (renumbering (firsts (variables c))) (each_of (λ n. value_of terms n ≡ renumbering (firsts (variables c)) n) (variables c) value)

    rest : (n : ℕ) → n < width c → ¬ Contains (variables c) n → slice_get terms n ≡ Some (Var 0)
    rest n less absent = each n less ∙ ap (λ k. Some (Var k)) (place_absent n order (λ h. absent (firsts_only [] (variables c) n (subst (λ (l : List ℕ). Contains l n) is h))))

-- in a canonical clause each variable below the width occurs
pub all_occur : (c : Clause) → IsCanonical c → (n : ℕ) → n < width c → Contains (variables c) n
all_occur c h n less =
    let short : n < length (firsts (variables c)) = omega (arith, canonical_width c h) in
    firsts_only [] (variables c) n (n, short, omega (arith, counting_at 0 (firsts (variables c)) h n n short))

pub terms_of_canonical : (c part : Clause) (terms : List Term) → IsCanonical c → length terms ≡ width c → instance terms c ≡ part → AreTermsTo c part terms
terms_of_canonical c part terms h many gives = record { many = many; gives = gives; rest = λ n less absent. absurd (absent (all_occur c h n less)) }

-- ---- the end of a derivation

pub ends_so : (before : List Line) (c : Clause) (order : List ℕ) → last_clause before ≡ Some c → order ≡ firsts (variables c) → order ≡ counting_from 0 order → EndsCanonical before before
ends_so before c order there is counting =
    some_so (last_clause before) (λ (c : Clause). Where (IsCanonical c) (before ≡ before) ((terms : List Term) × AreTermsTo c (canonical c) terms × Adds before (Instance (length before) terms) before)) c there
    (inl (subst (λ (l : List ℕ). l ≡ counting_from 0 l) is counting, refl))

pub ends_with : (before : List Line) (c : Clause) (order : List ℕ) (terms : List Term) (after : List Line) (k : ℕ) → last_clause before ≡ Some c → order ≡ firsts (variables c) → ¬ (order ≡ counting_from 0 order)
    → length terms ≡ width c → ((n : ℕ) → n < width c → slice_get terms n ≡ Some (Var (place_in order n))) → IsAdded before (Instance (length before) terms) (canonical c) after k → EndsCanonical before after
ends_with before c order terms after k there is different many each added =
    let are = are_terms c order terms is many each in
    some_so (last_clause before) (λ (c : Clause). Where (IsCanonical c) (after ≡ before) ((terms : List Term) × AreTermsTo c (canonical c) terms × Adds before (Instance (length before) terms) after)) c there
    (inr (λ h. different (subst (λ (l : List ℕ). l ≡ counting_from 0 l) (sym is) h), (terms, are, adds_instance_of before (length before) c (canonical c) terms after there are added.grown)))

-- ---- limits

whole_one : (c : Clause) → whole (c ∷ []) ≡ c
whole_one c = ap (λ (ls : List Literal). let d : Clause = record { literals = ls } in d) (append-nil c.literals)

-- the canonical form is within the limits
pub canonical_within : (c : Clause) → IsWithinLimits c → IsWithinLimits (canonical c)
canonical_within c h =
    subst IsWithinLimits (whole_one (canonical c))
    ((limits_kept (renumbering (firsts (variables c))) (λ n. position_or_len (nat_eq n) (firsts (variables c))) (λ n. refl) (c ∷ [])).0 (subst IsWithinLimits (sym (whole_one c)) h))
