-- A derivation goes on in one way, and an inference has one conclusion.
use Rattle.std.proofs.Common.{◌≡◌, ◌∙◌, sym, ap, subst, refl, ℕ, suc, ◌-◌, ◌<◌, ◌⊎◌, inl, inr, List, [], ◌∷◌, length, map, Some, Bool, true, false, nat_eq, arith, slice_get}
use Rattle.std.proofs.lemmas.Option.{slice_get-get_or}
use Rattle.std.proofs.lemmas.Bool.{eqb-true, eqb-false}
use Rattle.std.specs.List.{Contains, AllByRecursion}
use Rattle.sc_term.specs.declared.Term.{Term, Var}
use Rattle.sc_term.specs.declared.Clause.{Clause}
use Rattle.sc_term.specs.declared.Line.{Line}
use Rattle.sc_term.specs.declared.Step.TheVariants.{Instance, Resolve, Merge, Para}
use Rattle.sc_term.specs.Term.{value_of}
use Rattle.sc_term.specs.Clause.{variables, IsCanonical}
use Rattle.sc_core_rules.specs.Order.{Where}
use Rattle.sc_term.specs.declared.Numbered.{Numbered}
use Rattle.sc_term.specs.JointInstance.{canonical}
use Rattle.sc_steps.specs.Derivation.{last_clause}
use Rattle.sc_core_rules.specs.Derivation.{Adds, IsFirstInput, AddsInput, AreTermsTo, AddsPart, AddsParts, EndsCanonical}
use Rattle.sc_core_rules.specs.Inference.{Ending, Resolving, Merging, Replacing, ResolvesAll, Ends, ConclusionIsOne, parent_clauses}
use Rattle.sc_term.proofs.ContainsLaws.{first_or_later}
use Rattle.sc_term.proofs.SubstitutionLaws.{clause_laws}
use Rattle.sc_term.proofs.RenamingLaws.{joint_instance_is_one}
use Rattle.sc_core_rules.proofs.StepLaws.{some_both, same_some, adds_one}

-- ---- the input line

pub compared : (j k : ℕ) → (j < k) ⊎ (j ≡ k) ⊎ (k < j)
compared j k = grind arith

first_one : (lines : List Line) (n j k : ℕ) → IsFirstInput lines n j → IsFirstInput lines n k → j ≡ k
first_one lines n j k h i = by (compared j k)
  where
    by : (j < k) ⊎ (j ≡ k) ⊎ (k < j) → j ≡ k
    by (inl less) = absurd (i.1 j less h.0)
    by (inr (inl e)) = e
    by (inr (inr less)) = absurd (h.1 k less i.0)

input_one : (before : List Line) (p : Numbered) (after others : List Line) (j k : ℕ) → AddsInput before p after j → AddsInput before p others k → (after ≡ others) × (j ≡ k)
input_one before p after others j k (inl h) (inl i) = (h.1 ∙ sym i.1, first_one before p.number j k h.0 i.0)
input_one before p after others j k (inl h) (inr i) = absurd (i.0 j h.0.0)
input_one before p after others j k (inr h) (inl i) = absurd (h.0 k i.0.0)
input_one before p after others j k (inr h) (inr i) = let same : after ≡ others = h.1 ∙ sym i.1 in (same, h.2 ∙ ap (λ (ls : List Line). length ls) same ∙ sym i.2)

-- ---- the terms of an instance

-- lists of one length with the same elements are the same
pub same_elements : {X : Type 0} (xs ys : List X) → length xs ≡ length ys → ((n : ℕ) → n < length xs → slice_get xs n ≡ slice_get ys n) → xs ≡ ys
same_elements [] [] long same = refl
same_elements [] (y ∷ ys) long same = absurd (omega (arith, long))
same_elements (x ∷ xs) [] long same = absurd (omega (arith, long))
same_elements (x ∷ xs) (y ∷ ys) long same =
    let first : Some x ≡ Some y = same 0 (omega arith) in
    let e : x ≡ y = cc in
    let rest : xs ≡ ys = same_elements xs ys (omega (arith, long)) (λ n h. same (suc n) (omega arith)) in
    λ i. e i ∷ rest i

-- a number is in the list or not
pub found : (n : ℕ) (ns : List ℕ) → Contains ns n ⊎ (¬ Contains ns n)
found n [] = inr (λ h. omega (arith, h.1))
found n (m ∷ ms) = by (nat_eq m n) refl (found n ms)
  where
    by : (b : Bool) → nat_eq m n ≡ b → Contains ms n ⊎ (¬ Contains ms n) → Contains (m ∷ ms) n ⊎ (¬ Contains (m ∷ ms) n)
    by true e rest = inl (0, omega arith, eqb-true m n e)
    by false e (inl h) = inl (suc h.0, omega (arith, h.1), h.2)
    by false e (inr h) = inr (λ k. split (first_or_later n m ms k))
      where
        split : (m ≡ n) ⊎ Contains ms n → ⊥
        split (inl f) = eqb-false m n e f
        split (inr k) = h k

pub at_found : (P : ℕ → Type 0) (ns : List ℕ) (n : ℕ) → AllByRecursion P ns → Contains ns n → P n
at_found P [] n all h = absurd (omega (arith, h.1))
at_found P (m ∷ ms) n all h = by (at_found P ms n all.1) (first_or_later n m ms h)
  where
    by : (Contains ms n → P n) → (m ≡ n) ⊎ Contains ms n → P n
    by below (inl e) = subst P e all.0
    by below (inr k) = below k

value_there : (terms : List Term) (n : ℕ) → n < length terms → slice_get terms n ≡ Some (value_of terms n)
value_there terms n h = slice_get-get_or terms n (Var n) h

terms_one : (c part : Clause) (terms others : List Term) → AreTermsTo c part terms → AreTermsTo c part others → terms ≡ others
terms_one c part terms others h k = same_elements terms others (h.many ∙ sym k.many) (λ n less. by n less (found n (variables c)))
  where
    agree : AllByRecursion (λ n. value_of terms n ≡ value_of others n) (variables c)
    agree = (clause_laws c).exact (value_of terms) (value_of others) (h.gives ∙ sym k.gives)

    by : (n : ℕ) → n < length terms → Contains (variables c) n ⊎ (¬ Contains (variables c) n) → slice_get terms n ≡ slice_get others n
    by n less (inl there) = value_there terms n less ∙ ap (λ (t : Term). Some t) (at_found (λ n. value_of terms n ≡ value_of others n) (variables c) n agree there)
        ∙ sym (value_there others n (omega (arith, less, h.many, k.many)))
    by n less (inr absent) = h.rest n (omega (arith, less, h.many)) absent ∙ sym (k.rest n (omega (arith, less, h.many)) absent)

-- ---- the parts

pub part_one : (before : List Line) (p : Numbered) (part : Clause) (after others : List Line) (j k : ℕ)
    → AddsPart before p part after j → AddsPart before p part others k → (after ≡ others) × (j ≡ k)
part_one before p part after others j k h i = by h.3 i.3
  where
    same : (h.0 ≡ i.0) × (h.1 ≡ i.1)
    same = input_one before p h.0 i.0 h.1 i.1 h.2 i.2

    by : Where (part ≡ p.clause) ((after ≡ h.0) × (j ≡ h.1)) ((terms : List Term) × AreTermsTo p.clause part terms × Adds h.0 (Instance h.1 terms) after × (j ≡ length after))
        → Where (part ≡ p.clause) ((others ≡ i.0) × (k ≡ i.1)) ((terms : List Term) × AreTermsTo p.clause part terms × Adds i.0 (Instance i.1 terms) others × (k ≡ length others))
        → (after ≡ others) × (j ≡ k)
    by (inl a) (inl b) = (a.1.0 ∙ same.0 ∙ sym b.1.0, a.1.1 ∙ same.1 ∙ sym b.1.1)
    by (inl a) (inr b) = absurd (b.0 a.0)
    by (inr a) (inl b) = absurd (a.0 b.0)
    by (inr a) (inr b) =
        let terms : a.1.0 ≡ b.1.0 = terms_one p.clause part a.1.0 b.1.0 a.1.1 b.1.1 in
        let moved : Adds i.0 (Instance i.1 b.1.0) after =
        subst (λ (ts : List Term). Adds i.0 (Instance i.1 ts) after) terms
        (subst (λ (n : ℕ). Adds i.0 (Instance n a.1.0) after) same.1 (subst (λ (ls : List Line). Adds ls (Instance h.1 a.1.0) after) same.0 a.1.2)) in
        let e : after ≡ others = adds_one i.0 (Instance i.1 b.1.0) after others moved b.1.2 in
        (e, a.1.3 ∙ ap (λ (ls : List Line). length ls) e ∙ sym b.1.3)

parts_one : (before : List Line) (ps : List Numbered) (parts : List Clause) (after others : List Line) (js ks : List ℕ)
    → AddsParts before ps parts after js → AddsParts before ps parts others ks → (after ≡ others) × (js ≡ ks)
parts_one before [] [] after others js ks h i = (h.0 ∙ sym i.0, h.1 ∙ sym i.1)
parts_one before [] (part ∷ parts) after others js ks h i = absurd h
parts_one before (p ∷ ps) [] after others js ks h i = absurd h
parts_one before (p ∷ ps) (part ∷ parts) after others [] ks h i = absurd h
parts_one before (p ∷ ps) (part ∷ parts) after others (j ∷ js) [] h i = absurd i
parts_one before (p ∷ ps) (part ∷ parts) after others (j ∷ js) (k ∷ ks) h i =
    let first = part_one before p part h.0 i.0 j k h.1 i.1 in
    let rest = parts_one i.0 ps parts after others js ks (subst (λ (ls : List Line). AddsParts ls ps parts after js) first.0 h.2) i.2 in
    (rest.0, λ n. first.1 n ∷ rest.1 n)

-- ---- the steps of the rule, and the end

resolves_one : (before : List Line) (j : ℕ) (as' ks bs : List ℕ) (after others : List Line)
    → ResolvesAll before j as' ks bs after → ResolvesAll before j as' ks bs others → after ≡ others
resolves_one before j [] [] [] after others h i = h ∙ sym i
resolves_one before j [] [] (b ∷ bs) after others h i = absurd h
resolves_one before j [] (k ∷ ks) bs after others h i = absurd h
resolves_one before j (a ∷ as') [] bs after others h i = absurd h
resolves_one before j (a ∷ as') (k ∷ ks) [] after others h i = absurd h
resolves_one before j (a ∷ as') (k ∷ ks) (b ∷ bs) after others h i =
    let e : h.0 ≡ i.0 = adds_one before (Resolve j a k b) h.0 i.0 h.1 i.1 in
    resolves_one i.0 (length i.0) (map (λ n. n - 1) as') ks bs after others
    (subst (λ (ls : List Line). ResolvesAll ls (length ls) (map (λ n. n - 1) as') ks bs after) e h.2) i.2

ends_one : (ending : Ending) (ks : List ℕ) (before after others : List Line) → Ends ending ks before after → Ends ending ks before others → after ≡ others
ends_one (Resolving as' bs) [] before after others h i = absurd h
ends_one (Resolving as' bs) (j ∷ ks) before after others h i = resolves_one before j as' ks bs after others h i
ends_one (Merging a) [] before after others h i = absurd h
ends_one (Merging a) (j ∷ ks) before after others h i = adds_one before (Merge j a) after others h i
ends_one (Replacing a side b path) [] before after others h i = absurd h
ends_one (Replacing a side b path) (j ∷ []) before after others h i = absurd h
ends_one (Replacing a side b path) (j ∷ k ∷ ks) before after others h i = adds_one before (Para j a side k b path) after others h i

pub canonical_one : (before after others : List Line) → EndsCanonical before after → EndsCanonical before others → after ≡ others
canonical_one before after others h i = by both.1 both.2
  where
    both : (c : Clause) × Where (IsCanonical c) (after ≡ before) ((terms : List Term) × AreTermsTo c (canonical c) terms × Adds before (Instance (length before) terms) after)
        × Where (IsCanonical c) (others ≡ before) ((terms : List Term) × AreTermsTo c (canonical c) terms × Adds before (Instance (length before) terms) others)
    both = some_both (last_clause before) _ _ h i

    by : Where (IsCanonical both.0) (after ≡ before) ((terms : List Term) × AreTermsTo both.0 (canonical both.0) terms × Adds before (Instance (length before) terms) after)
        → Where (IsCanonical both.0) (others ≡ before) ((terms : List Term) × AreTermsTo both.0 (canonical both.0) terms × Adds before (Instance (length before) terms) others) → after ≡ others
    by (inl a) (inl b) = a.1 ∙ sym b.1
    by (inl a) (inr b) = absurd (b.0 a.0)
    by (inr a) (inl b) = absurd (a.0 b.0)
    by (inr a) (inr b) =
        let terms : a.1.0 ≡ b.1.0 = terms_one both.0 (canonical both.0) a.1.0 b.1.0 a.1.1 b.1.1 in
        adds_one before (Instance (length before) b.1.0) after others (subst (λ (ts : List Term). Adds before (Instance (length before) ts) after) terms a.1.2) b.1.2

-- ---- the conclusion

pub conclusion_is_one : ConclusionIsOne
conclusion_is_one i made others h k =
    let parts : h.parts ≡ k.parts = joint_instance_is_one (parent_clauses i) i.pairs h.parts k.parts h.joint k.joint in
    let opened = parts_one [] i.parents k.parts h.opening k.opening h.part_lines k.part_lines
    (subst (λ (ps : List Clause). AddsParts [] i.parents ps h.opening h.part_lines) parts h.opens) k.opens in
    let steps : h.steps ≡ k.steps = ends_one i.ending k.part_lines k.opening h.steps k.steps
    (subst (λ (ns : List ℕ). Ends i.ending ns k.opening h.steps) opened.1 (subst (λ (ls : List Line). Ends i.ending h.part_lines ls h.steps) opened.0 h.ends)) k.ends in
    let lines : made.lines ≡ others.lines = canonical_one k.steps made.lines others.lines
    (subst (λ (ls : List Line). EndsCanonical ls made.lines) steps h.canonical_last) k.canonical_last in
    let clause : made.clause ≡ others.clause = same_some (last_clause others.lines) made.clause others.clause
    (subst (λ (ls : List Line). last_clause ls ≡ Some made.clause) lines h.conclusion) k.conclusion in
    λ n. record { clause = clause n; lines = lines n }
