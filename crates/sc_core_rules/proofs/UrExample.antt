-- Worked: the one site of UR-resolution of -p(x0) | q(x0) | s with p(a) and -s.
use Rattle.std.proofs.Common.{◌≡◌, ◌≢◌, ◌∙◌, refl, sym, ap, subst, ℕ, zero, suc, ◌<◌, ◌≤◌, ◌⊎◌, inl, inr, List, [], ◌∷◌, length, map, arith, true, false, Bool, Some, get_or}
use Rattle.std.specs.Prelude.{IsSomeAnd}
use Rattle.std.specs.List.{Contains, All}
use Rattle.sc_term.specs.declared.Term.{Term, Var}
use Rattle.sc_term.specs.declared.Term.TheVariants.{App}
use Rattle.sc_term.specs.declared.Literal.{Literal}
use Rattle.sc_term.specs.declared.Clause.{Clause}
use Rattle.sc_term.specs.declared.Numbered.{Numbered}
use Rattle.sc_term.specs.declared.Pair.{Pair}
use Rattle.sc_term.specs.Term.{value_of, term_under}
use Rattle.sc_term.specs.Numbering.{numbered}
use Rattle.sc_term.specs.Refuted.{Atom}
use Rattle.sc_term.specs.Substitution.{Substitution, IsUnifier, Unify, literal_under, IsInstanceOf, clause_under}
use Rattle.sc_term.specs.JointInstance.{apart, renumbered, IsJointInstance}
use Rattle.sc_term.proofs.TermSteps.{under-Var, under-App, variables-Var, variables-App}
use Rattle.sc_core_rules.specs.declared.site.UrSite.{UrSite}
use Rattle.sc_core_rules.specs.Pairing.{ArePairs, places_in, places_from}
use Rattle.sc_core_rules.specs.Inference.{Inference, Resolving, Ends, Concludes}
use Rattle.sc_core_rules.specs.Hyperresolution.{AreLiteralsWith, AreNamed, IsUr, AreUrSites, ur_numbers, unit_literals}
use Rattle.sc_core_rules.specs.Order.{IsBefore}
use Rattle.sc_core_rules.proofs.Enumerations.{in_three, numbered_one, numbered_three, some_of_three, all_of_one, all_of_two, pairs_of_one, pairs_of_two}
use Rattle.sc_core_rules.proofs.PairLaws.{unifier_of_two, opposite_two}
use Rattle.sc_core_rules.proofs.DerivationLaws.{compared}
use Rattle.sc_core_rules.proofs.OrderLaws.{in_order_is_one}
use Rattle.sc_term.specs.declared.Line.{Line}
use Rattle.sc_term.specs.Clause.{instance, width}
use Rattle.sc_term.proofs.TermLaws.{width-Var, instance-Var, weight-App, depth-App}
use Rattle.sc_core_rules.specs.Derivation.{AddsPart, AddsParts}
use Rattle.sc_core_rules.proofs.DerivationCases.{adds_input, adds_whole, adds_instance, terms_of_one}
use Rattle.sc_term.specs.declared.Step.TheVariants.{Input, Instance, Resolve}

abbrev pub a : Term
a = App (record { 0 = 4 }) []

abbrev pub p : Bool → Term → Literal
p positive t = record { positive = positive; pred = record { 0 = 1 }; args = t ∷ [] }

abbrev pub q : Term → Literal
q t = record { positive = true; pred = record { 0 = 2 }; args = t ∷ [] }

abbrev pub s : Bool → Literal
s positive = record { positive = positive; pred = record { 0 = 3 }; args = [] }

abbrev pub one : Numbered
one = record { number = 1; clause = record { literals = p true a ∷ [] } }

abbrev pub two : Numbered
two = record { number = 2; clause = record { literals = s false ∷ [] } }

abbrev pub nucleus : Numbered
nucleus = record { number = 3; clause = record { literals = p false (Var 0) ∷ q (Var 0) ∷ s true ∷ [] } }

abbrev usable : List Numbered
usable = one ∷ two ∷ nucleus ∷ []

abbrev site : UrSite
site = record { nucleus = 3; target = 2; units = 1 ∷ 2 ∷ [] }

-- ---- the literals other than the target

abbrev IsOther : ℕ → ℕ → Literal → Type 0
IsOther target n l = n ≢ target

-- two numbers from 1 to 3, rising, and the third
others : (target m n : ℕ) → m < n → m ≢ target → n ≢ target → 0 < m → n < 4 → 0 < target → target < 4 → AreLiteralsWith (IsOther target) nucleus.clause (m ∷ n ∷ [])
others target m n less m_other n_other some few target_some target_few = record {
  rising = pairs_of_two (λ m n. IsBefore (m ∷ []) (n ∷ [])) m n (inl less);
  only = all_of_two (λ k. IsSomeAnd (numbered (nucleus.clause).literals k) (IsOther target k)) m n (there m m_other some (omega arith)) (there n n_other (omega arith) few);
  all = λ k h. among k (some_of_three (IsOther target k) (p false (Var 0)) (q (Var 0)) (s true) k h);
}
  where
    there : (k : ℕ) → k ≢ target → 0 < k → k < 4 → IsSomeAnd (numbered (nucleus.clause).literals k) (IsOther target k)
    there zero other some few = absurd (omega (arith, some))
    there (suc zero) other some few = other
    there (suc (suc zero)) other some few = other
    there (suc (suc (suc zero))) other some few = other
    there (suc (suc (suc (suc k)))) other some few = absurd (omega (arith, few))

    pick : (k : ℕ) → 0 < k → k < 4 → k ≢ target → (k < m) ⊎ (k ≡ m) ⊎ (m < k) → (k < n) ⊎ (k ≡ n) ⊎ (n < k) → Contains (m ∷ n ∷ []) k
    pick k low high other (inr (inl e)) h = (0, omega arith, sym e)
    pick k low high other (inl first) (inr (inl e)) = (1, omega arith, sym e)
    pick k low high other (inr (inr first)) (inr (inl e)) = (1, omega arith, sym e)
    pick k low high other (inl first) (inl h) = absurd (omega arith)
    pick k low high other (inl first) (inr (inr h)) = absurd (omega arith)
    pick k low high other (inr (inr first)) (inl h) = absurd (omega arith)
    pick k low high other (inr (inr first)) (inr (inr h)) = absurd (omega arith)

    among : (k : ℕ) → ((k ≡ 1) × (k ≢ target)) ⊎ ((k ≡ 2) × (k ≢ target)) ⊎ ((k ≡ 3) × (k ≢ target)) → Contains (m ∷ n ∷ []) k
    among k (inl e) = pick k (omega (arith, e.0)) (omega (arith, e.0)) e.1 (compared k m) (compared k n)
    among k (inr (inl e)) = pick k (omega (arith, e.0)) (omega (arith, e.0)) e.1 (compared k m) (compared k n)
    among k (inr (inr e)) = pick k (omega (arith, e.0)) (omega (arith, e.0)) e.1 (compared k m) (compared k n)

-- ---- the site

abbrev pub first_pair : Pair
first_pair = record { left = p false (Var 0); right = p true a }

abbrev pub second_pair : Pair
second_pair = record { left = s true; right = s false }

abbrev pub inference : Inference
inference = record { parents = nucleus ∷ one ∷ two ∷ []; pairs = first_pair ∷ second_pair ∷ []; ending = Resolving (1 ∷ 3 ∷ []) (1 ∷ 1 ∷ []) }

apart_so : apart (nucleus.clause ∷ one.clause ∷ two.clause ∷ []) ≡ nucleus.clause ∷ one.clause ∷ two.clause ∷ []
apart_so = simp (under-App, under-Var)

others_of_two : AreLiteralsWith (IsOther 2) nucleus.clause (1 ∷ 3 ∷ [])
others_of_two = others 2 1 3 (omega arith) (λ e. omega (arith, e)) (λ e. omega (arith, e)) (omega arith) (omega arith) (omega arith) (omega arith)

is_site : IsUr nucleus usable site inference
is_site = record {
  nucleus = nucleus;
  units = one ∷ two ∷ [];
  nucleus_named = ((refl, (2, omega arith, refl)), tt);
  nucleus_long = omega arith;
  units_named = ((refl, (0, omega arith, refl)), ((refl, (1, omega arith, refl)), tt));
  units_single = all_of_two (λ (u : Numbered). length u.clause.literals ≡ 1) one two refl refl;
  has_given = (0, omega arith, refl);
  target_there = tt;
  parents = refl;
  others = 1 ∷ 3 ∷ [];
  are_others = others_of_two;
  pairs = subst (λ cs. ArePairs cs (places_in 1 (1 ∷ 3 ∷ [])) (places_from 2 (1 ∷ 1 ∷ [])) (first_pair ∷ second_pair ∷ [])) (sym apart_so) (refl, refl, (refl, refl, refl));
  signs = opposite_two first_pair second_pair refl refl;
  unify = (value_of (a ∷ []), unifier_of_two first_pair second_pair (value_of (a ∷ [])) (simp (under-App, under-Var)) refl);
  ending = refl;
}

-- ---- there is no other

-- literal m of the nucleus has the predicate of unit j
abbrev Meets : ℕ → ℕ → Type 0
Meets m j = ((m ≡ 1) × (j ≡ 1)) ⊎ ((m ≡ 3) × (j ≡ 2))

predicates : (by : Substitution) (m : ℕ) (l : Literal) → numbered (map (literal_under by) (nucleus.clause).literals) m ≡ Some l → l.pred.0 ≡ m
predicates s' m l h = by (numbered_three (literal_under s' (p false (Var 0))) (literal_under s' (q (Var 0))) (literal_under s' (s true)) m l h)
  where
    by : ((m ≡ 1) × (literal_under s' (p false (Var 0)) ≡ l)) ⊎ ((m ≡ 2) × (literal_under s' (q (Var 0)) ≡ l)) ⊎ ((m ≡ 3) × (literal_under s' (s true) ≡ l)) → l.pred.0 ≡ m
    by (inl e) = sym (ap (λ (x : Literal). x.pred.0) e.1) ∙ sym e.0
    by (inr (inl e)) = sym (ap (λ (x : Literal). x.pred.0) e.1) ∙ sym e.0
    by (inr (inr e)) = sym (ap (λ (x : Literal). x.pred.0) e.1) ∙ sym e.0

meets : (m j : ℕ) (u : Numbered) → u.number ≡ j → Contains usable u → length u.clause.literals ≡ 1 → (t by : Substitution) (l r : Literal) → numbered (map (literal_under t) (nucleus.clause).literals) m ≡ Some l
    → numbered (map (literal_under by) (u.clause).literals) 1 ≡ Some r → l.pred.0 ≡ r.pred.0 → Meets m j
meets m j u named listed single t s' l r left right same = by (in_three one two nucleus u listed)
  where
    at : (v : Numbered) → v ≡ u → numbered (map (literal_under s') (v.clause).literals) 1 ≡ Some r
    at v e = subst (λ (w : Numbered). numbered (map (literal_under s') (w.clause).literals) 1 ≡ Some r) (sym e) right

    by : (one ≡ u) ⊎ (two ≡ u) ⊎ (nucleus ≡ u) → Meets m j
    by (inl e) =
        let pred : 1 ≡ r.pred.0 = ap (λ (x : Literal). x.pred.0) (numbered_one (literal_under s' (p true a)) 1 r (at one e)).1 in
        inl (sym (predicates t m l left) ∙ same ∙ sym pred, sym named ∙ sym (ap (λ (w : Numbered). w.number) e))
    by (inr (inl e)) =
        let pred : 3 ≡ r.pred.0 = ap (λ (x : Literal). x.pred.0) (numbered_one (literal_under s' (s false)) 1 r (at two e)).1 in
        inr (sym (predicates t m l left) ∙ same ∙ sym pred, sym named ∙ sym (ap (λ (w : Numbered). w.number) e))
    by (inr (inr e)) = let long = subst (λ (w : Numbered). length w.clause.literals ≡ 1) (sym e) single in absurd (omega (arith, long))

two_units : (m n : ℕ) (numbers : List ℕ) (us : List Numbered) (ps : List Pair) → AreNamed usable numbers us → All (λ (u : Numbered). length u.clause.literals ≡ 1) us
    → ArePairs (apart (nucleus.clause ∷ map (λ (u : Numbered). u.clause) us)) (places_in 1 (m ∷ n ∷ [])) (places_from 2 (map (λ (k : ℕ). 1) numbers)) ps → Unify ps
    → (j : ℕ) × (k : ℕ) × Meets m j × Meets n k × (j ∷ k ∷ [] ≡ numbers)
two_units m n [] us ps named single h u = absurd h
two_units m n (j ∷ []) us [] named single h u = absurd h
two_units m n (j ∷ []) us (x ∷ xs) named single h u = absurd h.2
two_units m n (j ∷ k ∷ l ∷ more) us [] named single h u = absurd h
two_units m n (j ∷ k ∷ l ∷ more) us (x ∷ []) named single h u = absurd h.2
two_units m n (j ∷ k ∷ l ∷ more) us (x ∷ y ∷ xs) named single h u = absurd h.2.2
two_units m n (j ∷ k ∷ []) [] ps named single h u = absurd named
two_units m n (j ∷ k ∷ []) (v ∷ []) ps named single h u = absurd named.1
two_units m n (j ∷ k ∷ []) (v ∷ w ∷ z ∷ more) ps named single h u = absurd named.1.1
two_units m n (j ∷ k ∷ []) (v ∷ w ∷ []) [] named single h u = absurd h
two_units m n (j ∷ k ∷ []) (v ∷ w ∷ []) (x ∷ []) named single h u = absurd h.2
two_units m n (j ∷ k ∷ []) (v ∷ w ∷ []) (x ∷ y ∷ xs) named single h u = (
  j,
  k,
  meets m j v named.0.0 named.0.1 (single 0 v (omega arith)) _ _ x.left x.right h.0 h.1 (ap (λ (b : Atom). b.pred.0) (u.1 0 x (omega arith))),
  meets n k w named.1.0.0 named.1.0.1 (single 1 v (omega arith)) _ _ y.left y.right h.2.0 h.2.1 (ap (λ (b : Atom). b.pred.0) (u.1 1 x (omega arith))),
  refl,
)

-- q(x0) meets no unit
not_two : (k : ℕ) → ¬ Meets 2 k
not_two k (inl e) = omega (arith, e.0)
not_two k (inr e) = omega (arith, e.0)

of_one : (k : ℕ) → Meets 1 k → 1 ≡ k
of_one k (inl e) = sym e.1
of_one k (inr e) = absurd (omega (arith, e.0))

of_three : (k : ℕ) → Meets 3 k → 2 ≡ k
of_three k (inl e) = absurd (omega (arith, e.0))
of_three k (inr e) = sym e.1

only_sites : (x : UrSite) (i : Inference) → IsUr nucleus usable x i → site ≡ x
only_sites x i h = by (in_three one two nucleus h.nucleus h.nucleus_named.0.1)
  where
    short : (v : Numbered) → length (v.clause).literals ≡ 1 → v ≡ h.nucleus → ⊥
    short v single same = let long = subst (λ (w : Numbered). 2 ≤ length w.clause.literals) (sym same) h.nucleus_long in omega (arith, long, single)

    -- the units that the two literals meet
    met : nucleus ≡ h.nucleus → (target m n : ℕ) → x.target ≡ target → AreLiteralsWith (IsOther target) nucleus.clause (m ∷ n ∷ [])
        → (j : ℕ) × (k : ℕ) × Meets m j × Meets n k × (j ∷ k ∷ [] ≡ x.units)
    met same target m n aim others =
        let are = subst (λ (t : ℕ). AreLiteralsWith (IsOther t) nucleus.clause h.others) aim (subst (λ (w : Numbered). AreLiteralsWith (IsOther x.target) w.clause h.others) (sym same) h.are_others) in
        let two : h.others ≡ m ∷ n ∷ [] = in_order_is_one (λ (k : ℕ). k ∷ []) (λ k. IsSomeAnd (numbered (nucleus.clause).literals k) (IsOther target k)) h.others (m ∷ n ∷ []) are others in
        let parents : i.parents ≡ nucleus ∷ h.units = h.parents ∙ (λ k. sym same k ∷ h.units) in
        let there = subst (λ (ns : List ℕ). ArePairs (apart (nucleus.clause ∷ map (λ (u : Numbered). u.clause) h.units)) (places_in 1 ns) (places_from 2 (unit_literals x)) i.pairs) two
        (subst (λ (ps : List Numbered). ArePairs (apart (map (λ (w : Numbered). w.clause) ps)) (places_in 1 h.others) (places_from 2 (unit_literals x)) i.pairs) parents h.pairs) in
        two_units m n x.units h.units i.pairs h.units_named h.units_single there h.unify

    with_nucleus : nucleus ≡ h.nucleus → ((x.target ≡ 1) × Unit {0}) ⊎ ((x.target ≡ 2) × Unit {0}) ⊎ ((x.target ≡ 3) × Unit {0}) → site ≡ x
    with_nucleus same (inl e) =
        let both = met same 1 2 3 e.0 (others 1 2 3 (omega arith) (λ e. omega (arith, e)) (λ e. omega (arith, e)) (omega arith) (omega arith) (omega arith) (omega arith)) in absurd (not_two both.0 both.2)
    with_nucleus same (inr (inr e)) =
        let both = met same 3 1 2 e.0 (others 3 1 2 (omega arith) (λ e. omega (arith, e)) (λ e. omega (arith, e)) (omega arith) (omega arith) (omega arith) (omega arith)) in absurd (not_two both.1 both.3)
    with_nucleus same (inr (inl e)) =
        let both = met same 2 1 3 e.0 others_of_two in
        let units : 1 ∷ 2 ∷ [] ≡ x.units = (λ k. of_one both.0 both.2 k ∷ of_three both.1 both.3 k ∷ []) ∙ both.4 in
        let number : 3 ≡ x.nucleus = ap (λ (w : Numbered). w.number) same ∙ h.nucleus_named.0.0 in
        λ k. record { nucleus = number k; target = sym e.0 k; units = units k }

    by : (one ≡ h.nucleus) ⊎ (two ≡ h.nucleus) ⊎ (nucleus ≡ h.nucleus) → site ≡ x
    by (inl same) = absurd (short one refl same)
    by (inr (inl same)) = absurd (short two refl same)
    by (inr (inr same)) =
        with_nucleus same
        (some_of_three (λ l. Unit {0}) (p false (Var 0)) (q (Var 0)) (s true) x.target (subst (λ (w : Numbered). IsSomeAnd (numbered (w.clause).literals x.target) (λ l. Unit {0})) (sym same) h.target_there))

-- target 2, units 1 and 2
pub sites : (limit : ℕ) → 0 < limit → AreUrSites nucleus usable limit (record { nucleus = 3; target = 2; units = 1 ∷ 2 ∷ [] } ∷ [])
sites limit some = record {
  rising = pairs_of_one (λ x y. IsBefore (ur_numbers x) (ur_numbers y)) site;
  only = all_of_one (λ x. (i : Inference) × IsUr nucleus usable x i) site (inference, is_site);
  no_more = omega arith;
  first = λ x h. inl (0, omega arith, only_sites x h.0 h.1);
}

-- ---- its conclusion

abbrev part : Clause
part = record { literals = p false a ∷ q a ∷ s true ∷ [] }

abbrev rest : Clause
rest = record { literals = q a ∷ s true ∷ [] }

abbrev conclusion : Clause
conclusion = record { literals = q a ∷ [] }

abbrev taken : Substitution
taken = value_of (a ∷ [])

unifies : IsUnifier (first_pair ∷ second_pair ∷ []) taken
unifies = unifier_of_two first_pair second_pair taken (simp (under-App, under-Var)) refl

general : (t : Substitution) → IsUnifier (first_pair ∷ second_pair ∷ []) t → IsInstanceOf taken t
general t u = (t, same)
  where
    first : term_under t (Var 0) ≡ term_under t a
    first = ap (λ (x : Atom). get_or x.args 0 (Var 0)) (u 0 first_pair (omega arith))

    same : (n : ℕ) → t n ≡ term_under t (taken n)
    same zero = sym (under-Var t 0) ∙ first
    same (suc n) = sym (under-Var t (suc n))

abbrev parts : List Clause
parts = part ∷ one.clause ∷ two.clause ∷ []

joint : IsJointInstance (nucleus.clause ∷ one.clause ∷ two.clause ∷ []) (first_pair ∷ second_pair ∷ []) parts
joint = (taken, record { unifies = unifies; general = general }, sym (ap (λ cs. renumbered (map (clause_under taken) cs)) apart_so ∙ simp (under-Var, under-App, variables-App)))

abbrev lines_two : List Line
lines_two = record { step = Input 3; clause = nucleus.clause } ∷ record { step = Instance 1 (a ∷ []); clause = part } ∷ []

abbrev lines_three : List Line
lines_three = record { step = Input 3; clause = nucleus.clause } ∷ record { step = Instance 1 (a ∷ []); clause = part } ∷ record { step = Input 1; clause = one.clause } ∷ []

abbrev lines_four : List Line
lines_four =
    record { step = Input 3; clause = nucleus.clause }
    ∷ record { step = Instance 1 (a ∷ []); clause = part }
    ∷ record { step = Input 1; clause = one.clause }
    ∷ record { step = Input 2; clause = two.clause } ∷ []

abbrev lines_five : List Line
lines_five =
    record { step = Input 3; clause = nucleus.clause }
    ∷ record { step = Instance 1 (a ∷ []); clause = part }
    ∷ record { step = Input 1; clause = one.clause }
    ∷ record { step = Input 2; clause = two.clause }
    ∷ record { step = Resolve 2 1 3 1; clause = rest } ∷ []

abbrev lines_six : List Line
lines_six =
    record { step = Input 3; clause = nucleus.clause }
    ∷ record { step = Instance 1 (a ∷ []); clause = part }
    ∷ record { step = Input 1; clause = one.clause }
    ∷ record { step = Input 2; clause = two.clause }
    ∷ record { step = Resolve 2 1 3 1; clause = rest }
    ∷ record { step = Resolve 5 2 4 1; clause = conclusion } ∷ []

wide : width nucleus.clause ≡ 1
wide = simp width-Var

gives : instance (a ∷ []) nucleus.clause ≡ part
gives = simp instance-Var

other_part : ¬ (part ≡ nucleus.clause)
other_part h = let same : a ≡ Var 0 = ap (λ (c : Clause). get_or (get_or c.literals 0 (p true a)).args 0 (Var 0)) h in cc

opens_nucleus : AddsPart [] nucleus part lines_two 2
opens_nucleus = adds_instance [] nucleus part (record { step = Input 3; clause = nucleus.clause } ∷ []) 1 (a ∷ []) lines_two (adds_input [] nucleus refl) other_part
    (terms_of_one nucleus.clause part a (0 ∷ []) wide (simp variables-Var) gives) (part, (sym wide, sym gives), refl)

opens : AddsParts [] (nucleus ∷ one ∷ two ∷ []) parts lines_four (2 ∷ 3 ∷ 4 ∷ [])
opens = (lines_two, opens_nucleus, (lines_three, adds_whole lines_two one lines_three 3 (adds_input lines_two one refl), (lines_four, adds_whole lines_three two lines_four 4 (adds_input lines_three two refl), (refl, refl))))

-- the third literal is the second once the first is gone
resolves : Ends (Resolving (1 ∷ 3 ∷ []) (1 ∷ 1 ∷ [])) (2 ∷ 3 ∷ 4 ∷ []) lines_four lines_six
resolves = (lines_five, (rest, ((refl, refl), refl), refl), (lines_six, (conclusion, ((refl, refl), refl), refl), refl))

-- q(a), with its six lines
pub concludes : Concludes inference (record { clause = conclusion; lines = lines_six })
concludes = record {
  parts = parts;
  joint = joint;
  joint_within = record { light = simp weight-App (omega arith); shallow = simp depth-App (omega arith) };
  opening = lines_four;
  part_lines = 2 ∷ 3 ∷ 4 ∷ [];
  opens = opens;
  steps = lines_six;
  ends = resolves;
  canonical_last = inl (simp variables-App, refl);
  conclusion = refl;
  conclusion_within = record { light = simp weight-App (omega arith); shallow = simp depth-App (omega arith) };
}
