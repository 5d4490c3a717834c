-- Worked: the sites of hyperresolution of -p(x0) | -p(x1) | r(x0,x1) with p(a) and p(b).
use Rattle.std.proofs.Common.{◌≡◌, ◌≢◌, ◌∙◌, refl, sym, ap, subst, ℕ, zero, suc, ◌+◌, ◌<◌, ◌⊎◌, inl, inr, List, [], ◌∷◌, map, arith, true, false, Bool, Some, get_or}
use Rattle.std.specs.Prelude.{IsSomeAnd}
use Rattle.std.specs.List.{Contains, All}
use Rattle.sc_term.specs.declared.Term.{Term, Var}
use Rattle.sc_term.specs.declared.Term.TheVariants.{App}
use Rattle.sc_term.specs.declared.Literal.{Literal}
use Rattle.sc_term.specs.declared.Clause.{Clause}
use Rattle.sc_term.specs.declared.Numbered.{Numbered}
use Rattle.sc_term.specs.declared.Pair.{Pair}
use Rattle.sc_term.specs.Term.{value_of, term_under}
use Rattle.sc_term.specs.Numbering.{numbered}
use Rattle.sc_term.specs.Substitution.{Substitution, IsUnifier, literal_under, IsInstanceOf, clause_under}
use Rattle.sc_term.specs.JointInstance.{apart, renumbered, IsJointInstance}
use Rattle.sc_term.proofs.TermSteps.{under-Var, under-App, variables-Var, variables-App}
use Rattle.sc_core_rules.specs.declared.site.HyperSite.{HyperSite}
use Rattle.sc_core_rules.specs.declared.site.Pick.{Pick}
use Rattle.sc_core_rules.specs.Pairing.{ArePairs, places_in, places_from}
use Rattle.sc_core_rules.specs.Inference.{Inference, Resolving, Ends, Concludes}
use Rattle.sc_core_rules.specs.Hyperresolution.{AreLiteralsWith, AreNamed, IsPositive, IsHyper, AreHyperSites, hyper_numbers, picked_literals}
use Rattle.sc_core_rules.specs.Order.{IsBefore}
use Rattle.sc_core_rules.proofs.Enumerations.{in_three, numbered_one, some_of_one, some_of_three, all_of_one, all_of_two, all_of_four, pairs_of_two, pairs_of_four}
use Rattle.sc_core_rules.proofs.PairLaws.{unifier_of_two}
use Rattle.sc_core_rules.proofs.OrderLaws.{in_order_is_one}
use Rattle.sc_term.specs.declared.Line.{Line}
use Rattle.sc_term.specs.Clause.{instance, width}
use Rattle.sc_term.specs.Refuted.{Atom}
use Rattle.sc_term.proofs.TermLaws.{width-Var, instance-Var, weight-App, depth-App}
use Rattle.sc_core_rules.specs.Derivation.{AddsPart, AddsParts}
use Rattle.sc_core_rules.proofs.DerivationCases.{adds_input, adds_whole, adds_instance, terms_of_two}
use Rattle.sc_term.specs.declared.Step.TheVariants.{Input, Instance, Resolve}

-- constant 1 is a, and constant 2 is b
abbrev pub constant : ℕ → Term
constant n = App (record { 0 = n + 2 }) []

abbrev pub p : Bool → Term → Literal
p positive t = record { positive = positive; pred = record { 0 = 1 }; args = t ∷ [] }

abbrev pub r : Term → Term → Literal
r s t = record { positive = true; pred = record { 0 = 2 }; args = s ∷ t ∷ [] }

-- electron n is p of constant n
abbrev pub electron : ℕ → Numbered
electron n = record { number = n; clause = record { literals = p true (constant n) ∷ [] } }

abbrev pub nucleus : Numbered
nucleus = record { number = 3; clause = record { literals = p false (Var 0) ∷ p false (Var 1) ∷ r (Var 0) (Var 1) ∷ [] } }

abbrev usable : List Numbered
usable = electron 1 ∷ electron 2 ∷ nucleus ∷ []

abbrev pick : ℕ → Pick
pick n = record { number = n; lit = 1 }

abbrev site : ℕ → ℕ → HyperSite
site m n = record { nucleus = 3; electrons = pick m ∷ pick n ∷ [] }

-- ---- the negative literals of the nucleus

abbrev IsNegative : ℕ → Literal → Type 0
IsNegative n l = l.positive ≡ false

negatives : AreLiteralsWith IsNegative nucleus.clause (1 ∷ 2 ∷ [])
negatives = record {
  rising = pairs_of_two (λ m n. IsBefore (m ∷ []) (n ∷ [])) 1 2 (inl (omega arith));
  only = all_of_two (λ n. IsSomeAnd (numbered (nucleus.clause).literals n) (IsNegative n)) 1 2 refl refl;
  all = λ n h. among n h;
}
  where
    by : (n : ℕ) → ((n ≡ 1) × (false ≡ false)) ⊎ ((n ≡ 2) × (false ≡ false)) ⊎ ((n ≡ 3) × (true ≡ false)) → Contains (1 ∷ 2 ∷ []) n
    by n (inl e) = (0, omega arith, sym e.0)
    by n (inr (inl e)) = (1, omega arith, sym e.0)
    by n (inr (inr e)) = let bad : true ≡ false = e.1 in cc

    among : (n : ℕ) → IsSomeAnd (numbered (nucleus.clause).literals n) (IsNegative n) → Contains (1 ∷ 2 ∷ []) n
    among n h = by n (some_of_three (IsNegative n) (p false (Var 0)) (p false (Var 1)) (r (Var 0) (Var 1)) n h)

-- ---- the four sites

abbrev pairs : ℕ → ℕ → List Pair
pairs m n = record { left = p false (Var 0); right = p true (constant m) } ∷ record { left = p false (Var 1); right = p true (constant n) } ∷ []

abbrev inference : ℕ → ℕ → Inference
inference m n = record { parents = nucleus ∷ electron m ∷ electron n ∷ []; pairs = pairs m n; ending = Resolving (1 ∷ 2 ∷ []) (1 ∷ 1 ∷ []) }

apart_so : (m n : ℕ) → apart (nucleus.clause ∷ (electron m).clause ∷ (electron n).clause ∷ []) ≡ nucleus.clause ∷ (electron m).clause ∷ (electron n).clause ∷ []
apart_so m n = simp (under-App, under-Var)

abbrev s : ℕ → ℕ → Substitution
s m n = value_of (constant m ∷ constant n ∷ [])

is_site : (m n : ℕ) → Contains usable (electron m) → Contains usable (electron n) → IsHyper nucleus usable (site m n) (inference m n)
is_site m n first second = record {
  nucleus = nucleus;
  electrons = electron m ∷ electron n ∷ [];
  nucleus_named = ((refl, (2, omega arith, refl)), tt);
  electrons_named = ((refl, first), ((refl, second), tt));
  electrons_positive = all_of_two (λ (e : Numbered). IsPositive e.clause) (electron m) (electron n) (positive m) (positive n);
  has_given = (0, omega arith, refl);
  parents = refl;
  negative = 1 ∷ 2 ∷ [];
  are_negative = negatives;
  some_negative = λ e. cc;
  pairs = subst (λ cs. ArePairs cs (places_in 1 (1 ∷ 2 ∷ [])) (places_from 2 (1 ∷ 1 ∷ [])) (pairs m n)) (sym (apart_so m n)) (refl, refl, (refl, refl, refl));
  unify = (s m n, unifier_of_two (record { left = p false (Var 0); right = p true (constant m) }) (record { left = p false (Var 1); right = p true (constant n) }) (s m n) (simp (under-App, under-Var)) (simp (under-App, under-Var)));
  ending = refl;
}
  where
    positive : (n : ℕ) → IsPositive (electron n).clause
    positive n = all_of_one (λ (l : Literal). l.positive ≡ true) (p true (constant n)) refl

-- ---- there is no other

-- p(a) and p(b) are no nuclei
no_nucleus : (n : ℕ) (ns : List ℕ) → AreLiteralsWith IsNegative (electron n).clause ns → ns ≢ [] → ⊥
no_nucleus n [] are some = some refl
no_nucleus n (k ∷ ks) are some = let bad : true ≡ false = (some_of_one (IsNegative k) (p true (constant n)) k (are.only 0 k (omega arith))).1 in cc

abbrev IsPick : Pick → Type 0
IsPick q = (pick 1 ≡ q) ⊎ (pick 2 ≡ q)

one_literal : (n : ℕ) (by : Substitution) (k : ℕ) (l : Literal) → numbered (map (literal_under by) ((electron n).clause).literals) k ≡ Some l → k ≡ 1
one_literal n by k l h = (numbered_one (literal_under by (p true (constant n))) k l h).0

same_pick : (n : ℕ) (q : Pick) (e : Numbered) → electron n ≡ e → e.number ≡ q.number → (by : Substitution) (l : Literal) → numbered (map (literal_under by) (e.clause).literals) q.lit ≡ Some l → pick n ≡ q
same_pick n q e same named by l h =
    let number : n ≡ q.number = ap (λ (p : Numbered). p.number) same ∙ named in
    let lit : q.lit ≡ 1 = one_literal n by q.lit l (subst (λ (p : Numbered). numbered (map (literal_under by) (p.clause).literals) q.lit ≡ Some l) (sym same) h) in
    λ k. record { number = number k; lit = sym lit k }

is_pick : (q : Pick) (e : Numbered) → e.number ≡ q.number → Contains usable e → IsPositive e.clause → (by : Substitution) (l : Literal) → numbered (map (literal_under by) (e.clause).literals) q.lit ≡ Some l → IsPick q
is_pick q e named listed positive s l h = by (in_three (electron 1) (electron 2) nucleus e listed)
  where
    by : (electron 1 ≡ e) ⊎ (electron 2 ≡ e) ⊎ (nucleus ≡ e) → IsPick q
    by (inl same) = inl (same_pick 1 q e same named s l h)
    by (inr (inl same)) = inr (same_pick 2 q e same named s l h)
    by (inr (inr same)) = let bad : false ≡ true = subst (λ (p : Numbered). IsPositive p.clause) (sym same) positive 0 (p true (Var 0)) (omega arith) in cc

-- the literals set against the two negative ones are two picks
two_picks : (picks : List Pick) (es : List Numbered) (ps : List Pair) → AreNamed usable (map (λ (q : Pick). q.number) picks) es → All (λ (e : Numbered). IsPositive e.clause) es
    → ArePairs (apart (nucleus.clause ∷ map (λ (e : Numbered). e.clause) es)) (places_in 1 (1 ∷ 2 ∷ [])) (places_from 2 (map (λ (q : Pick). q.lit) picks)) ps
    → (m : Pick) × (n : Pick) × IsPick m × IsPick n × (m ∷ n ∷ [] ≡ picks)
two_picks [] es ps named positive h = absurd h
two_picks (m ∷ []) es [] named positive h = absurd h
two_picks (m ∷ []) es (q ∷ qs) named positive h = absurd h.2
two_picks (m ∷ n ∷ o ∷ more) es [] named positive h = absurd h
two_picks (m ∷ n ∷ o ∷ more) es (q ∷ []) named positive h = absurd h.2
two_picks (m ∷ n ∷ o ∷ more) es (q ∷ q2 ∷ qs) named positive h = absurd h.2.2
two_picks (m ∷ n ∷ []) [] ps named positive h = absurd named
two_picks (m ∷ n ∷ []) (e ∷ []) ps named positive h = absurd named.1
two_picks (m ∷ n ∷ []) (e ∷ g ∷ d ∷ more) ps named positive h = absurd named.1.1
two_picks (m ∷ n ∷ []) (e ∷ g ∷ []) [] named positive h = absurd h
two_picks (m ∷ n ∷ []) (e ∷ g ∷ []) (q ∷ []) named positive h = absurd h.2
two_picks (m ∷ n ∷ []) (e ∷ g ∷ []) (q ∷ q2 ∷ qs) named positive h =
    (m, n, is_pick m e named.0.0 named.0.1 (positive 0 e (omega arith)) _ q.right h.1, is_pick n g named.1.0.0 named.1.0.1 (positive 1 e (omega arith)) _ q2.right h.2.1, refl)

abbrev all_sites : List HyperSite
all_sites = site 1 1 ∷ site 1 2 ∷ site 2 1 ∷ site 2 2 ∷ []

listed : (x : HyperSite) → 3 ≡ x.nucleus → (m : Pick) × (n : Pick) × IsPick m × IsPick n × (m ∷ n ∷ [] ≡ x.electrons) → Contains all_sites x
listed x named (m, n, is_m, is_n, same) = by is_m is_n
  where
    site_is : (j k : ℕ) → pick j ≡ m → pick k ≡ n → site j k ≡ x
    site_is j k first second = (λ l. record { nucleus = 3; electrons = first l ∷ second l ∷ [] }) ∙ (λ l. record { nucleus = named l; electrons = same l })

    by : IsPick m → IsPick n → Contains all_sites x
    by (inl a) (inl b) = (0, omega arith, site_is 1 1 a b)
    by (inl a) (inr b) = (1, omega arith, site_is 1 2 a b)
    by (inr a) (inl b) = (2, omega arith, site_is 2 1 a b)
    by (inr a) (inr b) = (3, omega arith, site_is 2 2 a b)

only_sites : (x : HyperSite) (i : Inference) → IsHyper nucleus usable x i → Contains all_sites x
only_sites x i h = by (in_three (electron 1) (electron 2) nucleus h.nucleus h.nucleus_named.0.1)
  where
    no_other : (n : ℕ) → electron n ≡ h.nucleus → ⊥
    no_other n same = no_nucleus n h.negative (subst (λ (q : Numbered). AreLiteralsWith IsNegative q.clause h.negative) (sym same) h.are_negative) h.some_negative

    with_nucleus : nucleus ≡ h.nucleus → Contains all_sites x
    with_nucleus same =
        let are = subst (λ (q : Numbered). AreLiteralsWith IsNegative q.clause h.negative) (sym same) h.are_negative in
        let negative : h.negative ≡ 1 ∷ 2 ∷ [] = in_order_is_one (λ (n : ℕ). n ∷ []) (λ n. IsSomeAnd (numbered (nucleus.clause).literals n) (IsNegative n)) h.negative (1 ∷ 2 ∷ []) are negatives in
        let parents : i.parents ≡ nucleus ∷ h.electrons = h.parents ∙ (λ k. sym same k ∷ h.electrons) in
        let there = subst (λ (ns : List ℕ). ArePairs (apart (nucleus.clause ∷ map (λ (e : Numbered). e.clause) h.electrons)) (places_in 1 ns) (places_from 2 (picked_literals x)) i.pairs) negative
        (subst (λ (ps : List Numbered). ArePairs (apart (map (λ (q : Numbered). q.clause) ps)) (places_in 1 h.negative) (places_from 2 (picked_literals x)) i.pairs) parents h.pairs) in
        listed x (ap (λ (q : Numbered). q.number) same ∙ h.nucleus_named.0.0) (two_picks x.electrons h.electrons i.pairs h.electrons_named h.electrons_positive there)

    by : (electron 1 ≡ h.nucleus) ⊎ (electron 2 ≡ h.nucleus) ⊎ (nucleus ≡ h.nucleus) → Contains all_sites x
    by (inl same) = absurd (no_other 1 same)
    by (inr (inl same)) = absurd (no_other 2 same)
    by (inr (inr same)) = with_nucleus same

-- the electrons are (1, 1), (1, 2), (2, 1), (2, 2), each with its literal 1
pub sites : (limit : ℕ) → 3 < limit → AreHyperSites nucleus usable limit (site 1 1 ∷ site 1 2 ∷ site 2 1 ∷ site 2 2 ∷ [])
sites limit some = record {
  rising = pairs_of_four (λ x y. IsBefore (hyper_numbers x) (hyper_numbers y)) (site 1 1) (site 1 2) (site 2 1) (site 2 2)
      (inr (refl, inr (refl, inr (refl, inl (omega arith)))))
      (inr (refl, inl (omega arith)))
      (inr (refl, inl (omega arith)))
      (inr (refl, inl (omega arith)))
      (inr (refl, inl (omega arith)))
      (inr (refl, inr (refl, inr (refl, inl (omega arith)))));
  only = all_of_four (λ x. (i : Inference) × IsHyper nucleus usable x i) (site 1 1) (site 1 2) (site 2 1) (site 2 2)
      (inference 1 1, is_site 1 1 first first) (inference 1 2, is_site 1 2 first second) (inference 2 1, is_site 2 1 second first) (inference 2 2, is_site 2 2 second second);
  no_more = omega arith;
  first = λ x h. inl (only_sites x h.0 h.1);
}
  where
    first : Contains usable (electron 1)
    first = (0, omega arith, refl)

    second : Contains usable (electron 2)
    second = (1, omega arith, refl)

-- ---- the conclusion of the second site

abbrev a : Term
a = constant 1

abbrev b : Term
b = constant 2

abbrev part : Clause
part = record { literals = p false a ∷ p false b ∷ r a b ∷ [] }

abbrev rest : Clause
rest = record { literals = p false b ∷ r a b ∷ [] }

abbrev conclusion : Clause
conclusion = record { literals = r a b ∷ [] }

unifies : IsUnifier (pairs 1 2) (s 1 2)
unifies = unifier_of_two (record { left = p false (Var 0); right = p true a }) (record { left = p false (Var 1); right = p true b }) (s 1 2) (simp (under-App, under-Var)) (simp (under-App, under-Var))

general : (t : Substitution) → IsUnifier (pairs 1 2) t → IsInstanceOf (s 1 2) t
general t u = (t, same)
  where
    first : term_under t (Var 0) ≡ term_under t a
    first = ap (λ (x : Atom). get_or x.args 0 (Var 0)) (u 0 (record { left = p false a; right = p true a }) (omega arith))

    second : term_under t (Var 1) ≡ term_under t b
    second = ap (λ (x : Atom). get_or x.args 0 (Var 0)) (u 1 (record { left = p false a; right = p true a }) (omega arith))

    same : (n : ℕ) → t n ≡ term_under t (s 1 2 n)
    same zero = sym (under-Var t 0) ∙ first
    same (suc zero) = sym (under-Var t 1) ∙ second
    same (suc (suc n)) = sym (under-Var t (suc (suc n)))

abbrev parents : List Numbered
parents = nucleus ∷ electron 1 ∷ electron 2 ∷ []

abbrev parts : List Clause
parts = part ∷ (electron 1).clause ∷ (electron 2).clause ∷ []

joint : IsJointInstance (nucleus.clause ∷ (electron 1).clause ∷ (electron 2).clause ∷ []) (pairs 1 2) parts
joint = (s 1 2, record { unifies = unifies; general = general }, sym (ap (λ cs. renumbered (map (clause_under (s 1 2)) cs)) (apart_so 1 2) ∙ simp (under-Var, under-App, variables-App)))

abbrev lines_two : List Line
lines_two = record { step = Input 3; clause = nucleus.clause } ∷ record { step = Instance 1 (a ∷ b ∷ []); clause = part } ∷ []

abbrev lines_three : List Line
lines_three = record { step = Input 3; clause = nucleus.clause } ∷ record { step = Instance 1 (a ∷ b ∷ []); clause = part } ∷ record { step = Input 1; clause = (electron 1).clause } ∷ []

abbrev lines_four : List Line
lines_four =
    record { step = Input 3; clause = nucleus.clause }
    ∷ record { step = Instance 1 (a ∷ b ∷ []); clause = part }
    ∷ record { step = Input 1; clause = (electron 1).clause }
    ∷ record { step = Input 2; clause = (electron 2).clause } ∷ []

abbrev lines_five : List Line
lines_five =
    record { step = Input 3; clause = nucleus.clause }
    ∷ record { step = Instance 1 (a ∷ b ∷ []); clause = part }
    ∷ record { step = Input 1; clause = (electron 1).clause }
    ∷ record { step = Input 2; clause = (electron 2).clause }
    ∷ record { step = Resolve 2 1 3 1; clause = rest } ∷ []

abbrev lines_six : List Line
lines_six =
    record { step = Input 3; clause = nucleus.clause }
    ∷ record { step = Instance 1 (a ∷ b ∷ []); clause = part }
    ∷ record { step = Input 1; clause = (electron 1).clause }
    ∷ record { step = Input 2; clause = (electron 2).clause }
    ∷ record { step = Resolve 2 1 3 1; clause = rest }
    ∷ record { step = Resolve 5 1 4 1; clause = conclusion } ∷ []

wide : width nucleus.clause ≡ 2
wide = simp width-Var

gives : instance (a ∷ b ∷ []) nucleus.clause ≡ part
gives = simp instance-Var

other_part : ¬ (part ≡ nucleus.clause)
other_part h = let same : a ≡ Var 0 = ap (λ (c : Clause). get_or (get_or c.literals 0 (p true a)).args 0 (Var 0)) h in cc

opens_nucleus : AddsPart [] nucleus part lines_two 2
opens_nucleus = adds_instance [] nucleus part (record { step = Input 3; clause = nucleus.clause } ∷ []) 1 (a ∷ b ∷ []) lines_two (adds_input [] nucleus refl) other_part
    (terms_of_two nucleus.clause part a b (0 ∷ 1 ∷ []) wide (simp variables-Var) gives) (part, (sym wide, sym gives), refl)

opens : AddsParts [] parents parts lines_four (2 ∷ 3 ∷ 4 ∷ [])
opens = (lines_two, opens_nucleus, (lines_three, adds_whole lines_two (electron 1) lines_three 3 (adds_input lines_two (electron 1) refl), (lines_four, adds_whole lines_three (electron 2) lines_four 4 (adds_input lines_three (electron 2) refl), (refl, refl))))

resolves : Ends (Resolving (1 ∷ 2 ∷ []) (1 ∷ 1 ∷ [])) (2 ∷ 3 ∷ 4 ∷ []) lines_four lines_six
resolves = (lines_five, (rest, ((refl, refl), refl), refl), (lines_six, (conclusion, ((refl, refl), refl), refl), refl))

-- r(a,b), with its six lines
pub concludes : Concludes (inference 1 2) (record { clause = conclusion; lines = lines_six })
concludes = record {
  parts = parts;
  joint = joint;
  joint_within = record { light = simp weight-App (omega arith); shallow = simp depth-App (omega arith) };
  opening = lines_four;
  part_lines = 2 ∷ 3 ∷ 4 ∷ [];
  opens = opens;
  steps = lines_six;
  ends = resolves;
  canonical_last = inl (simp variables-App, refl);
  conclusion = refl;
  conclusion_within = record { light = simp weight-App (omega arith); shallow = simp depth-App (omega arith) };
}
