-- Worked: the sites of binary resolution of -p(x0) | q(x0) with p(a), itself and -q(a).
use Rattle.std.proofs.Common.{◌≡◌, ◌∙◌, refl, sym, ap, subst, ℕ, zero, suc, ◌+◌, ◌<◌, ◌⊎◌, inl, inr, List, [], ◌∷◌, map, arith, true, false, not, Bool, Some, get_or}
use Rattle.std.specs.List.{Contains}
use Rattle.sc_term.specs.declared.Term.{Term, Var}
use Rattle.sc_term.specs.declared.Term.TheVariants.{App}
use Rattle.sc_term.specs.declared.Literal.{Literal}
use Rattle.sc_term.specs.declared.Clause.{Clause}
use Rattle.sc_term.specs.declared.Numbered.{Numbered}
use Rattle.sc_term.specs.declared.Pair.{Pair}
use Rattle.sc_term.specs.Term.{value_of, term_under}
use Rattle.sc_term.specs.Clause.{width, instance}
use Rattle.sc_term.specs.Numbering.{numbered}
use Rattle.sc_term.specs.Refuted.{Atom}
use Rattle.sc_term.specs.Substitution.{Substitution, IsUnifier, literal_under, IsInstanceOf, clause_under}
use Rattle.sc_term.specs.JointInstance.{apart, renumbered, IsJointInstance}
use Rattle.sc_term.proofs.TermSteps.{under-Var, under-App, variables-Var, variables-App}
use Rattle.sc_term.proofs.TermLaws.{width-Var, instance-Var, weight-App, depth-App}
use Rattle.sc_core_rules.specs.declared.site.BinarySite.{BinarySite}
use Rattle.sc_core_rules.specs.Pairing.{Place, literal_at, ArePairs, places_in}
use Rattle.sc_core_rules.specs.Inference.{Inference, Resolving, Ends, Concludes}
use Rattle.sc_core_rules.specs.Resolution.{IsBinary, AreBinarySites, binary_numbers}
use Rattle.sc_core_rules.specs.Order.{IsBefore}
use Rattle.sc_core_rules.proofs.Enumerations.{in_three, numbered_one, numbered_two, all_of_two, pairs_of_two}
use Rattle.sc_core_rules.proofs.PairLaws.{unifier_of_one, opposite_one, first_unifying, first_opposed, one_predicate, same_sign}
use Rattle.sc_term.specs.declared.Line.{Line}
use Rattle.sc_term.specs.declared.Step.TheVariants.{Input, Instance, Resolve}
use Rattle.sc_core_rules.specs.Derivation.{AddsPart, AddsParts}
use Rattle.sc_core_rules.proofs.DerivationCases.{adds_input, adds_whole, adds_instance, terms_of_one}

abbrev pub a : Term
a = App (record { 0 = 3 }) []

abbrev pub lit : Bool → ℕ → Term → Literal
lit positive pred t = record { positive = positive; pred = record { 0 = pred }; args = t ∷ [] }

abbrev pub of : ℕ → List Literal → Numbered
of n ls = record { number = n; clause = record { literals = ls } }

abbrev pub one : Numbered
one = of 1 (lit true 1 a ∷ [])

abbrev pub given : Numbered
given = of 2 (lit false 1 (Var 0) ∷ lit true 2 (Var 0) ∷ [])

abbrev pub three : Numbered
three = of 3 (lit false 2 a ∷ [])

abbrev pub usable : List Numbered
usable = one ∷ given ∷ three ∷ []

abbrev pub site : ℕ → ℕ → BinarySite
site partner l = record { partner = partner; given_lit = l; partner_lit = 1 }

-- ---- both are sites

abbrev s : Substitution
s = value_of (a ∷ [])

abbrev pub pair_with : Bool → ℕ → Pair
pair_with positive pred = record { left = lit (not positive) pred (Var 0); right = lit positive pred a }

unifies : (positive : Bool) (pred : ℕ) → IsUnifier (pair_with positive pred ∷ []) s
unifies positive pred = unifier_of_one (pair_with positive pred) s (simp (under-App, under-Var))

apart_so : (positive : Bool) (pred : ℕ) → apart (given.clause ∷ (of 1 (lit positive pred a ∷ [])).clause ∷ []) ≡ given.clause ∷ (of 1 (lit positive pred a ∷ [])).clause ∷ []
apart_so positive pred = simp (under-App, under-Var)

pub is_first : IsBinary given usable (site 1 1) (record { parents = given ∷ one ∷ []; pairs = pair_with true 1 ∷ []; ending = Resolving (1 ∷ []) (1 ∷ []) })
is_first = record {
  partner = one;
  listed = (0, omega arith, refl);
  named = refl;
  parents = refl;
  pairs = subst (λ cs. ArePairs cs (places_in 1 (1 ∷ [])) (places_in 2 (1 ∷ [])) (pair_with true 1 ∷ [])) (sym (apart_so true 1)) (refl, refl, refl);
  signs = opposite_one (pair_with true 1) refl;
  unify = (s, unifies true 1);
  ending = refl;
}

pub is_second : IsBinary given usable (site 3 2) (record { parents = given ∷ three ∷ []; pairs = pair_with false 2 ∷ []; ending = Resolving (2 ∷ []) (1 ∷ []) })
is_second = record {
  partner = three;
  listed = (2, omega arith, refl);
  named = refl;
  parents = refl;
  pairs = subst (λ cs. ArePairs cs (places_in 1 (2 ∷ [])) (places_in 2 (1 ∷ [])) (pair_with false 2 ∷ [])) (sym (apart_so false 2)) (refl, refl, refl);
  signs = opposite_one (pair_with false 2) refl;
  unify = (s, unifies false 2);
  ending = refl;
}

-- ---- there is no other

-- the parents of a site, renamed apart
abbrev renamed : Numbered → List Clause
renamed partner = apart (given.clause ∷ partner.clause ∷ [])

-- the literals of a site have opposite signs and one predicate
pub record Agree (partner : Numbered) (x : BinarySite) : Type 0 where
  pub left : Literal
  pub right : Literal
  pub left_there : literal_at (renamed partner) (record { parent = 1; lit = x.given_lit }) ≡ Some left
  pub right_there : literal_at (renamed partner) (record { parent = 2; lit = x.partner_lit }) ≡ Some right
  pub signs : left.positive ≡ not right.positive
  pub predicate : left.pred.0 ≡ right.pred.0

agree : (x : BinarySite) (i : Inference) (h : IsBinary given usable x i) → Agree h.partner x
agree x i h =
    let there : ArePairs (renamed h.partner) (places_in 1 (x.given_lit ∷ [])) (places_in 2 (x.partner_lit ∷ [])) i.pairs =
    subst (λ (ps : List Numbered). ArePairs (apart (map (λ (q : Numbered). q.clause) ps)) (places_in 1 (x.given_lit ∷ [])) (places_in 2 (x.partner_lit ∷ [])) i.pairs) h.parents h.pairs in
    let left_place : Place = record { parent = 1; lit = x.given_lit } in
    let right_place : Place = record { parent = 2; lit = x.partner_lit } in
    let both = first_unifying (renamed h.partner) left_place right_place [] [] i.pairs there h.unify in
    record {
      left = both.left;
      right = both.right;
      left_there = both.left_there;
      right_there = both.right_there;
      signs = first_opposed (renamed h.partner) left_place right_place [] [] i.pairs both.left both.right there h.signs both.left_there both.right_there;
      predicate = one_predicate (renamed h.partner) left_place right_place both;
    }

-- the literals of the given clause
abbrev IsGivenLiteral : ℕ → Literal → Type 0
IsGivenLiteral n l = ((n ≡ 1) × (l.positive ≡ false) × (l.pred.0 ≡ 1)) ⊎ ((n ≡ 2) × (l.positive ≡ true) × (l.pred.0 ≡ 2))

of_given : (by : Substitution) (n : ℕ) (l : Literal) → numbered (map (literal_under by) (given.clause).literals) n ≡ Some l → IsGivenLiteral n l
of_given s n l h = by (numbered_two (literal_under s (lit false 1 (Var 0))) (literal_under s (lit true 2 (Var 0))) n l h)
  where
    by : ((n ≡ 1) × (literal_under s (lit false 1 (Var 0)) ≡ l)) ⊎ ((n ≡ 2) × (literal_under s (lit true 2 (Var 0)) ≡ l)) → IsGivenLiteral n l
    by (inl e) = inl (e.0, sym (ap (λ (x : Literal). x.positive) e.1), sym (ap (λ (x : Literal). x.pred.0) e.1))
    by (inr e) = inr (e.0, sym (ap (λ (x : Literal). x.positive) e.1), sym (ap (λ (x : Literal). x.pred.0) e.1))

-- the one literal of a partner
abbrev IsOnly : Bool → ℕ → ℕ → Literal → Type 0
IsOnly positive pred n l = (n ≡ 1) × (l.positive ≡ positive) × (l.pred.0 ≡ pred)

of_unit : (positive : Bool) (pred : ℕ) (s : Substitution) (n : ℕ) (l : Literal) → numbered (map (literal_under s) (lit positive pred a ∷ [])) n ≡ Some l → IsOnly positive pred n l
of_unit positive pred s n l h =
    let e = numbered_one (literal_under s (lit positive pred a)) n l h in
    (e.0, sym (ap (λ (x : Literal). x.positive) e.1), sym (ap (λ (x : Literal). x.pred.0) e.1))

with_one : (x : BinarySite) → Agree one x → 1 ≡ x.partner → site 1 1 ≡ x
with_one x agreed named = by (of_given (λ n. Var (n + 0)) x.given_lit agreed.left agreed.left_there)
  where
    right : IsOnly true 1 x.partner_lit agreed.right
    right = of_unit true 1 (λ n. Var (n + (0 + width given.clause))) x.partner_lit agreed.right agreed.right_there

    by : IsGivenLiteral x.given_lit agreed.left → site 1 1 ≡ x
    by (inl l) = λ k. record { partner = named k; given_lit = sym l.0 k; partner_lit = sym right.0 k }
    by (inr l) = absurd (same_sign agreed.left agreed.right true agreed.signs l.1 right.1)

with_three : (x : BinarySite) → Agree three x → 3 ≡ x.partner → site 3 2 ≡ x
with_three x agreed named = by (of_given (λ n. Var (n + 0)) x.given_lit agreed.left agreed.left_there)
  where
    right : IsOnly false 2 x.partner_lit agreed.right
    right = of_unit false 2 (λ n. Var (n + (0 + width given.clause))) x.partner_lit agreed.right agreed.right_there

    by : IsGivenLiteral x.given_lit agreed.left → site 3 2 ≡ x
    by (inl l) = absurd (same_sign agreed.left agreed.right false agreed.signs l.1 right.1)
    by (inr l) = λ k. record { partner = named k; given_lit = sym l.0 k; partner_lit = sym right.0 k }

-- with itself it has none: of equal signs, or of two predicates
with_itself : (x : BinarySite) → ¬ Agree given x
with_itself x agreed =
    by (of_given (λ n. Var (n + 0)) x.given_lit agreed.left agreed.left_there)
    (of_given (λ n. Var (n + (0 + width given.clause))) x.partner_lit agreed.right agreed.right_there)
  where
    by : IsGivenLiteral x.given_lit agreed.left → IsGivenLiteral x.partner_lit agreed.right → ⊥
    by (inl l) (inl r) = same_sign agreed.left agreed.right false agreed.signs l.1 r.1
    by (inl l) (inr r) = omega (arith, l.2, r.2, agreed.predicate)
    by (inr l) (inl r) = omega (arith, l.2, r.2, agreed.predicate)
    by (inr l) (inr r) = same_sign agreed.left agreed.right true agreed.signs l.1 r.1

pub only_sites : (x : BinarySite) (i : Inference) → IsBinary given usable x i → (site 1 1 ≡ x) ⊎ (site 3 2 ≡ x)
only_sites x i h = by (in_three one given three h.partner h.listed)
  where
    by : (one ≡ h.partner) ⊎ (given ≡ h.partner) ⊎ (three ≡ h.partner) → (site 1 1 ≡ x) ⊎ (site 3 2 ≡ x)
    by (inl e) = inl (with_one x (subst (λ (p : Numbered). Agree p x) (sym e) (agree x i h)) (ap (λ (p : Numbered). p.number) e ∙ h.named))
    by (inr (inl e)) = absurd (with_itself x (subst (λ (p : Numbered). Agree p x) (sym e) (agree x i h)))
    by (inr (inr e)) = inr (with_three x (subst (λ (p : Numbered). Agree p x) (sym e) (agree x i h)) (ap (λ (p : Numbered). p.number) e ∙ h.named))

-- the sites are partner 1 with literals 1 and 1, and partner 3 with literals 2 and 1
pub sites : (limit : ℕ) → 1 < limit → AreBinarySites given usable limit (site 1 1 ∷ site 3 2 ∷ [])
sites limit some = record {
  rising = pairs_of_two (λ x y. IsBefore (binary_numbers x) (binary_numbers y)) (site 1 1) (site 3 2) (inl (omega arith));
  only = all_of_two (λ x. (i : Inference) × IsBinary given usable x i) (site 1 1) (site 3 2)
      (record { parents = given ∷ one ∷ []; pairs = pair_with true 1 ∷ []; ending = Resolving (1 ∷ []) (1 ∷ []) }, is_first)
      (record { parents = given ∷ three ∷ []; pairs = pair_with false 2 ∷ []; ending = Resolving (2 ∷ []) (1 ∷ []) }, is_second);
  no_more = omega arith;
  first = λ x h. inl (listed x (only_sites x h.0 h.1));
}
  where
    listed : (x : BinarySite) → (site 1 1 ≡ x) ⊎ (site 3 2 ≡ x) → Contains (site 1 1 ∷ site 3 2 ∷ []) x
    listed x (inl e) = (0, omega arith, e)
    listed x (inr e) = (1, omega arith, e)

-- ---- the conclusion of the first site

abbrev pub part : Clause
part = record { literals = lit false 1 a ∷ lit true 2 a ∷ [] }

abbrev pub conclusion : Clause
conclusion = record { literals = lit true 2 a ∷ [] }

general : (t : Substitution) → IsUnifier (pair_with true 1 ∷ []) t → IsInstanceOf s t
general t u = (t, same)
  where
    equal : term_under t (Var 0) ≡ term_under t a
    equal = ap (λ (x : Atom). get_or x.args 0 (Var 0)) (u 0 (pair_with true 1) (omega arith))

    same : (n : ℕ) → t n ≡ term_under t (s n)
    same zero = sym (under-Var t 0) ∙ equal
    same (suc n) = sym (under-Var t (suc n))

joint : IsJointInstance (given.clause ∷ one.clause ∷ []) (pair_with true 1 ∷ []) (part ∷ one.clause ∷ [])
joint = (s, record { unifies = unifies true 1; general = general }, sym (ap (λ cs. renumbered (map (clause_under s) cs)) (apart_so true 1) ∙ simp (under-Var, under-App, variables-App)))

abbrev lines_one : List Line
lines_one = record { step = Input 2; clause = given.clause } ∷ []

abbrev lines_two : List Line
lines_two = record { step = Input 2; clause = given.clause } ∷ record { step = Instance 1 (a ∷ []); clause = part } ∷ []

abbrev lines_three : List Line
lines_three = record { step = Input 2; clause = given.clause } ∷ record { step = Instance 1 (a ∷ []); clause = part } ∷ record { step = Input 1; clause = one.clause } ∷ []

abbrev pub lines_four : List Line
lines_four =
    record { step = Input 2; clause = given.clause }
    ∷ record { step = Instance 1 (a ∷ []); clause = part }
    ∷ record { step = Input 1; clause = one.clause }
    ∷ record { step = Resolve 2 1 3 1; clause = conclusion } ∷ []

wide : width given.clause ≡ 1
wide = simp width-Var

gives : instance (a ∷ []) given.clause ≡ part
gives = simp instance-Var

other_part : ¬ (part ≡ given.clause)
other_part h = let same : a ≡ Var 0 = ap (λ (c : Clause). get_or (get_or c.literals 0 (lit true 1 a)).args 0 (Var 0)) h in cc

opens_given : AddsPart [] given part lines_two 2
opens_given = adds_instance [] given part lines_one 1 (a ∷ []) lines_two (adds_input [] given refl) other_part (terms_of_one given.clause part a (0 ∷ []) wide (simp variables-Var) gives) (part, (sym wide, sym gives), refl)

opens : AddsParts [] (given ∷ one ∷ []) (part ∷ one.clause ∷ []) lines_three (2 ∷ 3 ∷ [])
opens = (lines_two, opens_given, (lines_three, adds_whole lines_two one lines_three 3 (adds_input lines_two one refl), (refl, refl)))

ends : Ends (Resolving (1 ∷ []) (1 ∷ [])) (2 ∷ 3 ∷ []) lines_three lines_four
ends = (lines_four, (conclusion, ((refl, refl), refl), refl), refl)

-- q(a), with its four lines
pub concludes : Concludes (record { parents = given ∷ one ∷ []; pairs = pair_with true 1 ∷ []; ending = Resolving (1 ∷ []) (1 ∷ []) }) (record { clause = conclusion; lines = lines_four })
concludes = record {
  parts = part ∷ one.clause ∷ [];
  joint = joint;
  joint_within = record { light = simp weight-App (omega arith); shallow = simp depth-App (omega arith) };
  opening = lines_three;
  part_lines = 2 ∷ 3 ∷ [];
  opens = opens;
  steps = lines_four;
  ends = ends;
  canonical_last = inl (simp variables-App, refl);
  conclusion = refl;
  conclusion_within = record { light = simp weight-App (omega arith); shallow = simp depth-App (omega arith) };
}
