-- The parts of parents: instances of them, in which the pairs are equal.
use Rattle.std.proofs.Common.{◌≡◌, ◌∙◌, sym, ap, subst, refl, ℕ, zero, suc, ◌+◌, ◌-◌, ◌<◌, ◌≤◌, max, fold, List, [], ◌∷◌, ◌++◌, length, length-append, map, sum, take, get_or, Some, false, true, slice_get, arith, not, append-nil}
use Rattle.std.specs.Prelude.{IfSome, IsSome, MatchOption, ◌↔◌, Option, None, IsSomeAnd}
use Rattle.std.specs.List.{remove, AllByRecursion}
use Rattle.std.proofs.lemmas.Option.{slice_get-map}
use Rattle.std.proofs.lemmas.List.Sums.{sum_by-cons}
use Rattle.sc_term.specs.declared.Term.{Term, Var}
use Rattle.sc_term.proofs.TermLaws.{term_ind, width-Var, width-App}
use Rattle.sc_term.proofs.TermSteps.{under-Var, under-App}
use Rattle.sc_resolve.specs.declared.joint.Both.{Both}
use Rattle.sc_term.specs.declared.Literal.{Literal}
use Rattle.sc_term.specs.declared.Clause.{Clause}
use Rattle.sc_term.specs.declared.Pair.{Pair}
use Rattle.sc_term.specs.Numbering.{numbered, without}
use Rattle.sc_term.specs.Refuted.{Atom, atom_of}
use Rattle.sc_term.specs.Term.{joined, largest, term_under, term_width}
use Rattle.sc_term.specs.Clause.{literal_weight, literal_depth, variables, firsts, IsWithinLimits, literal_width, width, instance}
use Rattle.sc_term.specs.Substitution.{Substitution, literal_under, clause_under, IsUnifier, IsMostGeneralUnifier}
use Rattle.sc_term.specs.JointInstance.{IsJointInstance, apart, renumbering, renumbered, whole, shift}
use Rattle.sc_term.proofs.SubstitutionLaws.{clauses_laws, literal_laws, all_of}
use Rattle.sc_steps.proofs.LineLaws.{map_some}
use Rattle.sc_unify.specs.Joint.{AreTermsOf}
use Rattle.sc_unify.specs.Unifiers.{substitution}
use Rattle.sc_unify.specs.declared.bound.Binding.{Binding}
use Rattle.sc_resolve.specs.Literals.{pair_of}
use Rattle.sc_resolve.specs.Parts.{IsOutside, AreJoint, AreTermsOfOne, AreTermsOfTwo}
use Rattle.sc_resolve.specs.Made.{IsRepeated, IsOpposed}
use Rattle.sc_resolve.proofs.LiteralLaws.{numbered_next, numbered_place, contains_at, apart_one, apart_two}

-- ---- parts are instances that make the pairs equal

pub record Unified (parents : List Clause) (pairs : List Pair) (parts : List Clause) : Type 0 where
  pub by : Substitution
  pub parts_are : parts ≡ map (clause_under by) (apart parents)
  pub unifies : IsUnifier pairs by

-- what makes two atoms equal still does when more is replaced
pub still_equal : (r s : Substitution) (l m : Literal) → atom_of (literal_under s l) ≡ atom_of (literal_under s m)
    → atom_of (literal_under (λ n. term_under r (s n)) l) ≡ atom_of (literal_under (λ n. term_under r (s n)) m)
still_equal r s l m e =
    ap atom_of (sym ((literal_laws l).compose r s)) ∙ ap (λ (a : Atom). let b : Atom = record { pred = a.pred; args = map (term_under r) a.args } in b) e ∙ ap atom_of ((literal_laws m).compose r s)

pub unified : (parents : List Clause) (pairs : List Pair) (parts : List Clause) → IsJointInstance parents pairs parts → Unified parents pairs parts
unified parents pairs parts (s, mgu, e) =
    let r = renumbering (firsts (joined (map variables (map (clause_under s) (apart parents))))) in
    record {
      by = λ n. term_under r (s n);
      parts_are = e ∙ (clauses_laws (apart parents)).compose r s;
      unifies = λ k d less. still_equal r s (get_or pairs k d).left (get_or pairs k d).right (mgu.unifies k d less);
    }

head_of : {X : Type 0} (x y : X) (xs ys : List X) → x ∷ xs ≡ y ∷ ys → x ≡ y
head_of x y xs ys e = cc

pub part_of_one : (c part : Clause) (pairs : List Pair) (h : Unified (c ∷ []) pairs (part ∷ [])) → part ≡ clause_under h.by c
part_of_one c part pairs h =
    head_of part (clause_under h.by c) [] [] (h.parts_are ∙ ap (map (clause_under h.by)) (apart_one c))

-- ---- literals of parts

pub numbered_map : {X Y : Type 0} (f : X → Y) (xs : List X) (n : ℕ) (x : X) → numbered xs n ≡ Some x → numbered (map f xs) n ≡ Some (f x)
numbered_map f xs n x h =
    let at = numbered_place xs n x h in
    ap (numbered (map f xs)) at.1 ∙ numbered_next (map f xs) at.0 ∙ slice_get-map f xs at.0 ∙ map_some f (slice_get xs at.0) x at.2

take_at : {X : Type 0} (xs : List X) (n k : ℕ) (x : X) → slice_get xs k ≡ Some x → k < n → slice_get (take n xs) k ≡ Some x
take_at xs zero k x h less = absurd (omega arith)
take_at [] (suc n) k x h less = h
take_at (y ∷ ys) (suc n) zero x h less = h
take_at (y ∷ ys) (suc n) (suc k) x h less = take_at ys n k x h (omega arith)

pub same_literal : (u : Substitution) (l m : Literal) → l.positive ≡ m.positive → atom_of (literal_under u l) ≡ atom_of (literal_under u m) → literal_under u l ≡ literal_under u m
same_literal u l m sign e = λ i. record { positive = sign i; pred = (e i).pred; args = (e i).args }

pub repeated : (c part : Clause) (l m : Literal) (first second : ℕ) → IsJointInstance (c ∷ []) (pair_of l m) (part ∷ []) → first < second
    → numbered c.literals first ≡ Some l → numbered c.literals second ≡ Some m → l.positive ≡ m.positive → IsRepeated part second
repeated c part l m first second joint order at_l at_m sign =
    let h = unified (c ∷ []) (pair_of l m) (part ∷ []) joint in
    let e : part ≡ clause_under h.by c = part_of_one c part (pair_of l m) h in
    let left : numbered part.literals first ≡ Some (literal_under h.by l) = ap (λ (d : Clause). numbered d.literals first) e ∙ numbered_map (literal_under h.by) c.literals first l at_l in
    let right : numbered part.literals second ≡ Some (literal_under h.by m) = ap (λ (d : Clause). numbered d.literals second) e ∙ numbered_map (literal_under h.by) c.literals second m at_m in
    let equal : literal_under h.by l ≡ literal_under h.by m = same_literal h.by l m sign (h.unifies 0 (record { left = l; right = m }) (omega arith)) in
    let place = numbered_place part.literals first (literal_under h.by l) left in
    record {
      literal = literal_under h.by m;
      there = right;
      earlier = contains_at (take (second - 1) part.literals) place.0 (literal_under h.by m)
          (take_at part.literals (second - 1) place.0 (literal_under h.by m) (place.2 ∙ ap (λ (x : Literal). Some x) equal) (omega (arith, order, place.1)));
    }

-- ---- limits

pub record NoMore (xs ys : List Literal) : Type 0 where
  pub light : sum (map literal_weight xs) ≤ sum (map literal_weight ys)
  pub shallow : largest (map literal_depth xs) ≤ largest (map literal_depth ys)

pub within_so : (c d : Clause) → NoMore c.literals d.literals → IsWithinLimits d → IsWithinLimits c
within_so c d h k = record { light = omega (arith, h.light, k.light); shallow = omega (arith, h.shallow, k.shallow) }

from_start : (a : ℕ) (ns : List ℕ) → fold max a ns ≡ max a (largest ns)
from_start a [] = omega arith
from_start a (n ∷ ns) = omega (arith, from_start (max a n) ns, from_start (max 0 n) ns)

largest-cons : (n : ℕ) (ns : List ℕ) → largest (n ∷ ns) ≡ max n (largest ns)
largest-cons n ns = omega (arith, from_start (max 0 n) ns)

sum-cons : (n : ℕ) (ns : List ℕ) → sum (n ∷ ns) ≡ n + sum ns
sum-cons n ns = sum_by-cons (λ k. k) n ns

pub removed : (xs : List Literal) (k : ℕ) → NoMore (remove xs k) xs
removed [] zero = record { light = omega arith; shallow = omega arith }
removed [] (suc k) = record { light = omega arith; shallow = omega arith }
removed (x ∷ xs) zero = record {
  light = omega (arith, sum-cons (literal_weight x) (map literal_weight xs));
  shallow = omega (arith, largest-cons (literal_depth x) (map literal_depth xs));
}
removed (x ∷ xs) (suc k) = let h = removed xs k in record {
  light = omega (arith, h.light, sum-cons (literal_weight x) (map literal_weight xs), sum-cons (literal_weight x) (map literal_weight (remove xs k)));
  shallow = omega (arith, h.shallow, largest-cons (literal_depth x) (map literal_depth xs), largest-cons (literal_depth x) (map literal_depth (remove xs k)));
}

pub both_no_more : (xs us ys vs : List Literal) → NoMore xs us → NoMore ys vs → NoMore (xs ++ ys) (us ++ vs)
both_no_more xs us ys vs h k = record {
  light = omega (arith, h.light, k.light, sums literal_weight xs ys, sums literal_weight us vs);
  shallow = omega (arith, h.shallow, k.shallow, deepest literal_depth xs ys, deepest literal_depth us vs);
}
  where
    sums : (w : Literal → ℕ) (xs ys : List Literal) → sum (map w (xs ++ ys)) ≡ sum (map w xs) + sum (map w ys)
    sums w [] ys = omega arith
    sums w (x ∷ xs) ys = omega (arith, sums w xs ys, sum-cons (w x) (map w xs), sum-cons (w x) (map w (xs ++ ys)))

    deepest : (w : Literal → ℕ) (xs ys : List Literal) → largest (map w (xs ++ ys)) ≡ max (largest (map w xs)) (largest (map w ys))
    deepest w [] ys = omega arith
    deepest w (x ∷ xs) ys = omega (arith, deepest w xs ys, largest-cons (w x) (map w xs), largest-cons (w x) (map w (xs ++ ys)))

-- ---- terms of one parent

-- what is told of parents renamed apart by a most general unifier
pub record IsTold (parents own : List Clause) (pairs : List Pair) (entries : List Binding) (found : Option (List (List Term))) : Type 0 where
  pub apart_so : parents ≡ apart own
  pub mgu : IsMostGeneralUnifier pairs (substitution entries)
  pub parts : (own : List Clause) (pairs : List Pair) (parts : List Clause) → parents ≡ apart own → IsMostGeneralUnifier pairs (substitution entries) → IsJointInstance own pairs parts
      → IfSome found (λ terms. AreTermsOf own terms parts)
  pub limits : (own : List Clause) (pairs : List Pair) (parts : List Clause) → parents ≡ apart own → IsMostGeneralUnifier pairs (substitution entries) → IsJointInstance own pairs parts
      → IsSome found ↔ IsWithinLimits (whole parts)

pub told_none : (parents own : List Clause) (pairs : List Pair) (entries : List Binding) (found : Option (List (List Term))) → IsTold parents own pairs entries found → found ≡ None → IsOutside own pairs
told_none parents own pairs entries found h e parts joint within =
    let some : IsSome found = (h.limits own pairs parts h.apart_so h.mgu joint).1 within in
    let bad : IsSome {T = List (List Term)} None = subst (λ (o : Option (List (List Term))). IsSome o) e some in let worse : false ≡ true = bad in cc

-- the joint instance itself
abbrev joint_parts : List Clause → List Binding → List Clause
joint_parts own entries = renumbered (map (clause_under (substitution entries)) (apart own))

pub told_some : (parents own : List Clause) (pairs : List Pair) (entries : List Binding) (found : Option (List (List Term))) (told : List (List Term)) → IsTold parents own pairs entries found → found ≡ Some told
    → AreTermsOf own told (joint_parts own entries) × AreJoint own pairs (joint_parts own entries)
told_some parents own pairs entries found told h e =
    let joint : IsJointInstance own pairs (joint_parts own entries) = (substitution entries, h.mgu, refl) in
    let terms : AreTermsOf own told (joint_parts own entries) =
    subst (λ (o : Option (List (List Term))). IfSome o (λ terms. AreTermsOf own terms (joint_parts own entries))) e (h.parts own pairs (joint_parts own entries) h.apart_so h.mgu joint) in
    let some : IsSome found = subst (λ (o : Option (List (List Term))). IsSome o) (sym e) refl in
    (terms, record { joint = joint; within = (h.limits own pairs (joint_parts own entries) h.apart_so h.mgu joint).0 some })

terms_of_one : (c : Clause) (pairs : List Pair) (told : List (List Term)) (part : Clause) → AreTermsOf (c ∷ []) told (part ∷ []) → AreJoint (c ∷ []) pairs (part ∷ [])
    → (t : List Term) × (told ≡ t ∷ []) × AreTermsOfOne c pairs t
terms_of_one c pairs [] part h joint = absurd h
terms_of_one c pairs (t ∷ []) part h joint = (t, refl, record { many = h.0; joint = subst (λ (p : Clause). AreJoint (c ∷ []) pairs (p ∷ [])) (sym h.1) joint })
terms_of_one c pairs (t ∷ u ∷ us) part h joint = absurd h.2

last_of_one : {X : Type 0} (t last : X) (rest : List X) → t ∷ [] ≡ rest ++ last ∷ [] → t ≡ last
last_of_one t last [] e = cc
last_of_one t last (x ∷ rest) e = let long = ap (λ (l : List _). length l) e in absurd (omega (arith, long, length-append rest (last ∷ [])))

pub popped_one : (parents : List Clause) (c : Clause) (pairs : List Pair) (entries : List Binding) (found : Option (List (List Term))) (told rest : List (List Term)) (popped : Option (List Term))
    → IsTold parents (c ∷ []) pairs entries found → found ≡ Some told → MatchOption popped ((told ≡ []) × (rest ≡ [])) (λ last. told ≡ rest ++ last ∷ [])
    → MatchOption popped (IsOutside (c ∷ []) pairs) (λ terms. AreTermsOfOne c pairs terms)
popped_one parents c pairs entries found told rest None h e k =
    let one = told_some parents (c ∷ []) pairs entries found told h e in
    let some = terms_of_one c pairs told _ one.0 one.1 in
    let long = ap (λ (l : List (List Term)). length l) (sym some.1 ∙ k.0) in absurd (omega (arith, long))
popped_one parents c pairs entries found told rest (Some last) h e k =
    let one = told_some parents (c ∷ []) pairs entries found told h e in
    let some = terms_of_one c pairs told _ one.0 one.1 in
    subst (AreTermsOfOne c pairs) (last_of_one some.0 last rest (sym some.1 ∙ k)) some.2

-- ---- terms of two parents

terms_of_two : (c d : Clause) (pairs : List Pair) (told : List (List Term)) (p q : Clause) → AreTermsOf (c ∷ d ∷ []) told (p ∷ q ∷ []) → AreJoint (c ∷ d ∷ []) pairs (p ∷ q ∷ [])
    → (s : List Term) × (t : List Term) × (told ≡ s ∷ t ∷ []) × AreTermsOfTwo c d pairs s t
terms_of_two c d pairs [] p q h joint = absurd h
terms_of_two c d pairs (s ∷ []) p q h joint = absurd h.2
terms_of_two c d pairs (s ∷ t ∷ []) p q h joint = (
  s,
  t,
  refl,
  record {
    left_many = h.0;
    right_many = h.2.0;
    joint = subst (λ (x : Clause). AreJoint (c ∷ d ∷ []) pairs (x ∷ instance t d ∷ [])) (sym h.1) (subst (λ (x : Clause). AreJoint (c ∷ d ∷ []) pairs (p ∷ x ∷ [])) (sym h.2.1) joint);
  },
)
terms_of_two c d pairs (s ∷ t ∷ u ∷ us) p q h joint = absurd h.2.2

pub told_two : (parents : List Clause) (c d : Clause) (pairs : List Pair) (entries : List Binding) (found : Option (List (List Term))) (told : List (List Term)) (both : Option Both)
    → IsTold parents (c ∷ d ∷ []) pairs entries found → found ≡ Some told → ((s t : List Term) → told ≡ s ∷ t ∷ [] → IsSomeAnd both (λ b. (b.left ≡ s) × (b.right ≡ t)))
    → MatchOption both (IsOutside (c ∷ d ∷ []) pairs) (λ b. AreTermsOfTwo c d pairs b.left b.right)
told_two parents c d pairs entries found told None h e k =
    let two = told_some parents (c ∷ d ∷ []) pairs entries found told h e in
    let some = terms_of_two c d pairs told _ _ two.0 two.1 in
    absurd (k some.0 some.1 some.2)
told_two parents c d pairs entries found told (Some b) h e k =
    let two = told_some parents (c ∷ d ∷ []) pairs entries found told h e in
    let some = terms_of_two c d pairs told _ _ two.0 two.1 in
    let are = k some.0 some.1 some.2 in
    subst (λ (s : List Term). AreTermsOfTwo c d pairs s b.right) (sym are.0) (subst (AreTermsOfTwo c d pairs some.0) (sym are.1) some.3)

-- ---- opposite literals of two parts

pub opposed : (c d left right : Clause) (l m : Literal) (a b : ℕ) → IsJointInstance (c ∷ d ∷ []) (pair_of l m) (left ∷ right ∷ []) → numbered c.literals a ≡ Some l
    → numbered (shift (width c) d).literals b ≡ Some m → l.positive ≡ not m.positive → IsOpposed left a right b
opposed c d left right l m a b joint at_l at_m signs =
    let h = unified (c ∷ d ∷ []) (pair_of l m) (left ∷ right ∷ []) joint in
    let both : left ∷ right ∷ [] ≡ clause_under h.by c ∷ clause_under h.by (shift (width c) d) ∷ [] = h.parts_are ∙ ap (map (clause_under h.by)) (apart_two c d) in
    let e : left ≡ clause_under h.by c = cc in
    let f : right ≡ clause_under h.by (shift (width c) d) = cc in
    record {
      l = literal_under h.by l;
      m = literal_under h.by m;
      left_there = ap (λ (x : Clause). numbered x.literals a) e ∙ numbered_map (literal_under h.by) c.literals a l at_l;
      right_there = ap (λ (x : Clause). numbered x.literals b) f ∙ numbered_map (literal_under h.by) (shift (width c) d).literals b m at_m;
      opposite = (signs, h.unifies 0 (record { left = l; right = m }) (omega arith));
    }

-- ---- limits of two parts

no_literals : (ys : List Literal) → NoMore [] ys
no_literals ys = record { light = omega arith; shallow = omega arith }

itself : (xs : List Literal) → NoMore xs xs
itself xs = record { light = omega arith; shallow = omega arith }

pub left_within : (left right : Clause) → IsWithinLimits (whole (left ∷ right ∷ [])) → IsWithinLimits left
left_within left right h =
    within_so left (whole (left ∷ right ∷ []))
    (subst (λ (ls : List Literal). NoMore ls (left.literals ++ (right.literals ++ []))) (append-nil left.literals)
    (both_no_more left.literals left.literals [] (right.literals ++ []) (itself left.literals) (no_literals (right.literals ++ [])))) h

pub right_within : (left right : Clause) → IsWithinLimits (whole (left ∷ right ∷ [])) → IsWithinLimits right
right_within left right h =
    within_so right (whole (left ∷ right ∷ []))
    (subst (λ (ls : List Literal). NoMore ls (left.literals ++ (right.literals ++ []))) (append-nil right.literals)
    (both_no_more [] left.literals (right.literals ++ []) (right.literals ++ []) (no_literals left.literals) (itself (right.literals ++ [])))) h

pub resolvent_within : (left right c : Clause) (a b : ℕ) → c.literals ≡ without left.literals a ++ without right.literals b → IsWithinLimits (whole (left ∷ right ∷ [])) → IsWithinLimits c
resolvent_within left right c a b e h =
    within_so c (whole (left ∷ right ∷ []))
    (subst (λ (ls : List Literal). NoMore ls (left.literals ++ (right.literals ++ []))) (sym e)
    (subst (λ (ls : List Literal). NoMore (without left.literals a ++ without right.literals b) (left.literals ++ ls)) (sym (append-nil right.literals))
    (both_no_more (without left.literals a) left.literals (without right.literals b) right.literals (removed left.literals (a - 1)) (removed right.literals (b - 1))))) h

-- ---- the width of what is renamed apart

wide_row : {X : Type 0} (by : ℕ) (w : X → ℕ) (f : X → X) (xs : List X) → AllByRecursion (λ x. w (f x) ≤ w x + by) xs → largest (map w (map f xs)) ≤ largest (map w xs) + by
wide_row by w f [] h = omega arith
wide_row by w f (x ∷ xs) h = omega (arith, h.0, wide_row by w f xs h.1, largest-cons (w x) (map w xs), largest-cons (w (f x)) (map w (map f xs)))

wide_term : (by : ℕ) (t : Term) → term_width (term_under (λ n. Var (n + by)) t) ≤ term_width t + by
wide_term by t = term_ind (λ t. term_width (term_under (λ n. Var (n + by)) t) ≤ term_width t + by)
    (λ n. omega (arith, width-Var n, ap (λ (u : Term). term_width u) (under-Var (λ n. Var (n + by)) n), width-Var (n + by)))
    (λ f xs h. omega (
      arith,
      width-App f xs,
      ap (λ (u : Term). term_width u) (under-App (λ n. Var (n + by)) f xs),
      width-App f (map (term_under (λ n. Var (n + by))) xs),
      wide_row by term_width (term_under (λ n. Var (n + by))) xs h,
    )) t

pub shifted_width : (by : ℕ) (c : Clause) → width (shift by c) ≤ width c + by
shifted_width by c = wide_row by literal_width (literal_under (λ n. Var (n + by))) c.literals
    (all_of (λ l. literal_width (literal_under (λ n. Var (n + by)) l) ≤ literal_width l + by)
    (λ l. wide_row by term_width (term_under (λ n. Var (n + by))) l.args (all_of (λ t. term_width (term_under (λ n. Var (n + by)) t) ≤ term_width t + by) (wide_term by) l.args)) c.literals)
