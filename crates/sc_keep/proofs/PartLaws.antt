-- Parts of a joint instance, where there is one.
use Rattle.std.proofs.Common.{◌≡◌, ◌∙◌, sym, ap, subst, refl, ℕ, ◌+◌, ◌<◌, ◌≤◌, List, [], ◌∷◌, length, map, get_or, max, fold, Option, Some, None, Bool, true, false, arith}
use Rattle.std.specs.Prelude.{MatchOption, ◌↔◌, IfSome, IsSome}
use Rattle.std.specs.List.{AllByRecursion}
use Rattle.sc_term.specs.declared.Term.{Term, Var}
use Rattle.sc_term.specs.declared.Term.TheVariants.{App}
use Rattle.sc_term.specs.declared.Literal.{Literal}
use Rattle.sc_term.specs.declared.Clause.{Clause}
use Rattle.sc_term.specs.declared.Pair.{Pair}
use Rattle.sc_term.specs.Term.{largest, term_width, term_under}
use Rattle.sc_term.specs.Clause.{width, literal_width, IsWithinLimits}
use Rattle.sc_term.specs.Substitution.{Substitution, IsMostGeneralUnifier, Unify, clause_under, literal_under}
use Rattle.sc_term.specs.JointInstance.{IsJointInstance, apart, renumbered, shift, whole}
use Rattle.sc_term.proofs.TermLaws.{term_ind, width-Var, width-App}
use Rattle.sc_term.proofs.TermSteps.{under-Var, under-App}
use Rattle.sc_unify.specs.Joint.{AreTermsOf}
use Rattle.sc_unify.specs.declared.bound.Binding.{Binding}
use Rattle.sc_unify.specs.Unifiers.{substitution}
use Rattle.sc_keep.specs.Parts.{HasNoParts, HasParts, pairs_of, unit_pairs}

-- ---- the width of a clause renamed

raised_row : {X : Type 0} (by : ℕ) (w : X → ℕ) (f : X → X) (xs : List X) → AllByRecursion (λ x. w (f x) ≤ w x + by) xs → largest (map w (map f xs)) ≤ largest (map w xs) + by
raised_row {X = X} by w f xs h = from 0 0 xs (omega arith) h
  where
    from : (a c : ℕ) (xs : List X) → c ≤ a + by → AllByRecursion (λ x. w (f x) ≤ w x + by) xs → fold max c (map w (map f xs)) ≤ fold max a (map w xs) + by
    from a c [] r h = r
    from a c (x ∷ xs) r h = from (max a (w x)) (max c (w (f x))) xs (omega (arith, r, h.0)) h.1

abbrev moved : ℕ → Substitution
moved by n = Var (n + by)

raised_term : (by : ℕ) (t : Term) → term_width (term_under (moved by) t) ≤ term_width t + by
raised_term by t = term_ind (λ t. term_width (term_under (moved by) t) ≤ term_width t + by)
    (λ n. omega (arith, width-Var n, ap term_width (under-Var (moved by) n) ∙ width-Var (n + by)))
    (λ f xs h. subst (λ w. term_width (term_under (moved by) (App f xs)) ≤ w + by) (sym (width-App f xs))
    (subst (λ w. w ≤ largest (map term_width xs) + by) (sym (ap term_width (under-App (moved by) f xs) ∙ width-App f (map (term_under (moved by)) xs)))
    (raised_row by term_width (term_under (moved by)) xs h)))
    t

every : {X : Type 0} (P : X → Type 0) → ((x : X) → P x) → (xs : List X) → AllByRecursion P xs
every P h [] = tt
every P h (x ∷ xs) = (h x, every P h xs)

pub shifted_width : (by : ℕ) (c : Clause) → width (shift by c) ≤ width c + by
shifted_width by c = raised_row by literal_width (literal_under (moved by)) c.literals
    (every (λ l. literal_width (literal_under (moved by) l) ≤ literal_width l + by) (λ l. raised_row by term_width (term_under (moved by)) l.args (every _ (raised_term by) l.args)) c.literals)

pub two_widths : (c d : Clause) (N : ℕ) → width c < N → width d < N → largest (map width (c ∷ d ∷ [])) < N
two_widths c d N h k = omega (arith, h, k)

-- ---- what is told of the parts

module _ (own : List Clause) (pairs : List Pair) where
  pub no_unifier : ¬ Unify pairs → HasNoParts own pairs
  no_unifier never parts joint within = never (joint.0, joint.1.unifies)

  module _ (s : Substitution) (unifier : IsMostGeneralUnifier pairs s) where
    abbrev made : List Clause
    made = renumbered (map (clause_under s) (apart own))

    joined : IsJointInstance own pairs made
    joined = (s, unifier, refl)

    none_told : ((parts : List Clause) → IsJointInstance own pairs parts → IsSome {T = List (List Term)} None ↔ IsWithinLimits (whole parts)) → HasNoParts own pairs
    none_told limits parts joint within = let bad : ◌≡◌ {A = Bool} false true = (limits parts joint).1 within in cc

    pub told_parts : (told : Option (List (List Term)))
        → ((parts : List Clause) → IsJointInstance own pairs parts → IfSome told (λ terms. AreTermsOf own terms parts))
        → ((parts : List Clause) → IsJointInstance own pairs parts → IsSome told ↔ IsWithinLimits (whole parts))
        → MatchOption told (HasNoParts own pairs) (λ terms. HasParts own pairs terms)
    told_parts None terms limits = none_told limits
    told_parts (Some ts) terms limits = record { parts = made; joint = joined; within = (limits made joined).0 refl; are_terms = terms made joined }

-- ---- the pair of two units

pair_is : (by : ℕ) (ls rs : List Literal) (l r : Literal) → map (literal_under (moved 0)) ls ≡ l ∷ [] → map (literal_under (moved by)) rs ≡ r ∷ [] → record { left = l; right = r } ∷ [] ≡ pairs_of by ls rs
pair_is by (x ∷ []) (y ∷ []) l r e f =
    let left : l ≡ literal_under (moved 0) x = ap (λ zs. get_or zs 0 l) (sym e) in
    let right : r ≡ literal_under (moved by) y = ap (λ zs. get_or zs 0 r) (sym f) in
    λ i. record { left = left i; right = right i } ∷ []
pair_is by [] rs l r e f = absurd (omega (arith, ap length e))
pair_is by (x ∷ []) [] l r e f = absurd (omega (arith, ap length f))
pair_is by (x ∷ []) (y ∷ z ∷ rs) l r e f = absurd (omega (arith, ap length f))
pair_is by (x ∷ y ∷ ls) rs l r e f = absurd (omega (arith, ap length e))

pub units_pair : (n m : Clause) (renamed xs ys : List Clause) (d e : Clause) (l r : Literal) → renamed ≡ apart (n ∷ m ∷ []) → xs ≡ renamed → ys ≡ renamed
    → (get_or xs 0 d).literals ≡ l ∷ [] → (get_or ys 1 e).literals ≡ r ∷ [] → record { left = l; right = r } ∷ [] ≡ unit_pairs n m
units_pair n m renamed xs ys d e l r is same_x same_y left right =
    pair_is (0 + width n) n.literals m.literals l r
    (sym (ap (λ (cs : List Clause). (get_or cs 0 d).literals) (same_x ∙ is)) ∙ left)
    (sym (ap (λ (cs : List Clause). (get_or cs 1 e).literals) (same_y ∙ is)) ∙ right)

-- ---- what unification answered

abbrev Answers : List Pair → Option (List Binding) → Type 0
Answers pairs o = MatchOption o (¬ Unify pairs) (λ s. IsMostGeneralUnifier pairs (substitution s))

pub the_unifier : (pairs : List Pair) (o : Option (List Binding)) (s : List Binding) → o ≡ Some s → Answers pairs o → IsMostGeneralUnifier pairs (substitution s)
the_unifier pairs o s is h = subst (Answers pairs) is h

pub the_lack : (pairs : List Pair) (o : Option (List Binding)) → o ≡ None → Answers pairs o → ¬ Unify pairs
the_lack pairs o is h = subst (Answers pairs) is h

pub renamed_widths : (n m : Clause) (renamed : List Clause) → renamed ≡ apart (n ∷ m ∷ []) → width n + width m < 2147483648 → largest (map width renamed) < 2147483648
renamed_widths n m renamed is few =
    subst (λ cs. largest (map width cs) < 2147483648) (sym is)
    (omega (arith, few, shifted_width 0 n, shifted_width (0 + width n) m))
