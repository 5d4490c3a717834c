-- The terms of a joint instance: rows of clauses, and their widths when shifted.
use Rattle.std.proofs.Common.{◌≡◌, ◌≢◌, ◌∙◌, sym, ap, subst, refl, ℕ, zero, suc, ◌+◌, ◌-◌, ◌<◌, ◌≤◌, ◌⊎◌, ◌↔◌, inl, inr, max, List, [], ◌∷◌, ◌++◌, append_assoc, map, sum, length, get_or, slice_get, take, drop, Some, arith, add-one}
use Rattle.std.specs.List.{AllByRecursion, fold}
use Rattle.sc_term.specs.declared.SymId.{SymId}
use Rattle.sc_term.specs.declared.Term.{Term, Var}
use Rattle.sc_term.specs.declared.Term.TheVariants.{App}
use Rattle.sc_term.specs.declared.Literal.{Literal}
use Rattle.sc_term.specs.declared.Clause.{Clause}
use Rattle.sc_term.specs.Term.{joined, largest, term_under, term_variables, term_width, term_weight, term_depth, depth_step, value_of}
use Rattle.sc_term.specs.Clause.{literal_width, literal_weight, literal_depth, variables, width, instance, IsWithinLimits}
use Rattle.sc_term.specs.Substitution.{Substitution, literal_under, clause_under}
use Rattle.sc_term.specs.JointInstance.{apart_above, shift, whole}
use Rattle.sc_term.proofs.TermLaws.{term_ind, fold-Var, width-Var, width-App, weight-App, depth-App}
use Rattle.sc_term.proofs.TermSteps.{under-Var, under-App, variables-Var, variables-App}
use Rattle.sc_term.proofs.SubstitutionLaws.{all_join, clause_laws}
use Rattle.sc_unify.specs.Joint.{values, values_above, AreTermsOf}
use Rattle.sc_unify.proofs.TermFacts.{all_so, same_or_not, map_append}
use Rattle.sc_unify.proofs.Costs.{weight-Var}
use Rattle.sc_unify.proofs.MatchingLaws.{length_more, in_front, at_end, got}

-- ---- the width of what is shifted

-- nothing stays nothing, and else the width is greater by the number
abbrev Raised : ℕ → ℕ → ℕ → Type 0
Raised by w v = ((w ≡ 0) × (v ≡ 0)) ⊎ ((0 < w) × (v ≡ w + by))

raised_max : (by a b c d : ℕ) → Raised by a c → Raised by b d → Raised by (max a b) (max c d)
raised_max by a b c d (inl h) (inl k) = inl (omega (arith, h.0, k.0), omega (arith, h.1, k.1))
raised_max by a b c d (inl h) (inr k) = inr (omega (arith, h.0, k.0), omega (arith, h.0, h.1, k.0, k.1))
raised_max by a b c d (inr h) (inl k) = inr (omega (arith, h.0, k.0), omega (arith, h.0, h.1, k.0, k.1))
raised_max by a b c d (inr h) (inr k) = inr (omega (arith, h.0, k.0), omega (arith, h.1, k.1))

raised_row : {X : Type 0} (by : ℕ) (w : X → ℕ) (f : X → X) (xs : List X) → AllByRecursion (λ x. Raised by (w x) (w (f x))) xs → Raised by (largest (map w xs)) (largest (map w (map f xs)))
raised_row {X = X} by w f xs h = from 0 0 xs (inl (refl, refl)) h
  where
    from : (a c : ℕ) (xs : List X) → Raised by a c → AllByRecursion (λ x. Raised by (w x) (w (f x))) xs → Raised by (fold max a (map w xs)) (fold max c (map w (map f xs)))
    from a c [] r h = r
    from a c (x ∷ xs) r h = from (max a (w x)) (max c (w (f x))) xs (raised_max by a (w x) c (w (f x)) r h.0) h.1

abbrev moved : ℕ → Substitution
moved by n = Var (n + by)

raised_term : (by : ℕ) (t : Term) → Raised by (term_width t) (term_width (term_under (moved by) t))
raised_term by t = term_ind (λ t. Raised by (term_width t) (term_width (term_under (moved by) t)))
    (λ n. inr (omega (arith, width-Var n), omega (arith, width-Var n, ap term_width (under-Var (moved by) n) ∙ width-Var (n + by))))
    (λ f xs h. subst (λ w. Raised by w (term_width (term_under (moved by) (App f xs)))) (sym (width-App f xs))
    (subst (λ w. Raised by (largest (map term_width xs)) w) (sym (ap term_width (under-App (moved by) f xs) ∙ width-App f (map (term_under (moved by)) xs)))
    (raised_row by term_width (term_under (moved by)) xs h)))
    t

every : {X : Type 0} (P : X → Type 0) → ((x : X) → P x) → (xs : List X) → AllByRecursion P xs
every P h [] = tt
every P h (x ∷ xs) = (h x, every P h xs)

raised_literal : (by : ℕ) (l : Literal) → Raised by (literal_width l) (literal_width (literal_under (moved by) l))
raised_literal by l = raised_row by term_width (term_under (moved by)) l.args (every (λ t. Raised by (term_width t) (term_width (term_under (moved by) t))) (raised_term by) l.args)

raised_clause : (by : ℕ) (c : Clause) → Raised by (width c) (width (shift by c))
raised_clause by c = raised_row by literal_width (literal_under (moved by)) c.literals (every (λ l. Raised by (literal_width l) (literal_width (literal_under (moved by) l))) (raised_literal by) c.literals)

own_width : (by : ℕ) (c : Clause) → width (shift by c) - by ≡ width c
own_width by c = from (raised_clause by c)
  where
    from : Raised by (width c) (width (shift by c)) → width (shift by c) - by ≡ width c
    from (inl h) = omega (arith, h.0, h.1)
    from (inr h) = omega (arith, h.0, h.1)

-- ---- variables are below the width

at_least : (a : ℕ) (ns : List ℕ) → a ≤ fold max a ns
at_least a [] = omega arith
at_least a (n ∷ ns) = omega (arith, at_least (max a n) ns)

below : {X : Type 0} (w : X → ℕ) (vars : X → List ℕ) (xs : List X) → AllByRecursion (λ x. AllByRecursion (λ n. n < w x) (vars x)) xs → AllByRecursion (λ n. n < largest (map w xs)) (joined (map vars xs))
below {X = X} w vars xs h = from 0 xs h
  where
    from : (a : ℕ) (xs : List X) → AllByRecursion (λ x. AllByRecursion (λ n. n < w x) (vars x)) xs → AllByRecursion (λ n. n < fold max a (map w xs)) (joined (map vars xs))
    from a [] h = tt
    from a (x ∷ xs) h =
        all_join (λ n. n < fold max (max a (w x)) (map w xs)) (vars x) (joined (map vars xs))
        (all_so (λ n. n < w x) (λ n. n < fold max (max a (w x)) (map w xs)) (λ n less. omega (arith, at_least (max a (w x)) (map w xs), less)) (vars x) h.0)
        (from (max a (w x)) xs h.1)

term_below : (t : Term) → AllByRecursion (λ n. n < term_width t) (term_variables t)
term_below t = term_ind (λ t. AllByRecursion (λ n. n < term_width t) (term_variables t))
    (λ n. subst (AllByRecursion (λ k. k < term_width (Var n))) (sym (variables-Var n)) (omega (arith, width-Var n), tt))
    (λ f xs h. subst (λ w. AllByRecursion (λ n. n < w) (term_variables (App f xs))) (sym (width-App f xs))
    (subst (AllByRecursion (λ n. n < largest (map term_width xs))) (sym (variables-App f xs)) (below term_width term_variables xs h)))
    t

abbrev literal_variables : Literal → List ℕ
literal_variables l = joined (map term_variables l.args)

literal_below : (l : Literal) → AllByRecursion (λ n. n < literal_width l) (literal_variables l)
literal_below l = below term_width term_variables l.args (every (λ t. AllByRecursion (λ n. n < term_width t) (term_variables t)) term_below l.args)

clause_below : (c : Clause) → AllByRecursion (λ n. n < width c) (variables c)
clause_below c = below literal_width literal_variables c.literals (every (λ l. AllByRecursion (λ n. n < literal_width l) (literal_variables l)) literal_below c.literals)

-- ---- the values of a clause's variables

pub values-none : (s : Substitution) (first : ℕ) → values s first 0 ≡ []
unfolding values
values-none s first = refl

pub values-more : (s : Substitution) (first n : ℕ) → values s first (n + 1) ≡ values s first n ++ s (first + n) ∷ []
unfolding values
values-more s first n = rw add-one refl

values-length : (s : Substitution) (first n : ℕ) → length (values s first n) ≡ n
unfolding values
values-length s first zero = refl
values-length s first (suc n) = omega (arith, values-length s first n, length_more (values s first n) (s (first + n)))

values-at : (s : Substitution) (first n k : ℕ) → k < n → slice_get (values s first n) k ≡ Some (s (first + k))
unfolding values
values-at s first zero k less = absurd (omega arith)
values-at s first (suc n) k less = same_or_not k n
    (λ same. ap (λ j. slice_get (values s first n ++ s (first + n) ∷ []) j) (same ∙ sym (values-length s first n)) ∙ at_end (values s first n) (s (first + n)) ∙ ap (λ j. Some (s (first + j))) (sym same))
    (λ ne e. let smaller : k < n = omega arith in in_front (values s first n) (s (first + n)) (s (first + k)) k (values-at s first n k smaller))

instance_part : (s : Substitution) (low : ℕ) (c : Clause) → instance (values s low (width c)) c ≡ clause_under s (shift low c)
instance_part s low c =
    (clause_laws c).agree (value_of (values s low (width c))) (λ n. term_under s (Var (n + low)))
    (all_so (λ n. n < width c) (λ n. value_of (values s low (width c)) n ≡ term_under s (Var (n + low)))
    (λ n less. got (values s low (width c)) n (s (low + n)) (Var n) (values-at s low (width c) n less) ∙ (let e : low + n ≡ n + low = omega arith in ap s e) ∙ sym (under-Var s (n + low)))
    (variables c) (clause_below c))
    ∙ sym ((clause_laws c).compose s (moved low))

pub terms_of : (s : Substitution) (low : ℕ) (own : List Clause) → AreTermsOf own (values_above s low (apart_above low own)) (map (clause_under s) (apart_above low own))
terms_of s low [] = tt
terms_of s low (c ∷ cs) =
    subst (λ w. AreTermsOf (c ∷ cs) (values s low w ∷ values_above s (low + w) (apart_above (low + width c) cs)) (map (clause_under s) (apart_above low (c ∷ cs)))) (sym (own_width low c))
    (values-length s low (width c), instance_part s low c, terms_of s (low + width c) cs)

depth-Var : (n : ℕ) → term_depth (Var n) ≡ 1
depth-Var n = fold-Var ℕ depth_step n

-- ---- renumbered clauses weigh the same and are as deep

module _ (s : Substitution) (g : ℕ → ℕ) (renames : (n : ℕ) → s n ≡ Var (g n)) where
  row_kept : {X : Type 0} (m : X → ℕ) (f : X → X) (xs : List X) → AllByRecursion (λ x. m (f x) ≡ m x) xs → map m (map f xs) ≡ map m xs
  row_kept m f [] h = refl
  row_kept m f (x ∷ xs) h = λ i. h.0 i ∷ row_kept m f xs h.1 i

  term_kept : (m : Term → ℕ) (combine : List ℕ → ℕ) → ((n : ℕ) → m (Var n) ≡ 1) → ((f : SymId) (xs : List Term) → m (App f xs) ≡ 1 + combine (map m xs)) → (t : Term) → m (term_under s t) ≡ m t
  term_kept m combine at_Var at_App t = term_ind (λ t. m (term_under s t) ≡ m t)
      (λ n. ap m (under-Var s n ∙ renames n) ∙ at_Var (g n) ∙ sym (at_Var n))
      (λ f xs h. ap m (under-App s f xs) ∙ at_App f (map (term_under s) xs) ∙ ap (λ ns. 1 + combine ns) (row_kept m (term_under s) xs h) ∙ sym (at_App f xs))
      t

  weight_kept : (l : Literal) → literal_weight (literal_under s l) ≡ literal_weight l
  weight_kept l = ap (λ ns. 1 + sum ns) (row_kept term_weight (term_under s) l.args (every (λ t. term_weight (term_under s t) ≡ term_weight t) (term_kept term_weight sum weight-Var weight-App) l.args))

  depth_kept : (l : Literal) → literal_depth (literal_under s l) ≡ literal_depth l
  depth_kept l = ap (λ ns. 1 + largest ns) (row_kept term_depth (term_under s) l.args (every (λ t. term_depth (term_under s t) ≡ term_depth t) (term_kept term_depth largest depth-Var depth-App) l.args))

  whole_kept : (m : Literal → ℕ) → ((l : Literal) → m (literal_under s l) ≡ m l) → (cs : List Clause) → map m (whole (map (clause_under s) cs)).literals ≡ map m (whole cs).literals
  whole_kept m same [] = refl
  whole_kept m same (c ∷ cs) =
      map_append m (map (literal_under s) c.literals) (whole (map (clause_under s) cs)).literals
      ∙ (λ i. row_kept m (literal_under s) c.literals (every (λ l. m (literal_under s l) ≡ m l) same c.literals) i ++ whole_kept m same cs i)
      ∙ sym (map_append m c.literals (whole cs).literals)

  pub limits_kept : (cs : List Clause) → IsWithinLimits (whole cs) ↔ IsWithinLimits (whole (map (clause_under s) cs))
  limits_kept cs = (
    λ h. record { light = subst (λ ns. sum ns ≤ 10000) (sym (whole_kept literal_weight weight_kept cs)) h.light; shallow = subst (λ ns. largest ns ≤ 256) (sym (whole_kept literal_depth depth_kept cs)) h.shallow },
    λ h. record { light = subst (λ ns. sum ns ≤ 10000) (whole_kept literal_weight weight_kept cs) h.light; shallow = subst (λ ns. largest ns ≤ 256) (whole_kept literal_depth depth_kept cs) h.shallow },
  )
