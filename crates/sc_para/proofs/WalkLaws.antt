-- The walk over subterms finds the sites of them all, in order.
use Rattle.std.proofs.Common.{◌≡◌, ◌∙◌, sym, ap, subst, refl, ℕ, zero, suc, ◌+◌, ◌<◌, ◌≤◌, ◌⊎◌, inl, inr, List, [], ◌∷◌, ◌++◌, length, map, sum, append_assoc, length-append, Option, Some, None, slice_get, arith}
use Rattle.std.specs.Prelude.{MatchOption}
use Rattle.std.proofs.lemmas.List.{append-nil}
use Rattle.std.proofs.lemmas.List.Sums.{sum_by-cons}
use Rattle.std.proofs.lemmas.Option.{slice_get_within}
use Rattle.sc_term.specs.declared.SymId.{SymId}
use Rattle.sc_term.specs.declared.Term.{Term, Var}
use Rattle.sc_term.specs.declared.Term.TheVariants.{App}
use Rattle.sc_term.specs.declared.Literal.{Literal}
use Rattle.sc_term.specs.Path.{IsSubtermAt}
use Rattle.sc_term.specs.Refuted.{Atom}
use Rattle.sc_term.specs.Term.{term_under, term_weight, weight_step}
use Rattle.sc_term.specs.Substitution.{Unify}
use Rattle.sc_term.proofs.TermLaws.{term_ind, fold-Var, weight-App, App-injective}
use Rattle.sc_term.proofs.TermSteps.{under-App}
use Rattle.sc_core_rules.specs.declared.site.ParaSite.{ParaSite}
use Rattle.sc_core_rules.specs.Order.{IsBefore}
use Rattle.sc_core_rules.specs.Paramodulation.{atom_with}
use Rattle.sc_core_rules.proofs.StepLaws.{same_some}
use Rattle.sc_resolve.specs.Extending.{Extends, Below}
use Rattle.sc_resolve.specs.Literals.{pair_of}
use Rattle.sc_resolve.proofs.Extending.{Rising, same, both, nothing}
use Rattle.sc_resolve.proofs.LiteralLaws.{numbered_next, numbered_place}
use Rattle.sc_para.specs.declared.spot.Spot.{Spot}
use Rattle.sc_para.specs.Spots.{site_at, pair_numbers}
use Rattle.sc_para.specs.Subterms.{IsTarget, IsHere, IsUnder, IsWithin, IsWithinArgument}

-- ---- weights

pub one_of_sum : {X : Type 0} (w : X → ℕ) (xs : List X) (k : ℕ) (x : X) → slice_get xs k ≡ Some x → w x ≤ sum (map w xs)
one_of_sum w [] k x h = let within = slice_get_within [] k x h in absurd (omega arith)
one_of_sum w (y ∷ ys) zero x h = let same : y ≡ x = cc in omega (arith, sum_by-cons (λ n. n) (w y) (map w ys), ap w same)
one_of_sum w (y ∷ ys) (suc k) x h = omega (arith, one_of_sum w ys k x h, sum_by-cons (λ n. n) (w y) (map w ys))

some_weight : (t : Term) → 0 < term_weight t
some_weight t = term_ind (λ t. 0 < term_weight t) (λ n. omega (arith, fold-Var ℕ weight_step n)) (λ f xs h. omega (arith, weight-App f xs)) t

pub few_terms : (ts : List Term) → length ts ≤ sum (map term_weight ts)
few_terms [] = omega arith
few_terms (t ∷ ts) = omega (arith, few_terms ts, some_weight t, sum_by-cons (λ n. n) (term_weight t) (map term_weight ts))

pub lighter : (t : Term) (f : SymId) (args : List Term) → t ≡ App f args → sum (map term_weight args) ≤ term_weight t
lighter t f args e = omega (arith, ap (λ (u : Term). term_weight u) e, weight-App f args)

-- ---- heads

pub one_head : (f g : SymId) (xs ys : List Term) → Unify (pair_of (atom_with (App f xs)) (atom_with (App g ys))) → f ≡ g
one_head f g xs ys u =
    let equal : term_under u.0 (App f xs) ≡ term_under u.0 (App g ys) = first_arg (u.1 0 (record { left = atom_with (App f xs); right = atom_with (App g ys) }) (omega arith)) in
    (App-injective f g (map (term_under u.0) xs) (map (term_under u.0) ys) (sym (under-App u.0 f xs) ∙ equal ∙ under-App u.0 g ys)).0
  where
    first_arg : {s t : Term} {p q : SymId} → ◌≡◌ {A = Atom} (record { pred = p; args = s ∷ [] }) (record { pred = q; args = t ∷ [] }) → s ≡ t
    first_arg e = let args : _ ∷ [] ≡ _ ∷ [] = ap (λ (a : Atom). a.args) e in cc

-- ---- order

before_after : (here ms ns : List ℕ) (m n : ℕ) → m < n → IsBefore (here ++ m ∷ ms) (here ++ n ∷ ns)
before_after [] ms ns m n less = inl less
before_after (k ∷ here) ms ns m n less = inr (refl, before_after here ms ns m n less)

before_longer : (here path : List ℕ) (n : ℕ) → IsBefore here (here ++ n ∷ path)
before_longer [] path n = tt
before_longer (k ∷ here) path n = inr (refl, before_longer here path n)

ordered : (x y u v : ParaSite) → x ≡ u → y ≡ v → IsBefore (pair_numbers u) (pair_numbers v) → IsBefore (pair_numbers x) (pair_numbers y)
ordered x y u v e f h = subst (λ (z : ParaSite). IsBefore (pair_numbers z) (pair_numbers y)) (sym e) (subst (λ (z : ParaSite). IsBefore (pair_numbers u) (pair_numbers z)) (sym f) h)

module _ (source : Literal) (spot : Spot) where
  paths_order : (x y : ParaSite) (p q : List ℕ) → x ≡ site_at spot p → y ≡ site_at spot q → IsBefore p q → IsBefore (pair_numbers x) (pair_numbers y)
  paths_order x y p q e f h = ordered x y (site_at spot p) (site_at spot q) e f (inr (refl, inr (refl, inr (refl, h))))

  path_of : (here : List ℕ) (t : Term) (x : ParaSite) → IsWithin source spot here t x → (rest : List ℕ) × (x ≡ site_at spot (here ++ rest))
  path_of here t x (inl h) = ([], h.0 ∙ ap (site_at spot) (sym (append-nil here)))
  path_of here t x (inr h) = (h.3.0, h.3.2)

  pub arguments_rise : (here : List ℕ) (args : List Term) → Rising pair_numbers (IsWithinArgument source spot here args)
  arguments_rise here args j k x y less h i =
      let a = path_of (here ++ (j + 1) ∷ []) h.0 x h.2 in
      let b = path_of (here ++ (k + 1) ∷ []) i.0 y i.2 in
      paths_order x y (here ++ (j + 1) ∷ a.0) (here ++ (k + 1) ∷ b.0) (a.1 ∙ ap (site_at spot) (append_assoc here ((j + 1) ∷ []) a.0)) (b.1 ∙ ap (site_at spot) (append_assoc here ((k + 1) ∷ []) b.0))
      (before_after here a.0 b.0 (j + 1) (k + 1) (omega arith))

  here_first : (here : List ℕ) (t : Term) (args : List Term) (x y : ParaSite) → IsHere source spot here t x → IsUnder source spot here args y → IsBefore (pair_numbers x) (pair_numbers y)
  here_first here t args x y h (path, s, e, sub, target) = by path e sub
    where
      by : (path : List ℕ) → y ≡ site_at spot (here ++ path) → IsSubtermAt args path s → IsBefore (pair_numbers x) (pair_numbers y)
      by [] f k = absurd k
      by (n ∷ rest) f k = paths_order x y here (here ++ n ∷ rest) h.0 f (before_longer here rest n)

  -- ---- a term

  pub within_variable : (limit : ℕ) (here : List ℕ) (t : Term) (n : ℕ) → t ≡ Var n → (xs : List ParaSite) → Extends pair_numbers (IsWithin source spot here t) limit xs xs
  within_variable limit here t n is xs = nothing pair_numbers limit (IsWithin source spot here t) xs none
    where
      none : (x : ParaSite) → ¬ IsWithin source spot here t x
      none x (inl h) = let bad : Var n ≡ App h.1.compound.0 h.1.compound.1 = sym is ∙ h.1.compound.2 in cc
      none x (inr h) = let bad : Var n ≡ App h.0 h.1 = sym is ∙ h.2 in cc

  pub within_compound : (limit : ℕ) (here : List ℕ) (t : Term) (f : SymId) (args : List Term) → t ≡ App f args → (xs ys zs : List ParaSite)
      → Extends pair_numbers (IsHere source spot here t) limit xs ys → Extends pair_numbers (IsUnder source spot here args) limit ys zs → Extends pair_numbers (IsWithin source spot here t) limit xs zs
  within_compound limit here t f args is xs ys zs h k =
      same pair_numbers limit (λ x. IsHere source spot here t x ⊎ IsUnder source spot here args x) (IsWithin source spot here t) xs zs
      (both pair_numbers limit (IsHere source spot here t) (IsUnder source spot here args) (here_first here t args) xs ys zs h k) to from
    where
      to : (x : ParaSite) → IsHere source spot here t x ⊎ IsUnder source spot here args x → IsWithin source spot here t x
      to x (inl a) = inl a
      to x (inr b) = inr (f, args, is, b)

      from : (x : ParaSite) → IsWithin source spot here t x → IsHere source spot here t x ⊎ IsUnder source spot here args x
      from x (inl a) = inl a
      from x (inr b) = inr (subst (λ ts. IsUnder source spot here ts x) (App-injective b.0 f b.1 args (sym b.2 ∙ is)).1 b.3)

  -- ---- arguments

  argument_at : (here : List ℕ) (args : List Term) (k : ℕ) (t : Term) (x : ParaSite) → slice_get args k ≡ Some t → IsWithin source spot (here ++ (k + 1) ∷ []) t x → IsUnder source spot here args x
  argument_at here args k t x at_t (inl h) = ((k + 1) ∷ [], t, h.0, numbered_next args k ∙ at_t, h.1)
  argument_at here args k t x at_t (inr (f, inner, is, (path, s, e, sub, target))) = by path e sub
    where
      by : (path : List ℕ) → x ≡ site_at spot ((here ++ (k + 1) ∷ []) ++ path) → IsSubtermAt inner path s → IsUnder source spot here args x
      by [] e sub = absurd sub
      by (j ∷ rest) e sub = (
        (k + 1) ∷ j ∷ rest,
        s,
        e ∙ ap (site_at spot) (append_assoc here ((k + 1) ∷ []) (j ∷ rest)),
        (f, inner, numbered_next args k ∙ at_t ∙ ap (λ (u : Term). Some u) is, sub),
        target,
      )

  some_argument : (here : List ℕ) (args : List Term) (x : ParaSite) (path : List ℕ) (s : Term) → x ≡ site_at spot (here ++ path) → IsSubtermAt args path s → IsTarget source s
      → Below (IsWithinArgument source spot here args) (length args) x
  some_argument here args x [] s e sub target = absurd sub
  some_argument here args x (i ∷ []) s e sub target =
      let place = numbered_place args i s sub in
      (place.0, slice_get_within args place.0 s place.2, (s, place.2, inl (e ∙ ap (λ n. site_at spot (here ++ n ∷ [])) place.1, target)))
  some_argument here args x (i ∷ j ∷ path) s e sub target =
      let place = numbered_place args i (App sub.0 sub.1) sub.2 in (
        place.0,
        slice_get_within args place.0 (App sub.0 sub.1) place.2,
        (
          App sub.0 sub.1,
          place.2,
          inr (
            sub.0,
            sub.1,
            refl,
            (
              j ∷ path,
              s,
              e ∙ ap (λ n. site_at spot (here ++ n ∷ j ∷ path)) place.1 ∙ ap (site_at spot) (sym (append_assoc here ((place.0 + 1) ∷ []) (j ∷ path))),
              sub.3,
              target,
            ),
          ),
        ),
      )

  -- the sites of one argument are those at its place
  pub at_argument : (limit : ℕ) (here : List ℕ) (args : List Term) (k : ℕ) (t : Term) → slice_get args k ≡ Some t → (xs ys : List ParaSite)
      → Extends pair_numbers (IsWithin source spot (here ++ (k + 1) ∷ []) t) limit xs ys → Extends pair_numbers (IsWithinArgument source spot here args k) limit xs ys
  at_argument limit here args k t there xs ys h =
      same pair_numbers limit (IsWithin source spot (here ++ (k + 1) ∷ []) t) (IsWithinArgument source spot here args k) xs ys h
      (λ x b. (t, there, b))
      (λ x b. subst (λ (u : Term). IsWithin source spot (here ++ (k + 1) ∷ []) u x) (same_some (slice_get args k) b.0 t b.1 there) b.2)

  pub all_under : (limit : ℕ) (here : List ℕ) (args : List Term) (n : ℕ) → n ≡ length args → (xs ys : List ParaSite)
      → Extends pair_numbers (Below (IsWithinArgument source spot here args) n) limit xs ys → Extends pair_numbers (IsUnder source spot here args) limit xs ys
  all_under limit here args n long xs ys h =
      same pair_numbers limit (Below (IsWithinArgument source spot here args) n) (IsUnder source spot here args) xs ys h
      (λ x b. argument_at here args b.0 b.2.0 x b.2.1 b.2.2)
      (λ x b. let found = some_argument here args x b.0 b.1 b.2 b.3 b.4 in (found.0, omega (arith, found.1, long), found.2))

-- ---- the path

same_front : (xs ys : List ℕ) (x y : ℕ) → xs ++ x ∷ [] ≡ ys ++ y ∷ [] → xs ≡ ys
same_front [] [] x y e = refl
same_front [] (b ∷ ys) x y e = let long = ap (λ (l : List ℕ). length l) e in absurd (omega (arith, long, length-append ys (y ∷ [])))
same_front (a ∷ xs) [] x y e = let long = ap (λ (l : List ℕ). length l) e in absurd (omega (arith, long, length-append xs (x ∷ [])))
same_front (a ∷ xs) (b ∷ ys) x y e = let first : a ≡ b = cc in let rest : xs ++ x ∷ [] ≡ ys ++ y ∷ [] = cc in λ i. first i ∷ same_front xs ys x y rest i

-- what is pushed is popped
pub popped : (pop : Option ℕ) (start before after : List ℕ) (n : ℕ) → before ≡ start ++ n ∷ [] → MatchOption pop ((before ≡ []) × (after ≡ [])) (λ last. before ≡ after ++ last ∷ []) → after ≡ start
popped None start before after n e h = let long = ap (λ (l : List ℕ). length l) (sym e ∙ h.0) in absurd (omega (arith, long, length-append start (n ∷ [])))
popped (Some last) start before after n e h = same_front after start last n (sym h ∙ e)
