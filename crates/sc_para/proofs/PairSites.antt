-- The sites that the loops over two clauses find are their sites.
use Rattle.std.proofs.Common.{◌≡◌, ◌∙◌, sym, ap, subst, refl, ℕ, ◌+◌, ◌<◌, ◌⊎◌, inl, inr, List, [], ◌∷◌, ◌≤◌, length, map, sum, Option, Some, None, slice_get, Bool, true, false, arith}
use Rattle.std.specs.Option.{is_some, IfNone}
use Rattle.std.proofs.lemmas.Option.{slice_get_within}
use Rattle.sc_term.specs.declared.SymId.{SymId}
use Rattle.sc_term.specs.declared.Side.{Side}
use Rattle.sc_term.specs.declared.Side.TheVariants.{Left, Right}
use Rattle.sc_term.specs.declared.Term.{Term, Var}
use Rattle.sc_term.specs.declared.Term.TheVariants.{App}
use Rattle.sc_term.specs.declared.Literal.{Literal}
use Rattle.sc_term.specs.declared.Clause.{Clause}
use Rattle.sc_term.specs.declared.Numbered.{Numbered}
use Rattle.std.proofs.lemmas.List.{append-nil}
use Rattle.std.proofs.lemmas.List.Sums.{sum_by-cons}
use Rattle.sc_term.specs.Term.{term_weight}
use Rattle.sc_term.specs.Clause.{width, literal_weight, IsWithinLimits}
use Rattle.sc_unify.proofs.JointLaws.{limits_kept}
use Rattle.sc_para.proofs.WalkLaws.{one_of_sum}
use Rattle.sc_term.specs.Path.{IsSubtermAt}
use Rattle.sc_term.specs.Proof.{chosen}
use Rattle.sc_term.specs.Refuted.{equation}
use Rattle.sc_term.specs.Substitution.{Unify}
use Rattle.sc_term.specs.JointInstance.{apart, shift, whole}
use Rattle.sc_core_rules.specs.declared.site.ParaSite.{ParaSite}
use Rattle.sc_core_rules.specs.Order.{IsBefore}
use Rattle.sc_core_rules.specs.Pairing.{literal_at}
use Rattle.sc_core_rules.specs.Inference.{Replacing, parent_clauses}
use Rattle.sc_core_rules.specs.Paramodulation.{IsCompound, atom_with}
use Rattle.sc_core_rules.proofs.StepLaws.{same_some}
use Rattle.sc_resolve.specs.Extending.{Extends, Below}
use Rattle.sc_resolve.specs.Literals.{pair_of}
use Rattle.sc_resolve.specs.Binary.{renamed}
use Rattle.sc_resolve.proofs.Extending.{Rising, same, both, nothing}
use Rattle.sc_resolve.proofs.LiteralLaws.{numbered_next, numbered_place, apart_two}
use Rattle.sc_para.specs.declared.spot.Spot.{Spot}
use Rattle.sc_para.specs.Spots.{site_at, pair_numbers}
use Rattle.sc_para.specs.Subterms.{IsTarget, IsUnder}
use Rattle.sc_para.specs.Pairs.{IsWithTarget, IsWithSide, IsWithEquation, IsWithSource, IsWithLiteral, IsPairSite}

-- ---- order

ordered : (x y u v : ParaSite) → x ≡ u → y ≡ v → IsBefore (pair_numbers u) (pair_numbers v) → IsBefore (pair_numbers x) (pair_numbers y)
ordered x y u v e f h = subst (λ (z : ParaSite). IsBefore (pair_numbers z) (pair_numbers y)) (sym e) (subst (λ (z : ParaSite). IsBefore (pair_numbers u) (pair_numbers z)) (sym f) h)

pub targets_rise : (source : Literal) (spot : Spot) (literals : List Literal) → Rising pair_numbers (IsWithTarget source spot literals)
targets_rise source spot literals j k x y less (m, at_m, (p, s, e, hs, hu)) (n, at_n, (q, t, f, ht, hv)) =
    ordered x y (site_at (record spot { into_lit = j + 1 }) p) (site_at (record spot { into_lit = k + 1 }) q) e f (inr (refl, inr (refl, inl (omega arith))))

-- what is left open in a site of an equation
abbrev at_equation : Spot → Side → ℕ → List ℕ → ParaSite
at_equation spot side b path = record { from = spot.from; from_lit = spot.from_lit; side = side; into = spot.into; into_lit = b; path = path }

form_side : (spot : Spot) (side : Term) (literals : List Literal) (x : ParaSite) → IsWithSide spot side literals x → (b : ℕ) × (path : List ℕ) × (x ≡ at_equation spot spot.side b path)
form_side spot side literals x (compound, (k, less, (m, at_m, (p, s, e, h, u)))) = (k + 1, p, e)

form : (spot : Spot) (left right : Term) (literals : List Literal) (x : ParaSite) → IsWithEquation spot left right literals x
    → (side : Side) × (b : ℕ) × (path : List ℕ) × (x ≡ at_equation spot side b path)
form spot left right literals x (inl h) = let f = form_side (record spot { side = Left }) left literals x h in (Left, f.0, f.1, f.2)
form spot left right literals x (inr h) = let f = form_side (record spot { side = Right }) right literals x h in (Right, f.0, f.1, f.2)

left_first : (spot : Spot) (left right : Term) (literals : List Literal) (x y : ParaSite) → IsWithSide (record spot { side = Left }) left literals x
    → IsWithSide (record spot { side = Right }) right literals y → IsBefore (pair_numbers x) (pair_numbers y)
left_first spot left right literals x y h k =
    let a = form_side (record spot { side = Left }) left literals x h in
    let b = form_side (record spot { side = Right }) right literals y k in
    ordered x y (at_equation spot Left a.0 a.1) (at_equation spot Right b.0 b.1) a.2 b.2 (inr (refl, inl (omega arith)))

pub literals_rise : (spot : Spot) (sources literals : List Literal) → Rising pair_numbers (IsWithLiteral spot sources literals)
literals_rise spot sources literals j k x y less (l, at_l, (s, t, e, h)) (m, at_m, (u, v, f, i)) =
    let a = form (record spot { from_lit = j + 1 }) s t literals x h in
    let b = form (record spot { from_lit = k + 1 }) u v literals y i in
    ordered x y (at_equation (record spot { from_lit = j + 1 }) a.0 a.1 a.2) (at_equation (record spot { from_lit = k + 1 }) b.0 b.1 b.2) a.3 b.3 (inl (omega arith))

-- ---- weights

pub few_literals : (ls : List Literal) → length ls ≤ sum (map literal_weight ls)
few_literals [] = omega arith
few_literals (l ∷ ls) = omega (arith, few_literals ls, sum_by-cons (λ n. n) (literal_weight l) (map literal_weight ls))

pub light_literal : (ls : List Literal) (k : ℕ) (l : Literal) → slice_get ls k ≡ Some l → sum (map literal_weight ls) ≤ 10000 → sum (map term_weight l.args) ≤ 10000
light_literal ls k l there light = omega (arith, one_of_sum literal_weight ls k l there)

pub whole_one : (c : Clause) → whole (c ∷ []) ≡ c
whole_one c = ap (λ (ls : List Literal). let d : Clause = record { literals = ls } in d) (append-nil c.literals)

-- what is renamed apart weighs the same
pub shifted_within : (by : ℕ) (c : Clause) → IsWithinLimits c → IsWithinLimits (shift by c)
shifted_within by c h =
    subst IsWithinLimits (whole_one (shift by c)) ((limits_kept (λ n. Var (n + by)) (λ n. n + by) (λ n. refl) (c ∷ [])).0 (subst IsWithinLimits (sym (whole_one c)) h))

-- ---- what isn't there

pub none_so : {A : Type 0} (o : Option A) (b : Bool) (P : Type 0) → b ≡ is_some o → b ≡ false → IfNone o P → P
none_so None b P e f h = h
none_so (Some x) b P e f h = let bad : true ≡ false = sym e ∙ f in absurd cc

pub less_or_same : (k i : ℕ) → k < i + 1 → (k < i) ⊎ (k ≡ i)
less_or_same k i h = grind arith

-- ---- one place more

pub at_target : (limit : ℕ) (source : Literal) (spot : Spot) (literals : List Literal) (k : ℕ) (m : Literal) → slice_get literals k ≡ Some m → (xs ys : List ParaSite)
    → Extends pair_numbers (IsUnder source (record spot { into_lit = k + 1 }) [] m.args) limit xs ys → Extends pair_numbers (IsWithTarget source spot literals k) limit xs ys
at_target limit source spot literals k m there xs ys h =
    same pair_numbers limit (IsUnder source (record spot { into_lit = k + 1 }) [] m.args) (IsWithTarget source spot literals k) xs ys h
    (λ x b. (m, there, b))
    (λ x b. subst (λ (l : Literal). IsUnder source (record spot { into_lit = k + 1 }) [] l.args x) (same_some (slice_get literals k) b.0 m b.1 there) b.2)

pub at_literal : (limit : ℕ) (spot : Spot) (sources literals : List Literal) (k : ℕ) (l : Literal) → slice_get sources k ≡ Some l → (xs ys : List ParaSite)
    → Extends pair_numbers (IsWithSource (record spot { from_lit = k + 1 }) l literals) limit xs ys → Extends pair_numbers (IsWithLiteral spot sources literals k) limit xs ys
at_literal limit spot sources literals k l there xs ys h =
    same pair_numbers limit (IsWithSource (record spot { from_lit = k + 1 }) l literals) (IsWithLiteral spot sources literals k) xs ys h
    (λ x b. (l, there, b))
    (λ x b. subst (λ (m : Literal). IsWithSource (record spot { from_lit = k + 1 }) m literals x) (same_some (slice_get sources k) b.0 l b.1 there) b.2)

-- ---- sides

pub no_side : (limit : ℕ) (spot : Spot) (side : Term) (n : ℕ) (literals : List Literal) → side ≡ Var n → (xs : List ParaSite) → Extends pair_numbers (IsWithSide spot side literals) limit xs xs
no_side limit spot side n literals is xs = nothing pair_numbers limit (IsWithSide spot side literals) xs none
  where
    none : (x : ParaSite) → ¬ IsWithSide spot side literals x
    none x h = let bad : Var n ≡ App h.0.0 h.0.1 = sym is ∙ h.0.2 in cc

pub one_side : (limit : ℕ) (spot : Spot) (side : Term) (f : SymId) (args : List Term) (literals : List Literal) → side ≡ App f args → (xs ys : List ParaSite)
    → Extends pair_numbers (Below (IsWithTarget (atom_with side) spot literals) (length literals)) limit xs ys → Extends pair_numbers (IsWithSide spot side literals) limit xs ys
one_side limit spot side f args literals is xs ys h =
    same pair_numbers limit (Below (IsWithTarget (atom_with side) spot literals) (length literals)) (IsWithSide spot side literals) xs ys h
    (λ x b. ((f, args, is), b)) (λ x b. b.1)

pub both_sides : (limit : ℕ) (spot : Spot) (left right : Term) (literals : List Literal) (xs ys zs : List ParaSite)
    → Extends pair_numbers (IsWithSide (record spot { side = Left }) left literals) limit xs ys → Extends pair_numbers (IsWithSide (record spot { side = Right }) right literals) limit ys zs
    → Extends pair_numbers (IsWithEquation spot left right literals) limit xs zs
both_sides limit spot left right literals xs ys zs h k =
    both pair_numbers limit (IsWithSide (record spot { side = Left }) left literals) (IsWithSide (record spot { side = Right }) right literals) (left_first spot left right literals) xs ys zs h k

same_two : (s t u v : Term) → s ∷ t ∷ [] ≡ u ∷ v ∷ [] → (s ≡ u) × (t ≡ v)
same_two s t u v e = (cc, cc)

pub is_equation : (limit : ℕ) (spot : Spot) (l : Literal) (left right : Term) (literals : List Literal) → l ≡ equation true left right → (xs ys : List ParaSite)
    → Extends pair_numbers (IsWithEquation spot left right literals) limit xs ys → Extends pair_numbers (IsWithSource spot l literals) limit xs ys
is_equation limit spot l left right literals is xs ys h =
    same pair_numbers limit (IsWithEquation spot left right literals) (IsWithSource spot l literals) xs ys h (λ x b. (left, right, is, b)) from
  where
    from : (x : ParaSite) → IsWithSource spot l literals x → IsWithEquation spot left right literals x
    from x (s, t, e, b) =
        let sides = same_two s t left right (ap (λ (m : Literal). m.args) (sym e ∙ is)) in
        subst (λ (u : Term). IsWithEquation spot u right literals x) sides.0 (subst (λ (u : Term). IsWithEquation spot s u literals x) sides.1 b)

pub no_equation : (limit : ℕ) (spot : Spot) (l : Literal) (literals : List Literal) → ((s t : Term) → ¬ (l ≡ equation true s t)) → (xs : List ParaSite) → Extends pair_numbers (IsWithSource spot l literals) limit xs xs
no_equation limit spot l literals h xs = nothing pair_numbers limit (IsWithSource spot l literals) xs (λ x b. h b.0 b.1 b.2)

-- ---- the two clauses

abbrev pub spot_of : Numbered → Numbered → Spot
spot_of from into = record { from = from.number; from_lit = 0; side = Left; into = into.number; into_lit = 0 }

abbrev site : Numbered → Numbered → ℕ → Side → ℕ → List ℕ → ParaSite
site from into a side b path = record { from = from.number; from_lit = a; side = side; into = into.number; into_lit = b; path = path }

module _ (from into : Numbered) where
  clauses : apart (from.clause ∷ into.clause ∷ []) ≡ from.clause ∷ shift (width from.clause) into.clause ∷ []
  clauses = apart_two from.clause into.clause

  is_para : (k b : ℕ) (side : Side) (left right : Term) (m : Literal) (path : List ℕ) (t : Term) → slice_get from.clause.literals k ≡ Some (equation true left right)
      → slice_get (renamed from into) b ≡ Some m → IsCompound (chosen side left right) → IsSubtermAt m.args path t → IsTarget (atom_with (chosen side left right)) t
      → IsPairSite from into (site from into (k + 1) side (b + 1) path)
  is_para k b side left right m path t at_l at_m compound sub target = (
    record { parents = from ∷ into ∷ []; pairs = record { left = atom_with (chosen side left right); right = atom_with t } ∷ []; ending = Replacing (k + 1) side (b + 1) path },
    record {
      from_named = refl;
      into_named = refl;
      parents = refl;
      left = left;
      right = right;
      equation_there = ap (λ (cs : List Clause). literal_at cs (record { parent = 1; lit = k + 1 })) clauses ∙ numbered_next from.clause.literals k ∙ at_l;
      side_compound = compound;
      target = m;
      target_there = ap (λ (cs : List Clause). literal_at cs (record { parent = 2; lit = b + 1 })) clauses ∙ numbered_next (renamed from into) b ∙ at_m;
      subterm = t;
      subterm_there = sub;
      subterm_compound = target.compound;
      pairs = refl;
      unify = target.unify;
      ending = refl;
    },
  )

  pub found_is : (x : ParaSite) → Below (IsWithLiteral (spot_of from into) from.clause.literals (renamed from into)) (length from.clause.literals) x → IsPairSite from into x
  found_is x (k, less, (l, at_l, (left, right, e, inl (compound, (b, less_b, (m, at_m, (path, t, is, sub, target))))))) =
      subst (IsPairSite from into) (sym is) (is_para k b Left left right m path t (at_l ∙ ap (λ (n : Literal). Some n) e) at_m compound sub target)
  found_is x (k, less, (l, at_l, (left, right, e, inr (compound, (b, less_b, (m, at_m, (path, t, is, sub, target))))))) =
      subst (IsPairSite from into) (sym is) (is_para k b Right left right m path t (at_l ∙ ap (λ (n : Literal). Some n) e) at_m compound sub target)

  pub is_found : (x : ParaSite) → IsPairSite from into x → Below (IsWithLiteral (spot_of from into) from.clause.literals (renamed from into)) (length from.clause.literals) x
  is_found x (i, h) = (source.0, slice_get_within from.clause.literals source.0 (equation true h.left h.right) source.2, (equation true h.left h.right, source.2, (h.left, h.right, refl, by x.side refl)))
    where
      here : apart (parent_clauses i) ≡ from.clause ∷ shift (width from.clause) into.clause ∷ []
      here = ap (λ (ps : List Numbered). apart (map (λ (q : Numbered). q.clause) ps)) h.parents ∙ clauses

      source : (k : ℕ) × (x.from_lit ≡ k + 1) × (slice_get from.clause.literals k ≡ Some (equation true h.left h.right))
      source = numbered_place from.clause.literals x.from_lit (equation true h.left h.right)
          (subst (λ (cs : List Clause). literal_at cs (record { parent = 1; lit = x.from_lit }) ≡ Some (equation true h.left h.right)) here h.equation_there)

      target : (k : ℕ) × (x.into_lit ≡ k + 1) × (slice_get (renamed from into) k ≡ Some h.target)
      target = numbered_place (renamed from into) x.into_lit h.target
          (subst (λ (cs : List Clause). literal_at cs (record { parent = 2; lit = x.into_lit }) ≡ Some h.target) here h.target_there)

      unify : (side : Side) → x.side ≡ side → Unify (pair_of (atom_with (chosen side h.left h.right)) (atom_with h.subterm))
      unify side is = subst (λ (d : Side). Unify (pair_of (atom_with (chosen d h.left h.right)) (atom_with h.subterm))) is (subst Unify h.pairs h.unify)

      named : (side : Side) → x.side ≡ side → x ≡ site from into (source.0 + 1) side (target.0 + 1) x.path
      named side is = λ n. record { from = sym h.from_named n; from_lit = source.1 n; side = is n; into = sym h.into_named n; into_lit = target.1 n; path = x.path }

      of_side : (side : Side) → x.side ≡ side
          → IsWithSide (record (spot_of from into) { from_lit = source.0 + 1; side = side }) (chosen side h.left h.right) (renamed from into) x
      of_side side is = (
        subst (λ (d : Side). IsCompound (chosen d h.left h.right)) is h.side_compound,
        (
          target.0,
          slice_get_within (renamed from into) target.0 h.target target.2,
          (h.target, target.2, (x.path, h.subterm, named side is, h.subterm_there, record { compound = h.subterm_compound; unify = unify side is })),
        ),
      )

      by : (side : Side) → x.side ≡ side → IsWithEquation (record (spot_of from into) { from_lit = source.0 + 1 }) h.left h.right (renamed from into) x
      by Left is = inl (of_side Left is)
      by Right is = inr (of_side Right is)

  pub pair_sites : (limit : ℕ) (xs ys : List ParaSite) → Extends pair_numbers (Below (IsWithLiteral (spot_of from into) from.clause.literals (renamed from into)) (length from.clause.literals)) limit xs ys
      → Extends pair_numbers (IsPairSite from into) limit xs ys
  pair_sites limit xs ys h =
      same pair_numbers limit (Below (IsWithLiteral (spot_of from into) from.clause.literals (renamed from into)) (length from.clause.literals)) (IsPairSite from into) xs ys h found_is is_found

  pub no_pair_sites : (limit : ℕ) (xs : List ParaSite) → ((k : ℕ) (s t : Term) → ¬ (slice_get from.clause.literals k ≡ Some (equation true s t))) → Extends pair_numbers (IsPairSite from into) limit xs xs
  no_pair_sites limit xs none = nothing pair_numbers limit (IsPairSite from into) xs
      (λ x h. let b = is_found x h in none b.0 b.2.2.0 b.2.2.1 (b.2.1 ∙ ap (λ (l : Literal). Some l) b.2.2.2))
