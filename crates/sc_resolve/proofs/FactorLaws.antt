-- The sites that the loops of factoring find are its sites.
use Rattle.std.proofs.Common.{◌≡◌, ◌∙◌, sym, subst, refl, ℕ, ◌+◌, ◌-◌, ◌<◌, inl, inr, List, [], ◌∷◌, ◌++◌, length, map, Some, slice_get, arith}
use Rattle.std.proofs.lemmas.Option.{slice_get_within}
use Rattle.sc_term.specs.declared.Literal.{Literal}
use Rattle.sc_term.specs.declared.Clause.{Clause}
use Rattle.sc_term.specs.declared.Numbered.{Numbered}
use Rattle.sc_term.specs.declared.Pair.{Pair}
use Rattle.sc_term.specs.Substitution.{Unify}
use Rattle.sc_term.specs.JointInstance.{apart}
use Rattle.sc_core_rules.specs.declared.site.FactorSite.{FactorSite}
use Rattle.sc_core_rules.specs.Order.{IsBefore}
use Rattle.sc_core_rules.specs.Pairing.{ArePairs, HaveSameSigns, places_in}
use Rattle.sc_core_rules.specs.Inference.{Inference, Merging}
use Rattle.sc_core_rules.specs.Resolution.{IsFactor, factor_numbers, AreFactorSites}
use Rattle.sc_core_rules.proofs.Enumerations.{all_of_one}
use Rattle.sc_core_rules.proofs.StepLaws.{same_some}
use Rattle.sc_core_rules.proofs.FactorExample.{one_pair}
use Rattle.sc_resolve.specs.Extending.{Extends, Below}
use Rattle.sc_resolve.specs.Literals.{pair_of, AreMergeable}
use Rattle.sc_resolve.specs.Factor.{IsWithSecond, IsWithFirst}
use Rattle.sc_resolve.proofs.Extending.{Rising, same, one, nothing}
use Rattle.sc_resolve.proofs.LiteralLaws.{numbered_next, numbered_place, apart_one}

abbrev site : ℕ → ℕ → FactorSite
site a b = record { first = a; second = b }

ordered : (x y u v : FactorSite) → x ≡ u → y ≡ v → IsBefore (factor_numbers u) (factor_numbers v) → IsBefore (factor_numbers x) (factor_numbers y)
ordered x y u v e f h = subst (λ (z : FactorSite). IsBefore (factor_numbers z) (factor_numbers y)) (sym e) (subst (λ (z : FactorSite). IsBefore (factor_numbers u) (factor_numbers z)) (sym f) h)

pub seconds_rise : (a : ℕ) (l : Literal) (literals : List Literal) → Rising factor_numbers (IsWithSecond a l literals)
seconds_rise a l literals j k x y less h i = ordered x y (site (a + 1) (j + 1)) (site (a + 1) (k + 1)) h.0 i.0 (inr (refl, inl (omega arith)))

pub firsts_rise : (literals : List Literal) → Rising factor_numbers (IsWithFirst literals)
firsts_rise literals j k x y less h i = ordered x y (site (j + 1) (h.2.0 + 1)) (site (k + 1) (i.2.0 + 1)) h.2.2.0 i.2.2.0 (inl (omega arith))

abbrev IsSite : Numbered → FactorSite → Type 0
IsSite given x = (i : Inference) × IsFactor given x i

is_site : (given : Numbered) (x : FactorSite) → Below (IsWithFirst given.clause.literals) (length given.clause.literals) x → IsSite given x
is_site given x (j, less_j, (l, at_l, (k, less_k, (e, behind, m, at_m, can)))) = (
  record { parents = given ∷ []; pairs = pair_of l m; ending = Merging x.second },
  record {
    order = subst (λ (s : FactorSite). s.first < s.second) (sym e) (omega arith);
    parents = refl;
    pairs = subst (λ (s : FactorSite). ArePairs (apart (given.clause ∷ [])) (places_in 1 (s.first ∷ [])) (places_in 1 (s.second ∷ [])) (pair_of l m)) (sym e)
        (subst (λ (cs : List Clause). ArePairs cs (places_in 1 ((j + 1) ∷ [])) (places_in 1 ((k + 1) ∷ [])) (pair_of l m)) (sym (apart_one given.clause))
        (numbered_next given.clause.literals j ∙ at_l, numbered_next given.clause.literals k ∙ at_m, refl));
    signs = all_of_one (λ (p : Pair). p.left.positive ≡ p.right.positive) (record { left = l; right = m }) can.signs;
    unify = can.unify;
    ending = refl;
  },
)

is_found : (given : Numbered) (x : FactorSite) → IsSite given x → Below (IsWithFirst given.clause.literals) (length given.clause.literals) x
is_found given x (i, h) =
    let here : ArePairs (given.clause ∷ []) (places_in 1 (x.first ∷ [])) (places_in 1 (x.second ∷ [])) i.pairs =
    subst (λ (cs : List Clause). ArePairs cs (places_in 1 (x.first ∷ [])) (places_in 1 (x.second ∷ [])) i.pairs) (apart_one given.clause)
    (subst (λ (ps : List Numbered). ArePairs (apart (map (λ (q : Numbered). q.clause) ps)) (places_in 1 (x.first ∷ [])) (places_in 1 (x.second ∷ [])) i.pairs) h.parents h.pairs) in
    let pair = one_pair (given.clause ∷ []) (record { parent = 1; lit = x.first }) (record { parent = 1; lit = x.second }) i.pairs here in
    let left = numbered_place given.clause.literals x.first pair.0.left pair.2 in
    let right = numbered_place given.clause.literals x.second pair.0.right pair.3 in
    let e : x ≡ site (left.0 + 1) (right.0 + 1) = λ n. record { first = left.1 n; second = right.1 n } in
    let alike : (pair.0.left).positive ≡ (pair.0.right).positive = subst HaveSameSigns pair.1 h.signs 0 pair.0 (omega arith) in
    let unify : Unify (pair_of pair.0.left pair.0.right) = subst Unify pair.1 h.unify in (
      left.0,
      slice_get_within given.clause.literals left.0 pair.0.left left.2,
      (
        pair.0.left,
        left.2,
        (right.0, slice_get_within given.clause.literals right.0 pair.0.right right.2, (e, omega (arith, h.order, left.1, right.1), pair.0.right, right.2, record { signs = alike; unify = unify })),
      ),
    )

-- ---- one place more

module _ (limit a : ℕ) (l : Literal) (literals : List Literal) (k : ℕ) (m : Literal) (there : slice_get literals k ≡ Some m) (xs ys : List FactorSite) where
  pub added : a < k → length xs < limit → ys ≡ xs ++ site (a + 1) (k + 1) ∷ [] → AreMergeable l m → Extends factor_numbers (IsWithSecond a l literals k) limit xs ys
  added behind room e can = one factor_numbers limit (IsWithSecond a l literals k) xs ys (site (a + 1) (k + 1)) room e (refl, behind, m, there, can) (λ y h. sym h.0)

  pub passed : ys ≡ xs → ¬ AreMergeable l m → Extends factor_numbers (IsWithSecond a l literals k) limit xs ys
  passed e cannot = subst (Extends factor_numbers (IsWithSecond a l literals k) limit xs) (sym e)
      (nothing factor_numbers limit (IsWithSecond a l literals k) xs (λ y h. cannot (subst (AreMergeable l) (same_some (slice_get literals k) h.2 m h.3 there) h.4)))

-- nothing stands behind a literal up to its own place
pub none_yet : (limit a : ℕ) (l : Literal) (literals : List Literal) (xs : List FactorSite) → Extends factor_numbers (Below (IsWithSecond a l literals) (a + 1)) limit xs xs
none_yet limit a l literals xs = nothing factor_numbers limit (Below (IsWithSecond a l literals) (a + 1)) xs (λ x h. omega (arith, h.1, h.2.1))

-- the sites whose first literal is this one
pub with_first : (limit : ℕ) (literals : List Literal) (k n : ℕ) (l : Literal) → slice_get literals k ≡ Some l → n ≡ length literals → (xs ys : List FactorSite)
    → Extends factor_numbers (Below (IsWithSecond k l literals) n) limit xs ys → Extends factor_numbers (IsWithFirst literals k) limit xs ys
with_first limit literals k n l there long xs ys h =
    same factor_numbers limit (Below (IsWithSecond k l literals) n) (IsWithFirst literals k) xs ys h
    (λ x b. (l, there, (b.0, omega (arith, b.1, long), b.2)))
    (λ x b. subst (λ (m : Literal). Below (IsWithSecond k m literals) n x) (same_some (slice_get literals k) b.0 l b.1 there) (b.2.0, omega (arith, b.2.1, long), b.2.2))

-- the list of what the loops find, from none
pub are_sites : (given : Numbered) (limit : ℕ) (sites : List FactorSite)
    → Extends factor_numbers (Below (IsWithFirst given.clause.literals) (length given.clause.literals)) limit [] sites → AreFactorSites given limit sites
are_sites given limit sites h =
    let all = same factor_numbers limit (Below (IsWithFirst given.clause.literals) (length given.clause.literals)) (IsSite given) [] sites h (is_site given) (is_found given) in
    let room : limit - 0 ≡ limit = omega arith in
    subst (AreFactorSites given limit) (sym all.grown) (subst (λ n. AreFactorSites given n all.found) room all.first)
