-- Which tuples of numbers are sites of binary resolution and of factoring: those whose literals have the signs and unify.
use Rattle.std.proofs.Common.{◌≡◌, sym, subst, refl, ℕ, ◌<◌, List, [], ◌∷◌, not, map, Some, arith}
use Rattle.std.specs.List.{Contains}
use Rattle.sc_term.specs.declared.Literal.{Literal}
use Rattle.sc_term.specs.declared.Clause.{Clause}
use Rattle.sc_term.specs.declared.Numbered.{Numbered}
use Rattle.sc_term.specs.declared.Pair.{Pair}
use Rattle.sc_term.specs.Substitution.{Unify}
use Rattle.sc_term.specs.JointInstance.{apart}
use Rattle.sc_core_rules.specs.declared.site.BinarySite.{BinarySite}
use Rattle.sc_core_rules.specs.Pairing.{literal_at, ArePairs, places_in, HaveOppositeSigns, HaveSameSigns}
use Rattle.sc_core_rules.specs.Inference.{Inference, Resolving, Merging}
use Rattle.sc_core_rules.specs.Resolution.{IsBinary, IsFactor}
use Rattle.sc_core_rules.proofs.Enumerations.{all_of_one}
use Rattle.sc_core_rules.proofs.PairLaws.{opposite_one, one_pair}
use Rattle.sc_core_rules.proofs.SimplifyLaws.{NumbersTell}

abbrev pub pair_of : Literal → Literal → Pair
pair_of l m = record { left = l; right = m }

-- ---- binary resolution

-- literal a of the given clause and literal b of the partner, renamed apart, have opposite signs and unify
pub record AreOpposed (given partner : Numbered) (a b : ℕ) : Type 0 where
  pub left : Literal
  pub right : Literal
  pub left_there : literal_at (apart (given.clause ∷ partner.clause ∷ [])) (record { parent = 1; lit = a }) ≡ Some left
  pub right_there : literal_at (apart (given.clause ∷ partner.clause ∷ [])) (record { parent = 2; lit = b }) ≡ Some right
  pub signs : left.positive ≡ not right.positive
  pub unify : Unify (pair_of left right ∷ [])

abbrev pub binary_site : Numbered → ℕ → ℕ → BinarySite
binary_site partner a b = record { partner = partner.number; given_lit = a; partner_lit = b }

-- then they are a site
pub binary_if : (given : Numbered) (usable : List Numbered) (partner : Numbered) (a b : ℕ) → Contains usable partner → AreOpposed given partner a b
    → (i : Inference) × IsBinary given usable (binary_site partner a b) i
binary_if given usable partner a b listed h = (
  record { parents = given ∷ partner ∷ []; pairs = pair_of h.left h.right ∷ []; ending = Resolving (a ∷ []) (b ∷ []) },
  record {
    partner = partner;
    listed = listed;
    named = refl;
    parents = refl;
    pairs = (h.left_there, h.right_there, refl);
    signs = opposite_one (pair_of h.left h.right) h.signs;
    unify = h.unify;
    ending = refl;
  },
)

-- and only then
pub binary_opposed : (given : Numbered) (usable : List Numbered) (site : BinarySite) (i : Inference) (h : IsBinary given usable site i) → AreOpposed given h.partner site.given_lit site.partner_lit
binary_opposed given usable site i h = record {
  left = (pair.0).left;
  right = (pair.0).right;
  left_there = pair.2;
  right_there = pair.3;
  signs = subst HaveOppositeSigns pair.1 h.signs 0 pair.0 (omega arith);
  unify = subst Unify pair.1 h.unify;
}
  where
    clauses : List Clause
    clauses = apart (given.clause ∷ (h.partner).clause ∷ [])

    pair : (p : Pair) × (i.pairs ≡ p ∷ []) × (literal_at clauses (record { parent = 1; lit = site.given_lit }) ≡ Some p.left)
        × (literal_at clauses (record { parent = 2; lit = site.partner_lit }) ≡ Some p.right)
    pair = one_pair clauses (record { parent = 1; lit = site.given_lit }) (record { parent = 2; lit = site.partner_lit }) i.pairs
        (subst (λ (ps : List Numbered). ArePairs (apart (map (λ (q : Numbered). q.clause) ps)) (places_in 1 (site.given_lit ∷ [])) (places_in 2 (site.partner_lit ∷ [])) i.pairs) h.parents h.pairs)

pub binary_only_if : (given : Numbered) (usable : List Numbered) → NumbersTell usable → (partner : Numbered) (a b : ℕ) → Contains usable partner → (i : Inference)
    → IsBinary given usable (binary_site partner a b) i → AreOpposed given partner a b
binary_only_if given usable tell partner a b listed i h =
    subst (λ (p : Numbered). AreOpposed given p a b) (tell h.partner partner h.listed listed h.named) (binary_opposed given usable (binary_site partner a b) i h)

-- each site has a partner of the list
pub binary_partner : (given : Numbered) (usable : List Numbered) (site : BinarySite) (i : Inference) → IsBinary given usable site i
    → (partner : Numbered) × Contains usable partner × (site ≡ binary_site partner site.given_lit site.partner_lit)
binary_partner given usable site i h = (h.partner, h.listed, λ k. record { partner = sym h.named k; given_lit = site.given_lit; partner_lit = site.partner_lit })

-- ---- factoring

-- literals a and b of the given clause, a the first, have the same sign and unify
pub record AreFactored (given : Numbered) (a b : ℕ) : Type 0 where
  pub order : a < b
  pub left : Literal
  pub right : Literal
  pub left_there : literal_at (apart (given.clause ∷ [])) (record { parent = 1; lit = a }) ≡ Some left
  pub right_there : literal_at (apart (given.clause ∷ [])) (record { parent = 1; lit = b }) ≡ Some right
  pub signs : left.positive ≡ right.positive
  pub unify : Unify (pair_of left right ∷ [])

-- then they are a site
pub factor_if : (given : Numbered) (a b : ℕ) → AreFactored given a b → (i : Inference) × IsFactor given (record { first = a; second = b }) i
factor_if given a b h = (
  record { parents = given ∷ []; pairs = pair_of h.left h.right ∷ []; ending = Merging b },
  record {
    order = h.order;
    parents = refl;
    pairs = (h.left_there, h.right_there, refl);
    signs = all_of_one (λ (q : Pair). q.left.positive ≡ q.right.positive) (pair_of h.left h.right) h.signs;
    unify = h.unify;
    ending = refl;
  },
)

-- and only then
pub factor_only_if : (given : Numbered) (a b : ℕ) (i : Inference) → IsFactor given (record { first = a; second = b }) i → AreFactored given a b
factor_only_if given a b i h = record {
  order = h.order;
  left = (pair.0).left;
  right = (pair.0).right;
  left_there = pair.2;
  right_there = pair.3;
  signs = subst HaveSameSigns pair.1 h.signs 0 pair.0 (omega arith);
  unify = subst Unify pair.1 h.unify;
}
  where
    there : ArePairs (apart (given.clause ∷ [])) (places_in 1 (a ∷ [])) (places_in 1 (b ∷ [])) i.pairs
    there = subst (λ (ps : List Numbered). ArePairs (apart (map (λ (q : Numbered). q.clause) ps)) (places_in 1 (a ∷ [])) (places_in 1 (b ∷ [])) i.pairs) h.parents h.pairs

    pair : (p : Pair) × (i.pairs ≡ p ∷ []) × (literal_at (apart (given.clause ∷ [])) (record { parent = 1; lit = a }) ≡ Some p.left)
        × (literal_at (apart (given.clause ∷ [])) (record { parent = 1; lit = b }) ≡ Some p.right)
    pair = one_pair (apart (given.clause ∷ [])) (record { parent = 1; lit = a }) (record { parent = 1; lit = b }) i.pairs there
