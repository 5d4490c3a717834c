-- Hyperresolution and UR-resolution: their sites and inferences.
use Rattle.std.specs.Prelude.{◌≡◌, ◌≢◌, ◌≤◌, ℕ, List, [], ◌∷◌, Contains, All, IsSomeAnd, true, false, length, map, flat_map}
use Rattle.std.specs.List.{AllZip}
use Rattle.sc_term.specs.declared.Literal.{Literal}
use Rattle.sc_term.specs.declared.Clause.{Clause}
use Rattle.sc_term.specs.Numbering.{numbered}
use Rattle.sc_term.specs.declared.Numbered.{Numbered}
use Rattle.sc_core_rules.specs.declared.site.HyperSite.{HyperSite}
use Rattle.sc_core_rules.specs.declared.site.UrSite.{UrSite}
use Rattle.sc_core_rules.specs.declared.site.Pick.{Pick}
use Rattle.sc_term.specs.JointInstance.{apart}
use Rattle.sc_core_rules.specs.Inference.{Inference, Resolving, parent_clauses}
use Rattle.sc_term.specs.Substitution.{Unify}
use Rattle.sc_core_rules.specs.Pairing.{ArePairs, HaveOppositeSigns, places_in, places_from}
use Rattle.sc_core_rules.specs.Order.{AreInOrder, AreFirst}

-- the numbers, rising, of the literals of which P holds
abbrev pub AreLiteralsWith : (ℕ → Literal → Type 0) → Clause → List ℕ → Type 0
AreLiteralsWith P c lits = AreInOrder (λ a. a ∷ []) (λ a. IsSomeAnd (numbered c.literals a) (P a)) lits

-- the usable clauses of these numbers, in order
abbrev pub AreNamed : List Numbered → List ℕ → List Numbered → Type 0
AreNamed usable numbers ps = AllZip (λ n p. (p.number ≡ n) × Contains usable p) numbers ps

-- ---- hyperresolution

-- the electrons of a site, and their literals
abbrev pub picked_numbers : HyperSite → List ℕ
picked_numbers site = map (λ (p : Pick). p.number) site.electrons

abbrev pub picked_literals : HyperSite → List ℕ
picked_literals site = map (λ (p : Pick). p.lit) site.electrons

-- every literal is positive
abbrev pub IsPositive : Clause → Type 0
IsPositive c = All (λ l. l.positive ≡ true) c.literals

-- the negative literals of the nucleus, of which there are some, unify at once, each with a literal of a positive
-- electron, and are resolved in order; the given clause is the nucleus or an electron
pub record IsHyper (given : Numbered) (usable : List Numbered) (site : HyperSite) (i : Inference) : Type 0 where
  pub nucleus : Numbered
  pub electrons : List Numbered
  pub nucleus_named : AreNamed usable (site.nucleus ∷ []) (nucleus ∷ [])
  pub electrons_named : AreNamed usable (picked_numbers site) electrons
  pub electrons_positive : All (λ e. IsPositive e.clause) electrons
  pub has_given : Contains (site.nucleus ∷ picked_numbers site) given.number
  pub parents : i.parents ≡ nucleus ∷ electrons
  pub negative : List ℕ
  pub are_negative : AreLiteralsWith (λ a l. l.positive ≡ false) nucleus.clause negative
  pub some_negative : negative ≢ []
  pub pairs : ArePairs (apart (parent_clauses i)) (places_in 1 negative) (places_from 2 (picked_literals site)) i.pairs
  pub unify : Unify i.pairs
  pub ending : i.ending ≡ Resolving negative (picked_literals site)

-- the numbers of a site: nucleus, then each electron with its literal
abbrev pub hyper_numbers : HyperSite → List ℕ
hyper_numbers s = s.nucleus ∷ flat_map (λ (p : Pick). p.number ∷ p.lit ∷ []) s.electrons

-- the first sites of hyperresolution, at most as many as the limit
abbrev pub AreHyperSites : Numbered → List Numbered → ℕ → List HyperSite → Type 0
AreHyperSites given usable limit sites = AreFirst hyper_numbers (λ site. (i : Inference) × IsHyper given usable site i) limit sites

-- ---- UR-resolution

-- the one literal of each unit
abbrev pub unit_literals : UrSite → List ℕ
unit_literals site = map (λ n. 1) site.units

-- all literals of the nucleus but the target unify at once, each with a unit of the opposite sign, and are resolved in
-- order; the nucleus has two literals or more, and the given clause is the nucleus or a unit
pub record IsUr (given : Numbered) (usable : List Numbered) (site : UrSite) (i : Inference) : Type 0 where
  pub nucleus : Numbered
  pub units : List Numbered
  pub nucleus_named : AreNamed usable (site.nucleus ∷ []) (nucleus ∷ [])
  pub nucleus_long : 2 ≤ length nucleus.clause.literals
  pub units_named : AreNamed usable site.units units
  pub units_single : All (λ u. length u.clause.literals ≡ 1) units
  pub has_given : Contains (site.nucleus ∷ site.units) given.number
  pub target_there : IsSomeAnd (numbered nucleus.clause.literals site.target) (λ l. Unit {0})
  pub parents : i.parents ≡ nucleus ∷ units
  pub others : List ℕ
  pub are_others : AreLiteralsWith (λ a l. a ≢ site.target) nucleus.clause others
  pub pairs : ArePairs (apart (parent_clauses i)) (places_in 1 others) (places_from 2 (unit_literals site)) i.pairs
  pub signs : HaveOppositeSigns i.pairs
  pub unify : Unify i.pairs
  pub ending : i.ending ≡ Resolving others (unit_literals site)

-- the numbers of a site: nucleus, target, units
abbrev pub ur_numbers : UrSite → List ℕ
ur_numbers s = s.nucleus ∷ s.target ∷ s.units

-- the first sites of UR-resolution
abbrev pub AreUrSites : Numbered → List Numbered → ℕ → List UrSite → Type 0
AreUrSites given usable limit sites = AreFirst ur_numbers (λ site. (i : Inference) × IsUr given usable site i) limit sites
