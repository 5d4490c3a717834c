-- The sites of UR-resolution, loop by loop.
use Rattle.std.specs.Prelude.{◌≡◌, ◌≤◌, ℕ, ◌+◌, List, [], Some, slice_get, length}
use Rattle.sc_term.specs.declared.Literal.{Literal}
use Rattle.sc_term.specs.declared.Numbered.{Numbered}
use Rattle.sc_term.specs.Clause.{width}
use Rattle.sc_core_rules.specs.declared.site.HyperSite.{HyperSite}
use Rattle.sc_core_rules.specs.declared.site.UrSite.{UrSite}
use Rattle.sc_core_rules.specs.Hyperresolution.{picked_numbers}
use Rattle.sc_resolve.specs.Extending.{Below}
use Rattle.sc_hyper.specs.declared.candidates.Candidate.{Candidate}
use Rattle.sc_hyper.specs.Negatives.{ArePicked, IsOther}
use Rattle.sc_hyper.specs.Choosing.{Completes}

-- the nucleus and units of a whole choice, with the literal that is left
abbrev pub ur_of : ℕ → HyperSite → UrSite
ur_of target whole = record { nucleus = whole.nucleus; target = target; units = picked_numbers whole }

-- a site with this nucleus and literal that is left
pub record IsWithTarget (given : ℕ) (units : List Candidate) (nucleus : Numbered) (target : ℕ) (site : UrSite) : Type 0 where
  pub numbers : List ℕ
  pub literals : List Literal
  pub others : ArePicked (IsOther target) nucleus.clause numbers literals
  pub whole : HyperSite
  pub choice : Completes nucleus.number given units (width nucleus.clause) literals [] whole
  pub is : site ≡ ur_of target whole

-- the same, where the literal that is left is the one at k
abbrev pub IsWithTargetAt : ℕ → List Candidate → Numbered → ℕ → UrSite → Type 0
IsWithTargetAt given units nucleus k site = IsWithTarget given units nucleus (k + 1) site

-- a site with this nucleus, of two literals or more
abbrev pub IsWithTargets : ℕ → List Candidate → Numbered → UrSite → Type 0
IsWithTargets given units nucleus site =
    (2 ≤ length nucleus.clause.literals) × Below (IsWithTargetAt given units nucleus) (length nucleus.clause.literals) site

-- a site with the usable clause at k as its nucleus
abbrev pub IsWithUrUsable : ℕ → List Candidate → List Numbered → ℕ → UrSite → Type 0
IsWithUrUsable given units usable k site = (p : Numbered) × (slice_get usable k ≡ Some p) × IsWithTargets given units p site
