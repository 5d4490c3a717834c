-- What contracts see of the versions that a prover has seen, and the best of them.
use Rattle.std.specs.Prelude.{◌≡◌, ◌<◌, ◌^◌, ◌⊎◌, ℕ, List, [], ◌∷◌, ◌++◌, Some, None, All, map, length, replicate, get_or}
use Rattle.sc_term.specs.Numbering.{numbered, with_element}
use Rattle.sc_term.specs.declared.symbol.Symbol.{Symbol}
use Rattle.sc_input_rules.specs.Problem.{Stated}
use Rattle.sc_interp.specs.declared.plain.VersionName.{VersionName}
use Rattle.sc_interp.specs.Versions.{ClaimedStructure, opening}
use Rattle.sc_core_rules.specs.Selection.{Seen, IsAt, IsGuide, opening_name}

-- the opening version, the versions of each finder that are seen, and the guide with its name
pub record Guided : Type 0 where
  pub opening_version : ClaimedStructure
  pub seen : Seen
  pub name : VersionName
  pub version : ClaimedStructure

-- the version of that name is the guide of the versions that are seen, for each problem with that opening version
abbrev pub IsGuideOver : ClaimedStructure → Seen → VersionName → ClaimedStructure → Type 0
IsGuideOver first seen name v = (problem : Stated) → opening problem.symbols ≡ first → IsGuide problem seen name v

-- no version is seen of any of so many finders
abbrev pub nothing_seen : List Symbol → ℕ → Guided
nothing_seen symbols finders = record { opening_version = opening symbols; seen = replicate finders []; name = opening_name; version = opening symbols }

-- the version joins the end of the list of that finder, from 1, which is there
abbrev pub grown : Seen → ℕ → ClaimedStructure → Seen
grown seen finder v = elim (numbered seen finder) [ None ↦ seen | Some versions ↦ with_element seen finder (versions ++ v ∷ []) ]

-- how many versions of each finder are seen
abbrev pub lengths_of : Seen → List ℕ
lengths_of seen = map (λ (versions : List ClaimedStructure). length versions) seen

-- the version of that name, or the first one where none is seen of that name
abbrev pub version_named : ClaimedStructure → Seen → VersionName → ClaimedStructure
version_named first seen name = elim (numbered seen name.finder) [ None ↦ first | Some versions ↦ get_or versions name.place first ]

-- the name is that of the opening version, or of one that is seen
abbrev pub IsNamed : ClaimedStructure → Seen → VersionName → Type 0
IsNamed first seen name = (name ≡ opening_name) ⊎ IsAt seen name (version_named first seen name)

-- the number of versions of each finder fits in 32 bits
abbrev pub AreCounted : Seen → Type 0
AreCounted seen = All (λ (versions : List ClaimedStructure). length versions < 2 ^ 32) seen

-- what the guide keeps: its name is the opening one or seen, it is the best of what is seen, and each list is short
pub record IsKept (first : ClaimedStructure) (seen : Seen) (name : VersionName) : Type 0 where
  pub named : IsNamed first seen name
  pub guide : IsGuideOver first seen name (version_named first seen name)
  pub counted : AreCounted seen
