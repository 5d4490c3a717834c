-- The guide among the seen versions, and the choice of the given clause.
use Rattle.std.specs.Prelude.{◌≡◌, ◌≢◌, ◌<◌, ◌⊎◌, ℕ, ◌+◌, ◌%◌, List, [], ◌∷◌, Some, IsSomeAnd, Contains, All, length, slice_get}
use Rattle.sc_term.specs.Numbering.{numbered}
use Rattle.sc_input_rules.specs.Problem.{Stated}
use Rattle.sc_term.specs.declared.Numbered.{Numbered}
use Rattle.sc_interp.specs.Versions.{ClaimedStructure, opening}
use Rattle.sc_interp.specs.declared.plain.VersionName.{VersionName}
use Rattle.sc_interp.specs.declared.plain.Truth.TheVariants.{False}
use Rattle.sc_core_rules.specs.Rewriting.{number_of}
use Rattle.sc_core_rules.specs.declared.row.Cause.{Cause}
use Rattle.sc_core_rules.specs.declared.row.Cause.TheVariants as cause
use Rattle.sc_interp.specs.Marks.{IsMark}
use Rattle.sc_core_rules.specs.Book.{weight_in}
use Rattle.sc_core_rules.specs.Order.{Where, IsBefore, IsLeast}

-- ---- the guide

-- for each finder the list of its versions that are seen
abbrev pub Seen : Type 0
Seen = List (List ClaimedStructure)

-- the version that the name means
abbrev pub IsAt : Seen → VersionName → ClaimedStructure → Type 0
IsAt seen name v = IsSomeAnd (numbered seen name.finder) (λ versions. slice_get versions name.place ≡ Some v)

-- how good it is, what counts most first: how many clauses are claimed of it
abbrev pub score : ClaimedStructure → List ℕ
score v = length v.claims ∷ []

-- its score is greater, or else its finder lesser, or else its place greater
abbrev pub IsBetter : VersionName → ClaimedStructure → VersionName → ClaimedStructure → Type 0
IsBetter name v other w =
    IsBefore (score w) (score v)
    ⊎ ((score v ≡ score w) × ((name.finder < other.finder) ⊎ ((name.finder ≡ other.finder) × (other.place < name.place))))

-- the name of the opening version
abbrev pub opening_name : VersionName
opening_name = record { finder = 0; place = 0 }

-- the best version that is seen, or the opening version where none is seen
abbrev pub IsGuide : Stated → Seen → VersionName → ClaimedStructure → Type 0
IsGuide problem seen name v =
    Where (All (λ versions. versions ≡ []) seen)
    ((name ≡ opening_name) × (v ≡ opening problem.symbols))
    (IsAt seen name v × ((other : VersionName) (w : ClaimedStructure) → IsAt seen other w → ¬ IsBetter other w name v))

-- ---- the choice

-- the lighter first, and of equal weight the lesser number
abbrev pub by_weight : Stated → Numbered → List ℕ
by_weight problem p = weight_in problem p.clause ∷ p.number ∷ []

-- no condition
abbrev pub IsAny : Numbered → Type 0
IsAny p = Unit {0}

-- the mark of the clause in the version is False
abbrev pub IsFalse : ClaimedStructure → Numbered → Type 0
IsFalse v p = IsMark v.tables p.clause False

-- the number r: in a turn that it divides, the oldest clause is chosen
abbrev pub ratio : Stated → ℕ
ratio problem = problem.params.pick_given_ratio + 1

-- in turn t clause p of sos is chosen for the cause c, where v is the guide and has this name: the oldest; else the
-- lightest of those that are false in the guide; else the lightest
abbrev pub Selects : Stated → List Numbered → ℕ → VersionName → ClaimedStructure → Numbered → Cause → Type 0
Selects problem sos t name v p c =
    Where (t % ratio problem ≡ 0)
    ((c ≡ cause.Age) × IsLeast number_of IsAny sos p)
    (Where ((name ≢ opening_name) × ((q : Numbered) × Contains sos q × IsFalse v q))
    ((c ≡ cause.False) × IsLeast (by_weight problem) (IsFalse v) sos p)
    ((c ≡ cause.Weight) × IsLeast (by_weight problem) IsAny sos p))
