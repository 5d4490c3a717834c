-- Which runs are read back from the text that they are printed as.
use Rattle.std.specs.Prelude.{◌≡◌, ◌<◌, ◌≤◌, ◌+◌, ◌^◌, ℕ, List, [], ◌∷◌, length}
use Rattle.std.specs.List.{AllByRecursion}
use Rattle.sc_term.specs.declared.Line.{Line}
use Rattle.sc_term.specs.declared.symbol.Symbol.{Symbol}
use Rattle.sc_interp.specs.declared.plain.VersionName.{VersionName}
use Rattle.sc_interp.specs.Structure.{values_below, entry_count}
use Rattle.sc_core_rules.specs.declared.row.GivenRow.{GivenRow}
use Rattle.sc_core_rules.specs.declared.row.KeptRow.{KeptRow}
use Rattle.sc_core_rules.specs.declared.row.Outcome.{Outcome}
use Rattle.sc_core_rules.specs.declared.row.Outcome.TheVariants.{Proof, SosEmpty, GivenLimit, KeptLimit, WorkLimit}
use Rattle.sc_text_run_rules.specs.declared.run.MarkRow.{MarkRow}
use Rattle.sc_text_run_rules.specs.ModelText.{without_equality}
use Rattle.sc_text_run_rules.specs.RunValue.{VersionValue, RunValue}
use Rattle.sc_text_laws.specs.Printable.{IsPrintableClause, IsPrintableLine, IsShort, AreShort}

-- ---- versions

-- an entry in range for each list of as many elements as the symbol's arity
pub record IsTableOf (size : ℕ) (s : Symbol) (entries : List ℕ) : Type 0 where
  pub many : length entries ≡ size ^ s.arity
  pub below : AllByRecursion (λ e. e < values_below s.role size) entries

-- such entries for each symbol, in order
abbrev pub AreTablesOf : ℕ → List Symbol → List (List ℕ) → Type 0
AreTablesOf size [] [] = Unit {0}
AreTablesOf size [] (es ∷ entries) = ⊥
AreTablesOf size (s ∷ symbols) [] = ⊥
AreTablesOf size (s ∷ symbols) (es ∷ entries) = IsTableOf size s es × AreTablesOf size symbols entries

-- of 1 to 8 elements, with tables of not too many entries, and claims of 32 bits
pub record IsPrintableVersion (symbols : List Symbol) (v : VersionValue) : Type 0 where
  pub some : 1 ≤ v.size
  pub small : v.size ≤ 8
  pub few : entry_count symbols v.size ≤ 1048576
  pub tables : AreTablesOf v.size (without_equality symbols) v.entries
  pub claims : AreShort v.claims

-- the versions of a finder, not too many for their places
pub record AreVersions (symbols : List Symbol) (vs : List VersionValue) : Type 0 where
  pub few : length vs ≤ 2 ^ 32
  pub each : AllByRecursion (IsPrintableVersion symbols) vs

-- ---- rows

pub record IsShortName (name : VersionName) : Type 0 where
  pub finder : IsShort name.finder
  pub place : IsShort name.place

-- the row of the turn, its numbers of 32 bits
pub record IsGivenRow (next : ℕ) (g : GivenRow) : Type 0 where
  pub turn : g.turn ≡ next
  pub small : IsShort g.turn
  pub number : IsShort g.number
  pub name : IsShortName g.name
  pub lengths : AreShort g.lengths

-- rows of the turns from one on
abbrev pub AreGivenRows : ℕ → List GivenRow → Type 0
AreGivenRows turn [] = Unit {0}
AreGivenRows turn (g ∷ gs) = IsGivenRow turn g × AreGivenRows (turn + 1) gs

-- of that number or a greater one, its numbers of 32 bits and its clause within the limits
pub record IsKeptRow (symbols : List Symbol) (from : ℕ) (k : KeptRow) : Type 0 where
  pub least : from ≤ k.number
  pub number : IsShort k.number
  pub turn : IsShort k.turn
  pub weight : IsShort k.weight
  pub clause : IsPrintableClause symbols k.clause

-- rows whose numbers rise
abbrev pub AreKeptRows : List Symbol → ℕ → List KeptRow → Type 0
AreKeptRows symbols least [] = Unit {0}
AreKeptRows symbols least (k ∷ ks) = IsKeptRow symbols least k × AreKeptRows symbols (k.number + 1) ks

pub record IsMarkRow (next : ℕ) (m : MarkRow) : Type 0 where
  pub line : m.line ≡ next
  pub small : IsShort m.line
  pub name : IsShortName m.name

-- marks of the lines from one on
abbrev pub AreMarkRows : ℕ → List MarkRow → Type 0
AreMarkRows line [] = Unit {0}
AreMarkRows line (m ∷ ms) = IsMarkRow line m × AreMarkRows (line + 1) ms

-- ---- the end

abbrev pub IsShortOutcome : Outcome → Type 0
IsShortOutcome Proof = Unit {0}
IsShortOutcome SosEmpty = Unit {0}
IsShortOutcome (GivenLimit n) = IsShort n
IsShortOutcome (KeptLimit n) = IsShort n
IsShortOutcome (WorkLimit n) = IsShort n

-- lines that may be printed, each with its mark
pub record IsMarkedProof (symbols : List Symbol) (lines : List Line) (marks : List MarkRow) : Type 0 where
  pub few : length lines < 2 ^ 32
  pub each : AllByRecursion (IsPrintableLine symbols) lines
  pub many : length marks ≡ length lines
  pub each_mark : AreMarkRows 1 marks

-- these where the outcome is a proof, else neither lines nor marks
abbrev pub HasItsProof : List Symbol → Outcome → List Line → List MarkRow → Type 0
HasItsProof symbols Proof lines marks = IsMarkedProof symbols lines marks
HasItsProof symbols SosEmpty lines marks = (lines ≡ []) × (marks ≡ [])
HasItsProof symbols (GivenLimit n) lines marks = (lines ≡ []) × (marks ≡ [])
HasItsProof symbols (KeptLimit n) lines marks = (lines ≡ []) × (marks ≡ [])
HasItsProof symbols (WorkLimit n) lines marks = (lines ≡ []) × (marks ≡ [])

-- ---- the whole

pub record IsPrintableRun (symbols : List Symbol) (run : RunValue) : Type 0 where
  pub ratio : (1 ≤ run.ratio) × (run.ratio ≤ 1001)
  pub some : 1 ≤ length run.lists
  pub few : length run.lists ≤ 8
  pub versions : AllByRecursion (AreVersions symbols) run.lists
  pub given : AreGivenRows 1 run.given
  pub kept : AreKeptRows symbols 0 run.kept
  pub ends : length run.ends ≡ length run.lists
  pub outcome : IsShortOutcome run.outcome
  pub proof : HasItsProof symbols run.outcome run.proof run.marks
