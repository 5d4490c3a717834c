-- The looks that rows tell, where more versions are seen.
use Rattle.std.proofs.Common.{◌≡◌, ◌∙◌, sym, ap, refl, ℕ, zero, suc, ◌<◌, ◌≤◌, List, [], ◌∷◌, ◌++◌, length, length-append, get_or, map, take, Option, Some, None, arith}
use Rattle.std.specs.List.{AllZip, AllByRecursion}
use Rattle.std.proofs.lemmas.List.{take_all, take-append-le}
use Rattle.sc_interp.specs.Versions.{ClaimedStructure}
use Rattle.sc_core_rules.specs.declared.row.GivenRow.{GivenRow}
use Rattle.sc_core_rules.specs.declared.row.Outcome.{Outcome}
use Rattle.sc_core_rules.specs.Selection.{Seen}
use Rattle.sc_core_rules.specs.Run.{prefixes, looks_after}
use Rattle.sc_core_laws.specs.TrueRows.{IsFrontOf}
use Rattle.sc_guide.specs.Guided.{lengths_of}
use Rattle.sc_core.specs.State.{look_told, looks_led, AreLengthsIn}

-- ---- fronts

-- the numbers are lengths of fronts of the lists
abbrev pub AreLengths : List ℕ → Seen → Type 0
AreLengths ns seen = AllZip (λ (n : ℕ) (versions : List ClaimedStructure). n ≤ length versions) ns seen

-- fronts as long as the lists are the lists
pub whole_look : (seen : Seen) → prefixes (lengths_of seen) seen ≡ seen
whole_look [] = refl
whole_look (versions ∷ seen) =
    let first : take (length versions) versions ≡ versions = take_all (length versions) versions (omega arith) in
    let rest = whole_look seen in
    λ i. first i ∷ rest i

pub all_lengths : (seen : Seen) → AreLengths (lengths_of seen) seen
all_lengths [] = tt
all_lengths (versions ∷ seen) = (omega arith, all_lengths seen)

-- no more than there are
pub no_more : (ns : List ℕ) (seen : Seen) → AreLengths ns seen → AllZip (λ (m n : ℕ). m ≤ n) ns (lengths_of seen)
no_more [] [] h = tt
no_more [] (versions ∷ seen) h = absurd h
no_more (n ∷ ns) [] h = absurd h
no_more (n ∷ ns) (versions ∷ seen) h = (h.0, no_more ns seen h.1)

-- what holds of each element holds of that at a place
pub at_place : {X : Type 0} (P : X → Type 0) (xs : List X) → AllByRecursion P xs → (k : ℕ) (d : X) → k < length xs → P (get_or xs k d)
at_place P [] h k d less = absurd (omega arith)
at_place P (x ∷ xs) h zero d less = h.0
at_place P (x ∷ xs) h (suc k) d less = at_place P xs h.1 k d (omega arith)

-- ---- where more is seen

-- fronts stay what they were
prefixes_same : (ns : List ℕ) (seen other : Seen) → IsFrontOf other seen → AreLengths ns seen → prefixes ns other ≡ prefixes ns seen
prefixes_same [] seen other f h = refl
prefixes_same (n ∷ ns) [] other f h = absurd h
prefixes_same (n ∷ ns) (list ∷ seen) [] f h = absurd f
prefixes_same (n ∷ ns) (list ∷ seen) (more ∷ other) f h =
    let first : take n more ≡ take n list = ap (take n) (sym f.0.1) ∙ take-append-le n list f.0.0 h.0 in
    let rest = prefixes_same ns seen other f.1 h.1 in
    λ i. first i ∷ rest i

lengths_stay : (ns : List ℕ) (seen other : Seen) → IsFrontOf other seen → AreLengths ns seen → AreLengths ns other
lengths_stay [] [] [] f h = tt
lengths_stay [] [] (more ∷ other) f h = absurd f
lengths_stay [] (list ∷ seen) other f h = absurd h
lengths_stay (n ∷ ns) [] other f h = absurd h
lengths_stay (n ∷ ns) (list ∷ seen) [] f h = absurd f
lengths_stay (n ∷ ns) (list ∷ seen) (more ∷ other) f h =
    let long = ap (λ (vs : List ClaimedStructure). length vs) f.0.1 in
    let sum = length-append list f.0.0 in
    let first = h.0 in
    (omega (arith, long, sum, first), lengths_stay ns seen other f.1 h.1)

-- a look at nothing
abbrev empties : Seen → Seen
empties lists = map (λ versions. []) lists

same_empties : (seen other : Seen) → IsFrontOf other seen → empties other ≡ empties seen
same_empties [] [] f = refl
same_empties [] (more ∷ other) f = absurd f
same_empties (list ∷ seen) [] f = absurd f
same_empties (list ∷ seen) (more ∷ other) f = ap (λ (lists : Seen). [] ∷ lists) (same_empties seen other f.1)

module _ (seen other : Seen) (front : IsFrontOf other seen) where
  pub told_stay : (rows : List GivenRow) → AllByRecursion (AreLengthsIn seen) rows → AllByRecursion (AreLengthsIn other) rows
  told_stay [] h = tt
  told_stay (row ∷ rows) h = (lengths_stay row.lengths seen other front h.0, told_stay rows h.1)

  same_looks : (rows : List GivenRow) → AllByRecursion (AreLengthsIn seen) rows → map (look_told other) rows ≡ map (look_told seen) rows
  same_looks [] h = refl
  same_looks (row ∷ rows) h =
      let first = prefixes_same row.lengths seen other front h.0 in
      let rest = same_looks rows h.1 in
      λ i. first i ∷ rest i

  same_after : (last now : Seen) → now ≡ last → (rows : List GivenRow) → AllByRecursion (AreLengthsIn seen) rows → looks_after now rows other ≡ looks_after last rows seen
  same_after last now e [] h = ap (λ (look : Seen). look ∷ []) e
  same_after last now e (row ∷ rows) h =
      let first = prefixes_same row.lengths seen other front h.0 in
      let rest = same_after (prefixes row.lengths seen) (prefixes row.lengths other) first rows h.1 in
      λ i. first i ∷ rest i

  -- the looks that led to a run stay what they were
  pub same_led : (o : Option Outcome) (rows : List GivenRow) → AllByRecursion (AreLengthsIn seen) rows → looks_led o rows other ≡ looks_led o rows seen
  same_led None rows h = same_looks rows h
  same_led (Some o) rows h = same_after (empties seen) (empties other) (same_empties seen other front) rows h

-- ---- the last look once more

-- the look that is told last, and before the first row a look at nothing
abbrev last_told : Seen → List GivenRow → Seen → Seen
last_told last [] lists = last
last_told last (row ∷ rows) lists = last_told (prefixes row.lengths lists) rows lists

after_is : (last : Seen) (rows : List GivenRow) (lists : Seen) → looks_after last rows lists ≡ map (look_told lists) rows ++ last_told last rows lists ∷ []
after_is last [] lists = refl
after_is last (row ∷ rows) lists = ap (λ (looks : List Seen). prefixes row.lengths lists ∷ looks) (after_is (prefixes row.lengths lists) rows lists)

-- where the run has ended, one look more than the rows tell led to it
pub one_more : (rows : List GivenRow) (seen : Seen) (o : Outcome) → (look : Seen) × (looks_led (Some o) rows seen ≡ map (look_told seen) rows ++ look ∷ [])
one_more rows seen o = (last_told (empties seen) rows seen, after_is (empties seen) rows seen)
