-- The looks that given rows tell are fronts of the lists, and never shrink.
use Rattle.std.proofs.Common.{◌≡◌, ap, refl, ℕ, zero, suc, ◌≤◌, List, [], ◌∷◌, length, map, take, drop, arith}
use Rattle.std.specs.List.{All, AllZip, AllPairs, AllByRecursion}
use Rattle.std.proofs.lemmas.List.{append-nil, take-append-drop}
use Rattle.std.proofs.lemmas.List.Elements.{All-nil, All-from_recursion}
use Rattle.std.proofs.lemmas.List.Kept.{AllPairs-cons}
use Rattle.sc_interp.specs.Versions.{ClaimedStructure}
use Rattle.sc_core_rules.specs.declared.row.GivenRow.{GivenRow}
use Rattle.sc_core_rules.specs.Selection.{Seen}
use Rattle.sc_core_rules.specs.Run.{IsPrefixOf, Grow, prefixes, looks_after, looks_of}
use Rattle.sc_core_laws.specs.TrueRows.{IsFrontOf}
use Rattle.sc_core.specs.State.{AreLengthsIn, SeesNoFewer}

-- ---- pairs of a list

first_pairs : {X : Type 0} (R : X → X → Type 0) (x : X) (xs : List X) → AllPairs R (x ∷ xs) → All (R x) xs
first_pairs R x xs h k d less = h zero (suc k) d (omega arith) (omega (arith, less))

other_pairs : {X : Type 0} (R : X → X → Type 0) (x : X) (xs : List X) → AllPairs R (x ∷ xs) → AllPairs R xs
other_pairs R x xs h i j d low within = h (suc i) (suc j) d (omega (arith, low)) (omega (arith, within))

-- ---- fronts of lists

front_of : {X : Type 0} (n : ℕ) (xs : List X) → IsPrefixOf (take n xs) xs
front_of n xs = (drop n xs, take-append-drop n xs)

longer : {X : Type 0} (m n : ℕ) (xs : List X) → m ≤ n → IsPrefixOf (take m xs) (take n xs)
longer zero n xs h = (take n xs, refl)
longer (suc m) zero xs h = absurd (omega (arith, h))
longer (suc m) (suc n) [] h = ([], refl)
longer {X} (suc m) (suc n) (x ∷ xs) h =
    let rest : IsPrefixOf (take m xs) (take n xs) = longer m n xs (omega (arith, h)) in
    (rest.0, ap (λ (ys : List X). x ∷ ys) rest.1)

-- the numbers are lengths of fronts of the lists, one each
abbrev AreLengths : List ℕ → Seen → Type 0
AreLengths ns seen = AllZip (λ (n : ℕ) (versions : List ClaimedStructure). n ≤ length versions) ns seen

fronts : (ns : List ℕ) (seen : Seen) → AreLengths ns seen → IsFrontOf seen (prefixes ns seen)
fronts [] [] h = tt
fronts [] (list ∷ seen) h = absurd h
fronts (n ∷ ns) [] h = absurd h
fronts (n ∷ ns) (list ∷ seen) h = (front_of n list, fronts ns seen h.1)

as_many : (ns : List ℕ) (seen : Seen) → AreLengths ns seen → length ns ≡ length seen
as_many [] [] h = refl
as_many [] (list ∷ seen) h = absurd h
as_many (n ∷ ns) [] h = absurd h
as_many (n ∷ ns) (list ∷ seen) h = let rest : length ns ≡ length seen = as_many ns seen h.1 in omega (arith, rest)

-- each list of the one look begins that of the other
abbrev Before : Seen → Seen → Type 0
Before earlier later = AllZip IsPrefixOf earlier later

before_longer : (ms ns : List ℕ) (seen : Seen) → AllZip (λ (m n : ℕ). m ≤ n) ms ns → Before (prefixes ms seen) (prefixes ns seen)
before_longer [] [] seen h = tt
before_longer [] (n ∷ ns) seen h = absurd h
before_longer (m ∷ ms) [] seen h = absurd h
before_longer (m ∷ ms) (n ∷ ns) [] h = tt
before_longer (m ∷ ms) (n ∷ ns) (list ∷ seen) h = (longer m n list h.0, before_longer ms ns seen h.1)

before_itself : (look : Seen) → Before look look
before_itself [] = tt
before_itself (list ∷ look) = (([], append-nil list), before_itself look)

-- a look at nothing
abbrev empties : Seen → Seen
empties lists = map (λ versions. []) lists

front_empty : (seen : Seen) → IsFrontOf seen (empties seen)
front_empty [] = tt
front_empty (list ∷ seen) = ((list, refl), front_empty seen)

-- ---- the looks of rows

module _ (seen : Seen) where
  -- each row tells a number for each list
  pub lengths_each : (rows : List GivenRow) → AllByRecursion (AreLengthsIn seen) rows → AllByRecursion (λ (row : GivenRow). length row.lengths ≡ length seen) rows
  lengths_each [] h = tt
  lengths_each (row ∷ rows) h = (as_many row.lengths seen h.0, lengths_each rows h.1)

  fronts_after : (last : Seen) (rows : List GivenRow) → IsFrontOf seen last → AllByRecursion (AreLengthsIn seen) rows → AllByRecursion (IsFrontOf seen) (looks_after last rows seen)
  fronts_after last [] f h = (f, tt)
  fronts_after last (row ∷ rows) f h =
      let front : IsFrontOf seen (prefixes row.lengths seen) = fronts row.lengths seen h.0 in
      (front, fronts_after (prefixes row.lengths seen) rows front h.1)

  pub looks_front : (rows : List GivenRow) → AllByRecursion (AreLengthsIn seen) rows → AllByRecursion (IsFrontOf seen) (looks_of rows seen)
  looks_front rows h = fronts_after (empties seen) rows (front_empty seen) h

  all_before : (first now : Seen) (rows : List GivenRow) → Before first now → AllByRecursion (λ (row : GivenRow). Before first (prefixes row.lengths seen)) rows
      → AllByRecursion (Before first) (looks_after now rows seen)
  all_before first now [] h k = (h, tt)
  all_before first now (row ∷ rows) h k = (k.0, all_before first (prefixes row.lengths seen) rows k.0 k.1)

  rows_before : (row : GivenRow) (rows : List GivenRow) → All (SeesNoFewer row) rows
      → AllByRecursion (λ (later : GivenRow). Before (prefixes row.lengths seen) (prefixes later.lengths seen)) rows
  rows_before row [] h = tt
  rows_before row (later ∷ rows) h =
      (before_longer row.lengths later.lengths seen (h zero later (omega arith)), rows_before row rows (λ k d less. h (suc k) d (omega (arith, less))))

  grow_after : (last : Seen) (rows : List GivenRow) → AllPairs SeesNoFewer rows → Grow (looks_after last rows seen)
  grow_after last [] h = AllPairs-cons Before last [] (All-nil (Before last)) (λ i j d low within. absurd (omega (arith, low, within)))
  grow_after last (row ∷ rows) h =
      let later = rows_before row rows (first_pairs SeesNoFewer row rows h) in
      AllPairs-cons Before (prefixes row.lengths seen) (looks_after (prefixes row.lengths seen) rows seen)
      (All-from_recursion (Before (prefixes row.lengths seen)) (looks_after (prefixes row.lengths seen) rows seen)
      (all_before (prefixes row.lengths seen) (prefixes row.lengths seen) rows (before_itself (prefixes row.lengths seen)) later))
      (grow_after (prefixes row.lengths seen) rows (other_pairs SeesNoFewer row rows h))

  -- no look tells fewer versions than one before it
  pub looks_grow : (rows : List GivenRow) → AllPairs SeesNoFewer rows → Grow (looks_of rows seen)
  looks_grow rows h = grow_after (empties seen) rows h
