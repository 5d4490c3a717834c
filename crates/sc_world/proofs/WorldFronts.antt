-- Lists of versions, each of which begins another's.
use Rattle.std.proofs.Common.{◌≡◌, ◌∙◌, sym, ap, subst, refl, ℕ, zero, suc, ◌-◌, List, [], ◌∷◌, ◌++◌, append_assoc, length, slice_get, Option, Some, None, arith}
use Rattle.std.specs.Prelude.{slice_set, replicate}
use Rattle.std.specs.List.{AllByRecursion}
use Rattle.std.proofs.lemmas.List.{append-nil, take-append-drop}
use Rattle.std.specs.Prelude.{take, drop, map}
use Rattle.sc_term.specs.Numbering.{numbered, with_element}
use Rattle.sc_interp.specs.Versions.{ClaimedStructure}
use Rattle.sc_core_rules.specs.declared.row.GivenRow.{GivenRow}
use Rattle.sc_core_rules.specs.Selection.{Seen}
use Rattle.sc_core_rules.specs.Run.{IsPrefixOf, prefixes}
use Rattle.sc_core_rules.proofs.NumberLaws.{numbered-suc}
use Rattle.sc_core_laws.specs.TrueRows.{IsFrontOf}
use Rattle.sc_core.specs.State.{look_told, AreLengthsIn}
use Rattle.sc_core.proofs.LookLaws.{AreLengths}

-- ---- one list

pub begins_itself : {X : Type 0} (xs : List X) → IsPrefixOf xs xs
begins_itself xs = ([], append-nil xs)

pub begins_over : {X : Type 0} (xs ys zs : List X) → IsPrefixOf xs ys → IsPrefixOf ys zs → IsPrefixOf xs zs
begins_over {X} xs ys zs h k = (h.0 ++ k.0, sym (append_assoc xs h.0 k.0) ∙ ap (λ (all : List X). all ++ k.0) h.1 ∙ k.1)

pub front_of : {X : Type 0} (n : ℕ) (xs : List X) → IsPrefixOf (take n xs) xs
front_of n xs = (drop n xs, take-append-drop n xs)

-- ---- lists

pub same_front : (lists : Seen) → IsFrontOf lists lists
same_front [] = tt
same_front (list ∷ lists) = (begins_itself list, same_front lists)

pub front_over : (look seen published : Seen) → IsFrontOf seen look → IsFrontOf published seen → IsFrontOf published look
front_over [] [] published h k = k
front_over [] (list ∷ seen) published h k = absurd h
front_over (now ∷ look) [] published h k = absurd h
front_over (now ∷ look) (list ∷ seen) [] h k = absurd k
front_over (now ∷ look) (list ∷ seen) (all ∷ published) h k = (begins_over now list all h.0 k.0, front_over look seen published h.1 k.1)

-- as many lists are seen
pub as_many : (seen published : Seen) → IsFrontOf published seen → length seen ≡ length published
as_many [] [] f = refl
as_many [] (all ∷ published) f = absurd f
as_many (list ∷ seen) [] f = absurd f
as_many (list ∷ seen) (all ∷ published) f = let rest = as_many seen published f.1 in omega (arith, rest)

pub nothing_front : (lists : ℕ) → IsFrontOf (replicate lists []) (replicate lists [])
nothing_front lists = same_front (replicate lists [])

none_there : (versions : List ClaimedStructure) → {B : Type 0} → ◌≡◌ {A = Option (List ClaimedStructure)} None (Some versions) → B
none_there versions {B} e = absurd cc

-- ---- one list changed, by its place from 0

-- the list of the published ones that the seen one begins
front_at : (seen published : Seen) (k : ℕ) (versions : List ClaimedStructure) → IsFrontOf published seen → slice_get published k ≡ Some versions
    → (before : List ClaimedStructure) × (slice_get seen k ≡ Some before) × IsPrefixOf before versions
front_at [] [] k versions f e = none_there versions e
front_at [] (all ∷ published) k versions f e = absurd f
front_at (list ∷ seen) [] k versions f e = absurd f
front_at (list ∷ seen) (all ∷ published) zero versions f e =
    let some : Some all ≡ Some versions = e in
    let same : all ≡ versions = cc in
    (list, refl, subst (IsPrefixOf list) same f.0)
front_at (list ∷ seen) (all ∷ published) (suc k) versions f e = front_at seen published k versions f.1 e

-- a published list grows
set_published : (seen published : Seen) (k : ℕ) (versions more : List ClaimedStructure) → IsFrontOf published seen → slice_get published k ≡ Some versions → IsPrefixOf versions more
    → IsFrontOf (slice_set published k more) seen
set_published [] [] k versions more f e h = none_there versions e
set_published [] (all ∷ published) k versions more f e h = absurd f
set_published (list ∷ seen) [] k versions more f e h = absurd f
set_published (list ∷ seen) (all ∷ published) zero versions more f e h =
    let some : Some all ≡ Some versions = e in
    let same : all ≡ versions = cc in
    (begins_over list versions more (subst (IsPrefixOf list) same f.0) h, f.1)
set_published (list ∷ seen) (all ∷ published) (suc k) versions more f e h = (f.0, set_published seen published k versions more f.1 e h)

-- a seen list becomes a front of its published one
set_seen : (seen published : Seen) (k : ℕ) (versions now : List ClaimedStructure) → IsFrontOf published seen → slice_get published k ≡ Some versions → IsPrefixOf now versions
    → IsFrontOf published (slice_set seen k now)
set_seen [] [] k versions now f e h = none_there versions e
set_seen [] (all ∷ published) k versions now f e h = absurd f
set_seen (list ∷ seen) [] k versions now f e h = absurd f
set_seen (list ∷ seen) (all ∷ published) zero versions now f e h =
    let some : Some all ≡ Some versions = e in
    let same : all ≡ versions = cc in
    (subst (IsPrefixOf now) (sym same) h, f.1)
set_seen (list ∷ seen) (all ∷ published) (suc k) versions now f e h = (f.0, set_seen seen published k versions now f.1 e h)

-- ---- the same by the number of the finder, from 1

less_one : (i : ℕ) → i ≡ suc i - 1
less_one i = omega arith

pub numbered_front : (seen published : Seen) (n : ℕ) (versions : List ClaimedStructure) → IsFrontOf published seen → numbered published n ≡ Some versions
    → (before : List ClaimedStructure) × (numbered seen n ≡ Some before) × IsPrefixOf before versions
numbered_front seen published zero versions f e = none_there versions e
numbered_front seen published (suc i) versions f e =
    let is = front_at seen published i versions f (sym (numbered-suc published i) ∙ e) in
    (is.0, numbered-suc seen i ∙ is.1, is.2)

pub grow_published : (seen published : Seen) (n : ℕ) (versions more : List ClaimedStructure) → IsFrontOf published seen → numbered published n ≡ Some versions → IsPrefixOf versions more
    → IsFrontOf (with_element published n more) seen
grow_published seen published zero versions more f e h = none_there versions e
grow_published seen published (suc i) versions more f e h =
    subst (λ (k : ℕ). IsFrontOf (slice_set published k more) seen) (less_one i)
    (set_published seen published i versions more f (sym (numbered-suc published i) ∙ e) h)

pub grow_seen : (seen published : Seen) (n : ℕ) (versions now : List ClaimedStructure) → IsFrontOf published seen → numbered published n ≡ Some versions → IsPrefixOf now versions
    → IsFrontOf published (with_element seen n now)
grow_seen seen published zero versions now f e h = none_there versions e
grow_seen seen published (suc i) versions now f e h =
    subst (λ (k : ℕ). IsFrontOf published (slice_set seen k now)) (less_one i)
    (set_seen seen published i versions now f (sym (numbered-suc published i) ∙ e) h)

-- a list that grows was a front
pub grown_from : (lists : Seen) (n : ℕ) (versions more : List ClaimedStructure) → numbered lists n ≡ Some versions → IsPrefixOf versions more → IsFrontOf (with_element lists n more) lists
grown_from lists n versions more e h = grow_published lists lists n versions more (same_front lists) e h

-- ---- the looks that rows tell

fronts : (ns : List ℕ) (lists : Seen) → AreLengths ns lists → IsFrontOf lists (prefixes ns lists)
fronts [] [] h = tt
fronts [] (list ∷ lists) h = absurd h
fronts (n ∷ ns) [] h = absurd h
fronts (n ∷ ns) (list ∷ lists) h = (front_of n list, fronts ns lists h.1)

pub looks_front : (lists : Seen) (rows : List GivenRow) → AllByRecursion (AreLengthsIn lists) rows → AllByRecursion (IsFrontOf lists) (map (look_told lists) rows)
looks_front lists [] h = tt
looks_front lists (row ∷ rows) h = (fronts row.lengths lists h.0, looks_front lists rows h.1)
