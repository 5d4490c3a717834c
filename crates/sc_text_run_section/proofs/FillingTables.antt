-- Tables filled entry by entry and table by table.
use Rattle.std.proofs.Common.{◌≡◌, ◌∙◌, sym, ap, subst, refl, ℕ, zero, suc, ◌+◌, ◌-◌, ◌<◌, List, [], ◌∷◌, ◌++◌, Option, Some, None, IsSomeAnd, length, take, drop, map, get_or, slice_get, slice_set, arith}
use Rattle.sc_term.specs.declared.SymId.{SymId}
use Rattle.sc_term.specs.Numbering.{numbered}
use Rattle.sc_steps.proofs.ListLaws.{at_number}
use Rattle.sc_steps.proofs.LineLaws.{number_at, some_so}
use Rattle.sc_interp.specs.Structure.{Structure, values_below, with_entry, with_entry_in, HasPlace, MayHold}
use Rattle.sc_interp.specs.declared.table.Table.{Table}
use Rattle.sc_text_run_section.specs.Filling.{MayFill, MayFillAll, filled_up_to, with_first, with_entries, filled}

-- ---- several tables

pub filled_none : (ts : List Table) → filled ts [] ≡ ts
filled_none [] = refl
filled_none (t ∷ ts) = refl

get_filled : (ts : List Table) (rows : List (List ℕ)) (i : ℕ) → slice_get (filled ts (take i rows)) i ≡ slice_get ts i
get_filled [] rows i = refl
get_filled (t ∷ ts) [] zero = refl
get_filled (t ∷ ts) [] (suc i) = refl
get_filled (t ∷ ts) (es ∷ rows) zero = refl
get_filled (t ∷ ts) (es ∷ rows) (suc i) = get_filled ts rows i

set_filled : (ts : List Table) (rows : List (List ℕ)) (i : ℕ) (table : Table) (es : List ℕ) → slice_get ts i ≡ Some table → slice_get rows i ≡ Some es
    → slice_set (filled ts (take i rows)) i (record table { entries = es }) ≡ filled ts (take (suc i) rows)
set_filled [] rows i table es at row = absurd cc
set_filled (t ∷ ts) [] i table es at row = absurd cc
set_filled (t ∷ ts) (r ∷ rows) zero table es at row =
    let same : t ≡ table = cc in
    let is : r ≡ es = cc in
    sym (λ j. record (same j) { entries = is j } ∷ filled_none ts j)
set_filled (t ∷ ts) (r ∷ rows) (suc i) table es at row = ap (λ (later : List Table). record t { entries = r } ∷ later) (set_filled ts rows i table es at row)

pub entries_filled : (size : ℕ) (ts : List Table) (rows : List (List ℕ)) → MayFillAll size ts rows → map (λ (t : Table). t.entries) (filled ts rows) ≡ rows
entries_filled size [] [] h = refl
entries_filled size [] (es ∷ rows) h = absurd h
entries_filled size (t ∷ ts) [] h = absurd h
entries_filled size (t ∷ ts) (es ∷ rows) h = ap (λ (later : List (List ℕ)). es ∷ later) (entries_filled size ts rows h.1)

-- ---- one table

set_twice : (ts : List Table) (i : ℕ) (x y : Table) → slice_set (slice_set ts i x) i y ≡ slice_set ts i y
set_twice [] i x y = refl
set_twice (t ∷ ts) zero x y = refl
set_twice (t ∷ ts) (suc i) x y = ap (λ (later : List Table). t ∷ later) (set_twice ts i x y)

set_same : (ts : List Table) (i : ℕ) (table : Table) → slice_get ts i ≡ Some table → slice_set ts i table ≡ ts
set_same [] i table e = refl
set_same (t ∷ ts) zero table e = let same : t ≡ table = cc in ap (λ (x : Table). x ∷ ts) (sym same)
set_same (t ∷ ts) (suc i) table e = ap (λ (later : List Table). t ∷ later) (set_same ts i table e)

get_set : (ts : List Table) (i : ℕ) (old new : Table) → slice_get ts i ≡ Some old → slice_get (slice_set ts i new) i ≡ Some new
get_set [] i old new e = absurd cc
get_set (t ∷ ts) zero old new e = refl
get_set (t ∷ ts) (suc i) old new e = get_set ts i old new e

-- another table at a number in the list
numbered_set : (ts : List Table) (n : ℕ) (old new : Table) → numbered ts n ≡ Some old → numbered (slice_set ts (n - 1) new) n ≡ Some new
numbered_set ts n old new e =
    let at = at_number ts n old e in
    number_at (slice_set ts (n - 1) new) n new at.0 (get_set ts (n - 1) old new at.1)

-- one entry more at the first places
one_entry : (new old : List ℕ) (i : ℕ) → i < length new → length new ≡ length old → slice_set (take i new ++ drop i old) i (get_or new i 0) ≡ take (suc i) new ++ drop (suc i) old
one_entry [] old i lt e = absurd (omega (arith, lt))
one_entry (n ∷ ns) [] i lt e = absurd (omega (arith, e))
one_entry (n ∷ ns) (o ∷ os) zero lt e = refl
one_entry (n ∷ ns) (o ∷ os) (suc i) lt e = ap (λ (later : List ℕ). n ∷ later) (one_entry ns os i (omega (arith, lt)) (omega (arith, e)))

same_length : (new old : List ℕ) (i : ℕ) → length new ≡ length old → length (take i new ++ drop i old) ≡ length old
same_length new old zero e = refl
same_length [] [] (suc i) e = refl
same_length [] (o ∷ os) (suc i) e = absurd (omega (arith, e))
same_length (n ∷ ns) [] (suc i) e = absurd (omega (arith, e))
same_length (n ∷ ns) (o ∷ os) (suc i) e = ap suc (same_length ns os i (omega (arith, e)))

all_new : (new old : List ℕ) → length new ≡ length old → take (length new) new ++ drop (length new) old ≡ new
all_new [] [] e = refl
all_new [] (o ∷ os) e = absurd (omega (arith, e))
all_new (n ∷ ns) [] e = absurd (omega (arith, e))
all_new (n ∷ ns) (o ∷ os) e = ap (λ (later : List ℕ). n ∷ later) (all_new ns os (omega (arith, e)))

-- the symbol's table while it is filled
module _ (t : Structure) (s : SymId) (entries : List ℕ) where
  abbrev Filling : Option Table → Type 0
  Filling o = IsSomeAnd o (λ table. MayFill t.size table entries)

  abbrev now_at : Option Table → ℕ → Structure
  now_at o i = with_first o t s i entries

  none_yet : (o : Option Table) → numbered t.tables s.0 ≡ o → Filling o → t ≡ now_at o 0
  none_yet None at h = refl
  none_yet (Some table) at h = ap (λ (ts : List Table). record t { tables = ts }) (sym (set_same t.tables (s.0 - 1) table (at_number t.tables s.0 table at).1))

  pub at_first : Filling (numbered t.tables s.0) → t ≡ now_at (numbered t.tables s.0) 0
  at_first h = none_yet (numbered t.tables s.0) refl h

  holds : (table : Table) (now : Structure) (i : ℕ) → numbered t.tables s.0 ≡ Some table → now ≡ now_at (Some table) i → numbered now.tables s.0 ≡ Some (filled_up_to i table entries)
  holds table now i at is = ap (λ (u : Structure). numbered u.tables s.0) is ∙ numbered_set t.tables s.0 table (filled_up_to i table entries) at

  has_place : (o : Option Table) (now : Structure) (i : ℕ) → numbered t.tables s.0 ≡ o → Filling o → i < length entries → now ≡ now_at o i → HasPlace now s i
  has_place None now i at h lt is = absurd h
  has_place (Some table) now i at h lt is =
      some_so (numbered now.tables s.0) (λ (x : Table). i < length x.entries) (filled_up_to i table entries) (holds table now i at is)
      (omega (arith, lt, h.many, same_length entries table.entries i h.many))

  pub place_there : (now : Structure) (i : ℕ) → Filling (numbered t.tables s.0) → i < length entries → now ≡ now_at (numbered t.tables s.0) i → HasPlace now s i
  place_there now i h lt is = has_place (numbered t.tables s.0) now i refl h lt is

  may_hold : (o : Option Table) (now : Structure) (i e : ℕ) → numbered t.tables s.0 ≡ o → Filling o → i < length entries → e ≡ get_or entries i 0 → now ≡ now_at o i → MayHold now s e
  may_hold None now i e at h lt v is = absurd h
  may_hold (Some table) now i e at h lt v is =
      some_so (numbered now.tables s.0) (λ (x : Table). e < values_below x.role now.size) (filled_up_to i table entries) (holds table now i at is)
      (subst (λ (k : ℕ). k < values_below table.role now.size) (sym v) (subst (λ (k : ℕ). get_or entries i 0 < values_below table.role k) (sym (ap (λ (u : Structure). u.size) is)) (h.below i 0 lt)))

  pub value_there : (now : Structure) (i e : ℕ) → Filling (numbered t.tables s.0) → i < length entries → e ≡ get_or entries i 0 → now ≡ now_at (numbered t.tables s.0) i → MayHold now s e
  value_there now i e h lt v is = may_hold (numbered t.tables s.0) now i e refl h lt v is

  one_more : (o : Option Table) (now new : Structure) (i e : ℕ) → numbered t.tables s.0 ≡ o → Filling o → i < length entries → e ≡ get_or entries i 0 → now ≡ now_at o i → new ≡ with_entry now s i e → new ≡ now_at o (suc i)
  one_more None now new i e at h lt v is to = absurd h
  one_more (Some table) now new i e at h lt v is to =
      let k = s.0 - 1 in
      let x = filled_up_to i table entries in
      let set = slice_set t.tables k x in
      let put : ℕ → Table = λ e. record x { entries = slice_set x.entries i e } in
      to ∙ ap (λ (u : Structure). with_entry u s i e) is
      ∙ ap (λ (o : Option Table). record t { tables = with_entry_in set k o i e }) (numbered_set t.tables s.0 table x at)
      ∙ ap (λ (e : ℕ). record t { tables = slice_set set k (put e) }) v
      ∙ ap (λ (ts : List Table). record t { tables = ts }) (set_twice t.tables k x (put (get_or entries i 0)))
      ∙ ap (λ (es : List ℕ). record t { tables = slice_set t.tables k (record table { entries = es }) }) (one_entry entries table.entries i lt h.many)

  pub entry_more : (now new : Structure) (i e : ℕ) → Filling (numbered t.tables s.0) → i < length entries → e ≡ get_or entries i 0 → now ≡ now_at (numbered t.tables s.0) i → new ≡ with_entry now s i e
      → new ≡ now_at (numbered t.tables s.0) (i + 1)
  entry_more now new i e h lt v is to =
      let next : suc i ≡ i + 1 = omega arith in
      one_more (numbered t.tables s.0) now new i e refl h lt v is to ∙ ap (now_at (numbered t.tables s.0)) next

-- ---- the tables while they are filled

record TableAt (size : ℕ) (ts : List Table) (i : ℕ) (row : List ℕ) : Type 0 where
  pub table : Table
  pub here : slice_get ts i ≡ Some table
  pub may : MayFill size table row

table_at : (size : ℕ) (ts : List Table) (rows : List (List ℕ)) (i : ℕ) (row : List ℕ) → MayFillAll size ts rows → slice_get rows i ≡ Some row → TableAt size ts i row
table_at size [] [] i row h e = absurd cc
table_at size [] (r ∷ rows) i row h e = absurd h
table_at size (t ∷ ts) [] i row h e = absurd h
table_at size (t ∷ ts) (r ∷ rows) zero row h e = let is : r ≡ row = cc in record { table = t; here = refl; may = subst (MayFill size t) is h.0 }
table_at size (t ∷ ts) (r ∷ rows) (suc i) row h e = let at = table_at size ts rows i row h.1 e in record { table = at.table; here = at.here; may = at.may }

module _ (t now : Structure) (rows : List (List ℕ)) (i : ℕ) (row : List ℕ) (h : MayFillAll t.size t.tables rows) (here : slice_get rows i ≡ Some row) (is : now ≡ record t { tables = filled t.tables (take i rows) }) where
  at : TableAt t.size t.tables i row
  at = table_at t.size t.tables rows i row h here

  back : i + 1 - 1 ≡ i
  back = omega arith

  still_there : numbered now.tables (i + 1) ≡ Some at.table
  still_there =
      ap (λ (u : Structure). numbered u.tables (i + 1)) is
      ∙ number_at (filled t.tables (take i rows)) (i + 1) at.table (omega arith) (ap (slice_get (filled t.tables (take i rows))) back ∙ get_filled t.tables rows i ∙ at.here)

  pub row_there : IsSomeAnd (numbered now.tables (i + 1)) (λ table. MayFill now.size table row)
  row_there =
      some_so (numbered now.tables (i + 1)) (λ (table : Table). MayFill now.size table row) at.table still_there
      (subst (λ (k : ℕ). MayFill k at.table row) (sym (ap (λ (u : Structure). u.size) is)) at.may)

  pub row_more : (new : Structure) → new ≡ with_entries now (record { 0 = i + 1 }) row → new ≡ record t { tables = filled t.tables (take (i + 1) rows) }
  row_more new to =
      let next : suc i ≡ i + 1 = omega arith in
      let full : Table = record at.table { entries = row } in
      to
      ∙ ap (λ (o : Option Table). with_first o now (record { 0 = i + 1 }) (length row) row) still_there
      ∙ ap (λ (es : List ℕ). record now { tables = slice_set now.tables (i + 1 - 1) (record at.table { entries = es }) }) (all_new row at.table.entries at.may.many)
      ∙ ap (λ (k : ℕ). record now { tables = slice_set now.tables k full }) back
      ∙ ap (λ (u : Structure). record u { tables = slice_set u.tables i full }) is
      ∙ ap (λ (ts : List Table). record t { tables = ts }) (set_filled t.tables rows i at.table row at.here here)
      ∙ ap (λ (k : ℕ). record t { tables = filled t.tables (take k rows) }) next
