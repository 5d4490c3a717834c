-- The steps of the search, from what its loop knows.
use Rattle.std.proofs.Common.{◌≡◌, ◌∙◌, sym, ap, subst, refl, ℕ, ◌+◌, ◌<◌, ◌≤◌, List, [], ◌∷◌, ◌++◌, length, slice_get, get_or, Option, Some, None, arith}
use Rattle.std.specs.List.{All}
use Rattle.std.proofs.lemmas.List.{length_push}
use Rattle.std.proofs.lemmas.Option.{slice_get-get_or}
use Rattle.sc_term.specs.declared.symbol.Symbol.{Symbol}
use Rattle.sc_term.specs.declared.symbol.Role.{Role}
use Rattle.sc_term.specs.declared.symbol.Role.TheVariants.{Function, Predicate}
use Rattle.sc_input_rules.specs.WellFormed.{IsOver}
use Rattle.sc_interp.specs.Structure.{values_below as entries_below}
use Rattle.sc_cells.specs.Cells.{Entry, Prefix, AreCells, IsConsistent, below_of, values_below}
use Rattle.sc_least.specs.Bound.{least_number}
use Rattle.sc_find.specs.Models.{Task, IsModel, ExceedsBudget}
use Rattle.sc_find.specs.Search.{IsFirst, end_of}
use Rattle.sc_find.proofs.LeftLaws.{left_to_try, deeper, further, back}
use Rattle.sc_find.proofs.SearchingLaws.{IsSearching, IsNext, IsTried, before_end, entered, spent, refused, undone, exhausted, full, top_below}

no_entry : Entry
no_entry = record { symbol = 0; indices = [] }

values_few : (sig : List Symbol) (size : ℕ) (cell : Entry) → size ≤ 8 → values_below sig size cell ≤ 8
values_few sig size cell small = of (slice_get sig cell.symbol)
  where
    by : (role : Role) → entries_below role size ≤ 8
    by Function = small
    by Predicate = omega arith

    of : (o : Option Symbol) → below_of size o ≤ 8
    of None = omega arith
    of (Some s) = by s.role

-- the values to try of the next cell end there
abbrev pub EndsAt : Task → Option ℕ → List Entry → List ℕ → ℕ → Type 0
EndsAt task piece cells values end = (cell : Entry) → slice_get cells (length values) ≡ Some cell
    → end ≡ end_of piece (length values) (values_below task.sig task.size cell) (least_number task.sig task.size cells values)

-- before a step
pub record IsAt (task : Task) (piece : Option ℕ) (start : List Entry) (given : Prefix) (next count number end : ℕ) : Type 0 where
  pub cells : given.cells ≡ start
  pub searching : IsSearching task piece start given.values next count
  pub are : AreCells task.sig task.size start
  pub at_number : number ≡ length given.values
  pub within : length given.values < length given.cells
  pub small : task.size ≤ 8
  pub over : All (IsOver task.sig) task.clauses
  pub end_is : EndsAt task piece start given.values end

pub consistent_so_far : (task : Task) (piece : Option ℕ) (start : List Entry) (given : Prefix) (next count : ℕ) → given.cells ≡ start
    → IsSearching task piece start given.values next count → IsConsistent task.clauses task.size given
consistent_so_far task piece start given next count cells s =
    subst (λ cs. IsConsistent task.clauses task.size (record { cells = cs; values = given.values })) (sym cells) s.search.holds.consistent

module _ (task : Task) (piece : Option ℕ) (start : List Entry) (given : Prefix) (next count number end : ℕ) (now : IsAt task piece start given next count number end) where
  cell : Entry
  cell = get_or start (length given.values) no_entry

  within_start : length given.values < length start
  within_start = omega (arith, now.within, ap length now.cells)

  at_cell : slice_get start (length given.values) ≡ Some (get_or start (length given.values) no_entry)
  at_cell = slice_get-get_or start (length given.values) no_entry within_start

  abbrev Cell : Entry
  Cell = get_or start (length given.values) no_entry

  end_there : end ≡ end_of piece (length given.values) (values_below task.sig task.size Cell) (least_number task.sig task.size start given.values)
  end_there = now.end_is Cell at_cell

  is_next : next < end → IsNext task piece start given.values next count Cell
  is_next lt = record {
    searching = now.searching;
    at = at_cell;
    within = within_start;
    few = values_few task.sig task.size Cell now.small;
    below = subst (λ e. next < e) end_there lt;
  }

  is_tried : end ≤ next → IsTried task piece start given.values next Cell
  is_tried le = record { at = at_cell; within = within_start; all = subst (λ e. e ≤ next) end_there le }

  next_small : next < end → next < 8
  next_small lt =
      let below = before_end piece (length given.values) next (values_below task.sig task.size Cell) (least_number task.sig task.size start given.values) (subst (λ e. next < e) end_there lt) in
      let few = values_few task.sig task.size Cell now.small in
      omega (arith, below, few)

  -- the prefix with the next value
  abbrev With : List Entry → Prefix
  With cells = record { cells = cells; values = given.values ++ next ∷ [] }

  from_start : IsConsistent task.clauses task.size (record { cells = given.cells; values = given.values ++ next ∷ [] }) → IsConsistent task.clauses task.size (record { cells = start; values = given.values ++ next ∷ [] })
  from_start h = subst (λ cs. IsConsistent task.clauses task.size (record { cells = cs; values = given.values ++ next ∷ [] })) now.cells h

  pub spent_at : (budget : ℕ) → next < end → count ≡ budget → IsConsistent task.clauses task.size (record { cells = given.cells; values = given.values ++ next ∷ [] }) → ExceedsBudget task piece budget
  spent_at budget lt is h = subst (ExceedsBudget task piece) is (spent task piece start given.values next count Cell now.are (is_next lt) (from_start h))

  pub entered_at : (new : Prefix) → next < end → new ≡ record { cells = given.cells; values = given.values ++ next ∷ [] } → IsConsistent task.clauses task.size (record { cells = given.cells; values = given.values ++ next ∷ [] })
      → (new.cells ≡ start) × IsSearching task piece start new.values 0 (count + 1)
  entered_at new lt is h = (
    ap (λ (p : Prefix). p.cells) is ∙ now.cells,
    subst (λ vs. IsSearching task piece start vs 0 (count + 1)) (sym (ap (λ (p : Prefix). p.values) is)) (entered task piece start given.values next count Cell (is_next lt) (from_start h)),
  )

  pub less_entered : (new : Prefix) → next < end → new ≡ record { cells = given.cells; values = given.values ++ next ∷ [] } → left_to_try 8 (length start) new.values 0 < left_to_try 8 (length start) given.values next
  less_entered new lt is = subst (λ vs. left_to_try 8 (length start) vs 0 < left_to_try 8 (length start) given.values next) (sym (ap (λ (p : Prefix). p.values) is))
      (deeper 8 (length start) given.values next within_start (next_small lt))

  pub refused_at : (new : Prefix) → next < end → new ≡ given → ¬ IsConsistent task.clauses task.size (record { cells = given.cells; values = given.values ++ next ∷ [] })
      → (new.cells ≡ start) × IsSearching task piece start new.values (next + 1) count
  refused_at new lt is h = (
    ap (λ (p : Prefix). p.cells) is ∙ now.cells,
    subst (λ vs. IsSearching task piece start vs (next + 1) count) (sym (ap (λ (p : Prefix). p.values) is))
        (refused task piece start given.values next count Cell (is_next lt)
        (λ consistent. h (subst (λ cs. IsConsistent task.clauses task.size (record { cells = cs; values = given.values ++ next ∷ [] })) (sym now.cells) consistent))),
  )

  pub less_refused : (new : Prefix) → next < end → new ≡ given → left_to_try 8 (length start) new.values (next + 1) < left_to_try 8 (length start) given.values next
  less_refused new lt is = subst (λ vs. left_to_try 8 (length start) vs (next + 1) < left_to_try 8 (length start) given.values next) (sym (ap (λ (p : Prefix). p.values) is))
      (further 8 (length start) given.values next within_start (next_small lt))

  pub exhausted_at : end ≤ next → number ≡ 0 → (values : List ℕ) → ¬ IsModel task piece start values
  exhausted_at le is values m =
      let none : given.values ≡ [] = empty given.values (sym now.at_number ∙ is) in
      exhausted task piece start next count Cell now.are now.over (subst (λ vs. IsSearching task piece start vs next count) none now.searching)
      (subst (λ vs. IsTried task piece start vs next Cell) none (is_tried le)) values m
    where
      empty : (vs : List ℕ) → length vs ≡ 0 → vs ≡ []
      empty [] e = refl
      empty (v ∷ vs) e = absurd (omega (arith, e))

  values_were : (new : Prefix) (v : ℕ) → given ≡ record { cells = new.cells; values = new.values ++ v ∷ [] } → given.values ≡ new.values ++ v ∷ []
  values_were new v is = ap (λ (p : Prefix). p.values) is

  pub top_small : (new : Prefix) (v : ℕ) → given ≡ record { cells = new.cells; values = new.values ++ v ∷ [] } → v < 8
  top_small new v is =
      let was = subst (λ vs. IsSearching task piece start vs next count) (values_were new v is) now.searching in
      let within : length new.values < length start = omega (arith, within_start, ap length (values_were new v is), length_push new.values v) in
      let below = top_below task piece start new.values v next count (get_or start (length new.values) no_entry) was (slice_get-get_or start (length new.values) no_entry within) in
      let few = values_few task.sig task.size (get_or start (length new.values) no_entry) now.small in
      omega (arith, below, few)

  pub back_at : (new : Prefix) (v : ℕ) → end ≤ next → given ≡ record { cells = new.cells; values = new.values ++ v ∷ [] }
      → (new.cells ≡ start) × IsSearching task piece start new.values (v + 1) count
  back_at new v le is = (
    sym (ap (λ (p : Prefix). p.cells) is) ∙ now.cells,
    undone task piece start new.values v next count Cell (top_small new v is) now.are now.over (subst (λ vs. IsSearching task piece start vs next count) (values_were new v is) now.searching)
        (subst (λ vs. IsTried task piece start vs next Cell) (values_were new v is) (is_tried le)),
  )

  pub less_back : (new : Prefix) (v : ℕ) → given ≡ record { cells = new.cells; values = new.values ++ v ∷ [] }
      → left_to_try 8 (length start) new.values (v + 1) < left_to_try 8 (length start) given.values next
  less_back new v is =
      let within : length new.values < length start = omega (arith, within_start, ap length (values_were new v is), length_push new.values v) in
      subst (λ vs. left_to_try 8 (length start) new.values (v + 1) < left_to_try 8 (length start) vs next) (sym (values_were new v is))
      (back 8 (length start) new.values v next within now.searching.most (top_small new v is))

pub full_at : (task : Task) (piece : Option ℕ) (start : List Entry) (given : Prefix) (next count : ℕ) → given.cells ≡ start → IsSearching task piece start given.values next count
    → length given.cells ≤ length given.values → IsFirst task piece start given
full_at task piece start given next count cells s le =
    let both = full task piece start given.values next count s (omega (arith, le, ap length cells)) in
    record { cells_kept = cells; model = both.0; least = both.1 }
