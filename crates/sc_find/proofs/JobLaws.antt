-- What a job keeps, read for its task.
use Rattle.std.proofs.Common.{◌≡◌, ◌∙◌, sym, ap, subst, refl, ℕ, ◌-◌, ◌<◌, ◌≤◌, inl, inr, List, [], ◌∷◌, length, map, slice_get, get_or, option_map, Option, Some, None, arith}
use Rattle.std.specs.Option.{IsSomeAnd}
use Rattle.std.specs.List.{All}
use Rattle.std.proofs.lemmas.List.{length-map}
use Rattle.std.proofs.lemmas.List.Elements.{All-map}
use Rattle.std.proofs.lemmas.Option.{slice_get-map, slice_get_within}
use Rattle.sc_term.specs.declared.symbol.Symbol.{Symbol}
use Rattle.sc_cells.specs.declared.cells.Cell.{Cell}
use Rattle.sc_cells.specs.declared.instances.GroundInstance.{GroundInstance}
use Rattle.sc_cells.specs.Cells.{Entry, IsCell, AreCells, cell_at, cell_numbers, values_below}
use Rattle.sc_find.specs.Models.{Task, IsPiece}
use Rattle.sc_find.specs.Prepared.{IsPrepared}
use Rattle.sc_find.proofs.OneLaws.{one_order}

pub one_list : (sig : List Symbol) (size : ℕ) (xs ys : List Entry) → AreCells sig size xs → AreCells sig size ys → xs ≡ ys
one_list sig size xs ys h k = one_order cell_numbers (IsCell sig size) xs ys h k

there : {A : Type 0} (P : A → Type 0) (o : Option A) → IsSomeAnd o P → (x : A) × (o ≡ Some x) × P x
there P None h = absurd h
there P (Some x) h = (x, refl, h)

pub symbols_there : (sig : List Symbol) (size : ℕ) (entries : List Entry) → AreCells sig size entries → All (λ (cell : Cell). cell.sym.0 < length sig) (map (cell_at size) entries)
symbols_there sig size entries h = All-map (λ (cell : Cell). cell.sym.0 < length sig) (cell_at size) entries (λ k d lt.
    let is = h.only k d lt in
    let s = there (λ (s : Symbol). length (get_or entries k d).indices ≡ s.arity) (slice_get sig (get_or entries k d).symbol) is.1 in
    slice_get_within sig (get_or entries k d).symbol s.0 s.1)

pub cell_there : (size : ℕ) (entries : List Entry) (k : ℕ) (entry : Entry) → slice_get entries k ≡ Some entry → slice_get (map (cell_at size) entries) k ≡ Some (cell_at size entry)
cell_there size entries k entry at = slice_get-map (cell_at size) entries k ∙ ap (option_map (cell_at size)) at

pub entry_there : (size : ℕ) (entries : List Entry) (k : ℕ) (cell : Cell) → slice_get (map (cell_at size) entries) k ≡ Some cell → (entry : Entry) × (slice_get entries k ≡ Some entry) × (cell ≡ cell_at size entry)
entry_there size entries k cell at = by (slice_get entries k) (sym (slice_get-map (cell_at size) entries k) ∙ at)
  where
    by : (o : Option Entry) → option_map (cell_at size) o ≡ Some cell → (entry : Entry) × (o ≡ Some entry) × (cell ≡ cell_at size entry)
    by None e = let none : ◌≡◌ {A = Option Cell} None (Some cell) = e in absurd cc
    by (Some entry) e = let same : ◌≡◌ {A = Option Cell} (Some (cell_at size entry)) (Some cell) = e in (entry, refl, out (cell_at size entry) cell same)
      where
        out : (a b : Cell) → ◌≡◌ {A = Option Cell} (Some a) (Some b) → b ≡ a
        out a b e = cc

module _ (task : Task) (cells : List Cell) (instances : List GroundInstance) (job : IsPrepared task cells instances) where
  pub symbols_within : All (λ (cell : Cell). cell.sym.0 < length task.sig) cells
  symbols_within = subst (All (λ (cell : Cell). cell.sym.0 < length task.sig)) (sym job.listed) (symbols_there task.sig task.size job.entries job.are_cells)

  pub same_entries : (entries : List Entry) → AreCells task.sig task.size entries → job.entries ≡ entries
  same_entries entries h = one_list task.sig task.size job.entries entries job.are_cells h

  pub as_many : (entries : List Entry) → AreCells task.sig task.size entries → length cells ≡ length entries
  as_many entries h = ap length job.listed ∙ length-map job.entries (cell_at task.size) ∙ ap length (same_entries entries h)

  pub cell_of : (entries : List Entry) (k : ℕ) (entry : Entry) → AreCells task.sig task.size entries → slice_get entries k ≡ Some entry → slice_get cells k ≡ Some (cell_at task.size entry)
  cell_of entries k entry h at =
      ap (λ cs. slice_get cs k) job.listed ∙ cell_there task.size job.entries k entry (ap (λ es. slice_get es k) (same_entries entries h) ∙ at)

  -- ---- pieces

  no_entries : cells ≡ [] → job.entries ≡ []
  no_entries e = by job.entries (sym job.listed ∙ e)
    where
      by : (entries : List Entry) → map (cell_at task.size) entries ≡ [] → entries ≡ []
      by [] h = refl
      by (entry ∷ entries) h = let wrong : ◌≡◌ {A = List Cell} (cell_at task.size entry ∷ map (cell_at task.size) entries) [] = h in absurd cc

  pub one_piece : cells ≡ [] → (p : ℕ) → 1 ≤ p → p ≤ 1 → (value : Option ℕ) × IsPiece task p value
  one_piece e p least most = (None, (job.entries, job.are_cells, inl (no_entries e, omega (arith, least, most), refl)))

  pub no_more_pieces : cells ≡ [] → (p : ℕ) (value : Option ℕ) → IsPiece task p value → (1 ≤ p) × (p ≤ 1)
  no_more_pieces e p value is = elim is.2 [
    | inl one ↦ (omega (arith, one.1), omega (arith, one.1))
    | inr more ↦
        let wrong : ◌≡◌ {A = List Entry} [] (more.1 ∷ more.2) = sym (no_entries e) ∙ same_entries is.0 is.1 ∙ more.3 in
        absurd cc
  ]

  some_entries : ¬ (cells ≡ []) → (first : Entry) × (rest : List Entry) × (job.entries ≡ first ∷ rest)
  some_entries h = by job.entries job.listed
    where
      by : (entries : List Entry) → cells ≡ map (cell_at task.size) entries → (first : Entry) × (rest : List Entry) × (entries ≡ first ∷ rest)
      by [] e = absurd (h e)
      by (first ∷ rest) e = (first, rest, refl)

  pub some_cell : ¬ (cells ≡ []) → (entries : List Entry) × AreCells task.sig task.size entries × (0 < length entries)
  some_cell h = let some = some_entries h in (job.entries, job.are_cells, (let long : length job.entries ≡ length (some.0 ∷ some.1) = ap length some.2 in omega (arith, long)))

  -- how many values cell 0 has
  abbrev IsCount : ℕ → Type 0
  IsCount count = (entries : List Entry) (cell : Entry) → AreCells task.sig task.size entries → slice_get entries 0 ≡ Some cell → count ≡ values_below task.sig task.size cell

  pub each_piece : ¬ (cells ≡ []) → (count : ℕ) → IsCount count → (p : ℕ) → 1 ≤ p → p ≤ count → (value : Option ℕ) × IsPiece task p value
  each_piece h count is p least most =
      let some = some_entries h in
      let counted = is job.entries some.0 job.are_cells (ap (λ es. slice_get es 0) some.2) in
      (Some (p - 1), (job.entries, job.are_cells, inr (p - 1, some.0, some.1, some.2, omega (arith, counted, most, least), omega (arith, least), refl)))

  pub pieces_counted : ¬ (cells ≡ []) → (count : ℕ) → IsCount count → (p : ℕ) (value : Option ℕ) → IsPiece task p value → (1 ≤ p) × (p ≤ count)
  pieces_counted h count is p value piece = elim piece.2 [
    | inl one ↦
        let some = some_entries h in
        let wrong : ◌≡◌ {A = List Entry} (some.0 ∷ some.1) [] = sym some.2 ∙ same_entries piece.0 piece.1 ∙ one.0 in
        absurd cc
    | inr more ↦
        let counted = is piece.0 more.1 piece.1 (ap (λ es. slice_get es 0) more.3) in
        (omega (arith, more.5), omega (arith, more.4, more.5, counted))
  ]
