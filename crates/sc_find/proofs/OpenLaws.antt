-- Values that can still be made a model: fronts of them, and one value more.
use Rattle.std.proofs.Common.{◌≡◌, sym, subst, ℕ, ◌<◌, List, [], ◌∷◌, ◌++◌, length, take, slice_get, Option, Some, None, arith}
use Rattle.std.specs.List.{AllZip}
use Rattle.std.proofs.lemmas.List.{length-append, length_push}
use Rattle.sc_cells.specs.Cells.{Entry, values_below, IsConsistent}
use Rattle.sc_find.specs.Models.{Task, IsInPiece, IsOpenPrefix}
use Rattle.sc_find.proofs.PrefixLaws.{shorter_is_consistent}

zip_front : (R : Entry → ℕ → Type 0) (cells : List Entry) (xs ys : List ℕ) → AllZip R (take (length (xs ++ ys)) cells) (xs ++ ys) → AllZip R (take (length xs) cells) xs
zip_front R [] [] ys h = tt
zip_front R (cell ∷ cells) [] ys h = tt
zip_front R [] (x ∷ xs) ys h = absurd h
zip_front R (cell ∷ cells) (x ∷ xs) ys h = (h.0, zip_front R cells xs ys h.1)

zip_more : (R : Entry → ℕ → Type 0) (cells : List Entry) (xs : List ℕ) (cell : Entry) (v : ℕ) → slice_get cells (length xs) ≡ Some cell → R cell v
    → AllZip R (take (length xs) cells) xs → AllZip R (take (length (xs ++ v ∷ [])) cells) (xs ++ v ∷ [])
zip_more R [] [] cell v at r h = let e : ◌≡◌ {A = Option Entry} None (Some cell) = at in absurd cc
zip_more R (c ∷ cells) [] cell v at r h = let same : c ≡ cell = cc in (subst (λ x. R x v) (sym same) r, tt)
zip_more R [] (x ∷ xs) cell v at r h = absurd h
zip_more R (c ∷ cells) (x ∷ xs) cell v at r h = (h.0, zip_more R cells xs cell v at r h.1)

zip_last : (R : Entry → ℕ → Type 0) (cells : List Entry) (xs : List ℕ) (cell : Entry) (v : ℕ) → slice_get cells (length xs) ≡ Some cell
    → AllZip R (take (length (xs ++ v ∷ [])) cells) (xs ++ v ∷ []) → R cell v
zip_last R [] [] cell v at h = absurd h
zip_last R (c ∷ cells) [] cell v at h = let same : c ≡ cell = cc in subst (λ x. R x v) same h.0
zip_last R [] (x ∷ xs) cell v at h = absurd h
zip_last R (c ∷ cells) (x ∷ xs) cell v at h = zip_last R cells xs cell v at h.1

in_piece_front : (piece : Option ℕ) (xs ys : List ℕ) → IsInPiece piece (xs ++ ys) → IsInPiece piece xs
in_piece_front None xs ys h = tt
in_piece_front (Some v) [] ys h = tt
in_piece_front (Some v) (x ∷ xs) ys h = h

-- the value may come next: it is that of the piece, where it is the first
abbrev pub IsAllowed : Option ℕ → List ℕ → ℕ → Type 0
IsAllowed piece [] k = IsInPiece piece (k ∷ [])
IsAllowed piece (x ∷ xs) k = Unit {0}

in_piece_more : (piece : Option ℕ) (xs : List ℕ) (k : ℕ) → IsInPiece piece xs → IsAllowed piece xs k → IsInPiece piece (xs ++ k ∷ [])
in_piece_more None xs k h a = tt
in_piece_more (Some v) [] k h a = a
in_piece_more (Some v) (x ∷ xs) k h a = h

in_piece_last : (piece : Option ℕ) (xs : List ℕ) (k : ℕ) → IsInPiece piece (xs ++ k ∷ []) → IsAllowed piece xs k
in_piece_last None [] k h = tt
in_piece_last (Some v) [] k h = h
in_piece_last None (x ∷ xs) k h = tt
in_piece_last (Some v) (x ∷ xs) k h = tt

module _ (task : Task) (piece : Option ℕ) (cells : List Entry) where
  pub open_front : (xs ys : List ℕ) → IsOpenPrefix task piece cells (xs ++ ys) → IsOpenPrefix task piece cells xs
  open_front xs ys h = record {
    no_longer = omega (arith, h.no_longer, length-append xs ys);
    in_range = zip_front (λ cell v. v < values_below task.sig task.size cell) cells xs ys h.in_range;
    in_piece = in_piece_front piece xs ys h.in_piece;
    consistent = shorter_is_consistent task.clauses task.size cells xs ys h.consistent;
  }

  pub open_more : (xs : List ℕ) (cell : Entry) (k : ℕ) → IsOpenPrefix task piece cells xs → slice_get cells (length xs) ≡ Some cell → length xs < length cells
      → k < values_below task.sig task.size cell → IsAllowed piece xs k
      → IsConsistent task.clauses task.size (record { cells = cells; values = xs ++ k ∷ [] }) → IsOpenPrefix task piece cells (xs ++ k ∷ [])
  open_more xs cell k h at within below allowed consistent = record {
    no_longer = omega (arith, within, length_push xs k);
    in_range = zip_more (λ cell v. v < values_below task.sig task.size cell) cells xs cell k at below h.in_range;
    in_piece = in_piece_more piece xs k h.in_piece allowed;
    consistent = consistent;
  }

  pub open_none : IsConsistent task.clauses task.size (record { cells = cells; values = [] }) → IsOpenPrefix task piece cells []
  open_none h = record { no_longer = omega arith; in_range = by cells; in_piece = none piece; consistent = h }
    where
      by : (cells : List Entry) → AllZip (λ cell v. v < values_below task.sig task.size cell) (take 0 cells) []
      by [] = tt
      by (cell ∷ cells) = tt

      none : (piece : Option ℕ) → IsInPiece piece []
      none None = tt
      none (Some v) = tt

  pub last_below : (xs : List ℕ) (cell : Entry) (k : ℕ) → slice_get cells (length xs) ≡ Some cell → IsOpenPrefix task piece cells (xs ++ k ∷ []) → k < values_below task.sig task.size cell
  last_below xs cell k at h = zip_last (λ cell v. v < values_below task.sig task.size cell) cells xs cell k at h.in_range

  pub last_allowed : (xs : List ℕ) (k : ℕ) → IsOpenPrefix task piece cells (xs ++ k ∷ []) → IsAllowed piece xs k
  last_allowed xs k h = in_piece_last piece xs k h.in_piece
