-- Rows of cells: what they are at a variable and at a symbol, and how they are made.
use Rattle.std.proofs.Common.{◌≡◌, ◌∙◌, sym, ap, subst, refl, ℕ, ◌+◌, List, [], ◌∷◌, ◌++◌, ◌-◌, map, length, slice_set, arith}
use Rattle.std.proofs.lemmas.List.{length-map, length-append, length_push}
use Rattle.sc_term.specs.declared.SymId.{SymId}
use Rattle.sc_term.specs.declared.Term.{Term, Var}
use Rattle.sc_term.specs.declared.Term.TheVariants.{App}
use Rattle.sc_term.specs.Term.{joined}
use Rattle.sc_term.proofs.TermLaws.{term_ind, fold-Var, fold-App}
use Rattle.sc_index.specs.declared.flat.Key.{Key}
use Rattle.sc_index.specs.declared.flat.Key.TheVariants as key
use Rattle.sc_index.specs.declared.flat.Cell.{Cell}
use Rattle.sc_index.specs.Flat.{cells_step, term_cells}
use Rattle.sc_index.specs.Nodes.{keys_of}

pub cells-Var : (n : ℕ) → term_cells (Var n) ≡ record { key = key.Variable; below = 0 } ∷ []
cells-Var n = fold-Var (List Cell) cells_step n

pub cells-App : (f : SymId) (xs : List Term) → term_cells (App f xs) ≡ record { key = key.Symbol f (length (map term_cells xs)); below = length (joined (map term_cells xs)) } ∷ joined (map term_cells xs)
cells-App f xs = fold-App (List Cell) cells_step f xs

pub keys_append : (xs ys : List Cell) → keys_of (xs ++ ys) ≡ keys_of xs ++ keys_of ys
keys_append [] ys = refl
keys_append (x ∷ xs) ys = ap (λ l. x.key ∷ l) (keys_append xs ys)

-- a term's first cell tells how many come behind it
pub record Shape (cells : List Cell) : Type 0 where
  pub first : Cell
  pub rest : List Cell
  pub made : cells ≡ first ∷ rest
  pub tells : first.below ≡ length rest

pub shape : (t : Term) → Shape (term_cells t)
shape t = term_ind (λ t. Shape (term_cells t))
    (λ n. record { first = record { key = key.Variable; below = 0 }; rest = []; made = cells-Var n; tells = refl })
    (λ f xs h. record { first = record { key = key.Symbol f (length (map term_cells xs)); below = length (joined (map term_cells xs)) }; rest = joined (map term_cells xs); made = cells-App f xs; tells = refl })
    t

-- ---- how a row is made

patched : (old more : List Cell) (c d : Cell) → slice_set ((old ++ c ∷ []) ++ more) (length old) d ≡ old ++ d ∷ more
patched [] more c d = refl
patched (x ∷ old) more c d = ap (λ l. x ∷ l) (patched old more c d)

pub symbol_added : (old now : List Cell) (start end : ℕ) (f : SymId) (n : ℕ) (args : List Term)
    → now ≡ (old ++ record { key = key.Symbol f n; below = 0 } ∷ []) ++ joined (map term_cells args) → start ≡ length old → end ≡ length now → n ≡ length args
    → slice_set now start (record { key = key.Symbol f n; below = end - start - 1 }) ≡ old ++ term_cells (App f args)
symbol_added old now start end f n args made at all many =
    let first : Cell = record { key = key.Symbol f n; below = 0 } in
    let more = joined (map term_cells args) in
    let long : length now ≡ length old + 1 + length more = ap (λ l. length l) made ∙ length-append (old ++ first ∷ []) more ∙ ap (λ k. k + length more) (length_push old first) in
    let below : end - start - 1 ≡ length more = omega (arith, long, at, all) in
    let as_many : n ≡ length (map term_cells args) = many ∙ sym (length-map args term_cells) in
    (λ i. slice_set (made i) (at i) (record { key = key.Symbol f n; below = below i })) ∙ patched old more first (record { key = key.Symbol f n; below = length more })
    ∙ ap (λ row. old ++ row) ((λ i. record { key = key.Symbol f (as_many i); below = length more } ∷ more) ∙ sym (cells-App f args))
