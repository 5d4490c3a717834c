-- Texts in a row, one more at the end.
use Rattle.std.proofs.Common.{◌≡◌, ◌∙◌, sym, ap, refl, ℕ, zero, suc, ◌+◌, ◌<◌, false, List, [], ◌∷◌, ◌++◌, map, take, length, get_or, append_assoc, arith}
use Rattle.std.specs.Prelude.{◌==◌, if◌then◌else◌}
use Rattle.std.proofs.lemmas.List.{take_more, append-nil, map-append, length-take}
use Rattle.std.proofs.Math.Dec.{eqb-suc-zero}
use Rattle.sc_term.specs.declared.Line.{Line}
use Rattle.sc_term.specs.declared.symbol.Symbol.{Symbol}
use Rattle.sc_text_rules.specs.ClauseText.{joined_by}
use Rattle.sc_text_rules.specs.ProofText.{line_text, lines_text}

-- what stands before the next text
abbrev before : List ℕ → List (List ℕ) → List ℕ
before between [] = []
before between (t ∷ ts) = between

joined_by-snoc : (between : List ℕ) (ts : List (List ℕ)) (t : List ℕ) → joined_by between ts ++ (before between ts ++ t) ≡ joined_by between (ts ++ t ∷ [])
joined_by-snoc b [] t = refl
joined_by-snoc b (u ∷ []) t = simp append_assoc refl
joined_by-snoc b (u ∷ v ∷ ts) t = let e = joined_by-snoc b (v ∷ ts) t in simp append_assoc (ap (λ s. u ++ (b ++ s)) e)

not_zero : (i : ℕ) → (suc i == 0) ≡ false
not_zero i = eqb-suc-zero i

before_take : {X : Type 0} (between : List ℕ) (f : X → List ℕ) (xs : List X) (i : ℕ) → i < length xs → before between (map f (take i xs)) ≡ (if i == 0 then [] else between)
before_take b f [] i lt = absurd (omega arith)
before_take b f (x ∷ xs) zero lt = refl
before_take b f (x ∷ xs) (suc i) lt = ap (λ c. if c then [] else b) (sym (not_zero i))

pub joined_more : {X : Type 0} (between : List ℕ) (f : X → List ℕ) (xs : List X) (i : ℕ) (d x : X) → i < length xs → x ≡ get_or xs i d
    → joined_by between (map f (take i xs)) ++ ((if i == 0 then [] else between) ++ f x) ≡ joined_by between (map f (take (i + 1) xs))
joined_more b f xs i d x lt is =
    let e = joined_by-snoc b (map f (take i xs)) (f x) in
    let s = before_take b f xs i lt in
    let m : take (i + 1) xs ≡ take i xs ++ x ∷ [] = rw is (take_more xs i d lt) in
    let a = map-append f (take i xs) (x ∷ []) in
    cc

lines_text-snoc : (symbols : List Symbol) (n : ℕ) (lines : List Line) (line : Line) → lines_text symbols n lines ++ line_text symbols (length lines + n) line ≡ lines_text symbols n (lines ++ line ∷ [])
lines_text-snoc symbols n [] line = rw append-nil (ap (λ m. line_text symbols m line) (omega arith))
lines_text-snoc symbols n (l ∷ ls) line =
    let e = lines_text-snoc symbols (n + 1) ls line in
    let m : length ls + (n + 1) ≡ suc (length ls) + n = omega arith in
    rw append_assoc (ap (λ s. line_text symbols n l ++ s) (ap (λ k. lines_text symbols (n + 1) ls ++ line_text symbols k line) (sym m) ∙ e))

pub lines_more : (symbols : List Symbol) (n : ℕ) (lines : List Line) (i : ℕ) (d line : Line) → i < length lines → line ≡ get_or lines i d
    → lines_text symbols n (take i lines) ++ line_text symbols (i + n) line ≡ lines_text symbols n (take (i + 1) lines)
lines_more symbols n lines i d line lt is =
    let m : take (i + 1) lines ≡ take i lines ++ line ∷ [] = rw is (take_more lines i d lt) in
    let e = lines_text-snoc symbols n (take i lines) line in
    let k : length (take i lines) ≡ i = omega (arith, length-take {A = Line}) in
    cc
