-- A clause's depth is at most what is counted over the tokens of its literals.
use Rattle.std.proofs.Common.{◌≡◌, ap, ℕ, ◌+◌, ◌-◌, ◌≤◌, max, List, [], ◌∷◌, ◌++◌, map, append_assoc, Option, Some, None, arith}
use Rattle.std.specs.List.{fold}
use Rattle.sc_term.specs.declared.Term.{Term}
use Rattle.sc_term.specs.declared.Term.TheVariants.{Var, App}
use Rattle.sc_term.specs.Term.{largest, term_depth, depth_step}
use Rattle.sc_term.proofs.TermLaws.{fold-Var, depth-App}
use Rattle.sc_term.specs.declared.symbol.Symbol.{Symbol}
use Rattle.sc_input_rules.specs.declared.token.Token.{Token}
use Rattle.sc_input_rules.specs.declared.token.Token.TheVariants.{Word, Punctuation}
use Rattle.sc_input_rules.specs.declared.token.Sign.TheVariants.{Open, Close}
use Rattle.sc_input_rules.specs.declared.written.Occurrence.{Occurrence}
use Rattle.sc_input_rules.specs.Measures.{greatest_level}
use Rattle.sc_input_rules.specs.Numbering.{function_at, symbol_number}
use Rattle.sc_input_rules.proofs.Spelling.{Head, Sides, Empty, Entry, in_brackets, behind_comma, tokens_of, occurrence}
use Rattle.sc_input_rules.proofs.Terms.{term_from, terms}

fold-max : (a : ℕ) (xs : List ℕ) → fold max a xs ≡ max a (largest xs)
fold-max a [] = omega arith
fold-max a (x ∷ xs) = let e = fold-max (max a x) xs in let k = fold-max (max 0 x) xs in omega arith

pub largest-cons : (x : ℕ) (xs : List ℕ) → largest (x ∷ xs) ≡ max x (largest xs)
largest-cons x xs = let e = fold-max (max 0 x) xs in omega arith

-- what tokens add to the level of those behind them: at least this much above a level
pub record LevelsOf (around low : ℕ) (ts more : List Token) (depth : ℕ) : Type 0 where
  pub deep : depth ≤ greatest_level around (ts ++ more) - low
  pub behind : greatest_level around more ≤ greatest_level around (ts ++ more)

in_brackets-levels : (around o c : ℕ) (ts more : List Token) (depth : ℕ) → depth ≤ greatest_level (around + 1) (ts ++ Punctuation c Close ∷ more) - (around + 1)
    → greatest_level (around + 1) (Punctuation c Close ∷ more) ≤ greatest_level (around + 1) (ts ++ Punctuation c Close ∷ more)
    → LevelsOf around (around + 1) (Punctuation o Open ∷ (ts ++ Punctuation c Close ∷ [])) more depth
in_brackets-levels around o c ts more depth d b =
    let same : greatest_level (around + 1) ((ts ++ Punctuation c Close ∷ []) ++ more) ≡ greatest_level (around + 1) (ts ++ Punctuation c Close ∷ more) = ap (greatest_level (around + 1)) (append_assoc ts (Punctuation c Close ∷ []) more) in
    let back : around + 1 - 1 ≡ around = omega arith in
    let level : greatest_level (around + 1 - 1) more ≡ greatest_level around more = ap (λ (n : ℕ). greatest_level n more) back in
    record { deep = omega arith; behind = omega arith }

module _ (variable : Occurrence → Option ℕ) (symbols : List Symbol) where
  abbrev pub depth_of : Sides → ℕ
  depth_of f = largest (map term_depth (terms variable symbols f))

  term-shallow : (o : Occurrence) (args : List Term) → term_depth (term_from variable symbols o args) ≤ 1 + largest (map term_depth args)
  term-shallow o args = by (variable o)
    where
      by : (v : Option ℕ) → term_depth (elim v [ Some n ↦ Var n | None ↦ App (symbol_number symbols (function_at o).symbol) args ]) ≤ 1 + largest (map term_depth args)
      by (Some n) = let e : term_depth (Var n) ≡ 1 = fold-Var ℕ depth_step n in omega arith
      by None = let e = depth-App (symbol_number symbols (function_at o).symbol) args in omega arith

  -- what the tokens of sides add to the level of those behind them
  pub record Levels (around : ℕ) (f : Sides) (more : List Token) : Type 0 where
    pub deep : depth_of f ≤ greatest_level around (tokens_of f ++ more) - around
    pub behind : greatest_level around more ≤ greatest_level around (tokens_of f ++ more)

  pub bracket-levels : (around : ℕ) (h : Head) (args : Sides) (more : List Token) → ((around : ℕ) (more : List Token) → Levels around args more)
      → LevelsOf around (around + 1) (in_brackets h args (tokens_of args)) more (depth_of args)
  bracket-levels around h Empty more ih = record { deep = omega arith; behind = omega arith }
  bracket-levels around h (Entry g args comma others) more ih =
      let l = ih (around + 1) (Punctuation h.closing Close ∷ more) in
      in_brackets-levels around h.opening h.closing (tokens_of (Entry g args comma others)) more (depth_of (Entry g args comma others)) l.deep l.behind

  comma-levels : (around at : ℕ) (others : Sides) (more : List Token) → Levels around others more → LevelsOf around around (behind_comma at others (tokens_of others)) more (depth_of others)
  comma-levels around at Empty more l = record { deep = omega arith; behind = omega arith }
  comma-levels around at (Entry g args comma others) more l = record { deep = l.deep; behind = l.behind }

  pub sides-levels : (f : Sides) (around : ℕ) (more : List Token) → Levels around f more
  sides-levels Empty around more = record { deep = omega arith; behind = omega arith }
  sides-levels (Entry h args comma others) around more =
      let inner = in_brackets h args (tokens_of args) in
      let behind = behind_comma comma others (tokens_of others) in
      let o = occurrence h args in
      let b = bracket-levels around h args (behind ++ more) (sides-levels args) in
      let c = comma-levels around comma others more (sides-levels others around more) in
      let same : greatest_level around ((inner ++ behind) ++ more) ≡ greatest_level around (inner ++ (behind ++ more)) = ap (greatest_level around) (append_assoc inner behind more) in
      let t = term-shallow o (terms variable symbols args) in
      let l = largest-cons (term_depth (term_from variable symbols o (terms variable symbols args))) (map term_depth (terms variable symbols others)) in
      let e = entry-levels around h (inner ++ behind) more (depth_of (Entry h args comma others)) (greatest_level around (inner ++ (behind ++ more))) (greatest_level around (behind ++ more))
      (term_depth (term_from variable symbols o (terms variable symbols args))) (depth_of args) (depth_of others) same l t b.deep b.behind c.deep c.behind in
      record { deep = e.deep; behind = e.behind }
    where
      entry-levels : (around : ℕ) (h : Head) (ts more : List Token) (depth level level' d da db : ℕ) → greatest_level around (ts ++ more) ≡ level → depth ≡ max d db → d ≤ 1 + da
          → da ≤ level - (around + 1) → level' ≤ level → db ≤ level' - around → greatest_level around more ≤ level'
          → record { deep : depth ≤ greatest_level around ((Word h.at h.text ∷ ts) ++ more) - around; behind : greatest_level around more ≤ greatest_level around ((Word h.at h.text ∷ ts) ++ more) }
      entry-levels around h ts more depth level level' d da db same l t bd bb cd cb = record { deep = omega arith; behind = omega arith }
