-- The tokens of sides count no more than the terms that are read of them weigh, and nest no deeper.
use Rattle.std.proofs.Common.{◌≡◌, ap, refl, ℕ, ◌+◌, ◌-◌, ◌≤◌, max, sum, Bool, true, false, List, [], ◌∷◌, ◌++◌, map, append_assoc, Option, Some, None, arith}
use Rattle.std.specs.Prelude.{◌==◌, if◌then◌else◌}
use Rattle.std.specs.Str.Parse.{digits_value}
use Rattle.std.proofs.lemmas.Bool.{eqb-true}
use Rattle.sc_term.specs.declared.Term.{Term}
use Rattle.sc_term.specs.declared.Term.TheVariants.{Var, App}
use Rattle.sc_term.specs.Term.{largest, term_weight, weight_step, term_depth, depth_step}
use Rattle.sc_term.proofs.TermLaws.{fold-Var, weight-App, depth-App}
use Rattle.sc_term.specs.declared.symbol.Symbol.{Symbol}
use Rattle.sc_input_rules.specs.declared.token.Token.{Token}
use Rattle.sc_input_rules.specs.declared.token.Token.TheVariants.{Punctuation}
use Rattle.sc_input_rules.specs.declared.token.Sign.TheVariants.{Close}
use Rattle.sc_input_rules.specs.declared.written.Occurrence.{Occurrence}
use Rattle.sc_input_rules.specs.Measures.{weight_so_far, greatest_level}
use Rattle.sc_input_rules.specs.Numbering.{function_at, symbol_number}
use Rattle.sc_input_rules.proofs.Booleans.{parts_hold}
use Rattle.sc_input_rules.proofs.Spelling.{Head, Sides, Empty, Entry, in_brackets, behind_comma, tokens_of, side_tokens, count, occurrence}
use Rattle.sc_input_rules.proofs.Terms.{term_from, terms}
use Rattle.sc_input_rules.proofs.WeightLaw.{sides-weight, sum-cons}
use Rattle.sc_input_rules.proofs.DepthLaw.{largest-cons, depth_of}
use Rattle.sc_text_rules.specs.TextWords.{is_numbered_variable, is_some_digits, digits_behind_x, text_variable}

-- ---- a variable has no arguments

variable_alone : (h : Head) (args : Sides) (n : ℕ) → text_variable (occurrence h args) ≡ Some n → args ≡ Empty
variable_alone h Empty n e = refl
variable_alone h (Entry g args comma others) n e = by (is_numbered_variable o) refl e
  where
    o : Occurrence
    o = occurrence h (Entry g args comma others)

    by : (b : Bool) → is_numbered_variable (occurrence h (Entry g args comma others)) ≡ b → (if b then Some (digits_value 10 (digits_behind_x h.text)) else None) ≡ Some n → Entry g args comma others ≡ Empty
    by true k e =
        let p = parts_hold (count others + 1 == 0) (is_some_digits (digits_behind_x h.text)) k in
        let z : count others + 1 ≡ 0 = eqb-true (count others + 1) 0 p.0 in
        absurd (omega arith)
    by false k e = absurd cc

module _ (symbols : List Symbol) where
  abbrev read : Sides → List Term
  read f = terms text_variable symbols f

  abbrev read_term : Head → Sides → Term
  read_term h args = term_from text_variable symbols (occurrence h args) (read args)

  abbrev made : Head → Sides → Option ℕ → Term
  made h args v = elim v [ Some n ↦ Var n | None ↦ App (symbol_number symbols (function_at (occurrence h args)).symbol) (read args) ]

  -- ---- weight

  pub term_heavy : (h : Head) (args : Sides) → 1 + sum (map term_weight (read args)) ≤ term_weight (read_term h args)
  term_heavy h args = by (text_variable (occurrence h args)) refl
    where
      by : (v : Option ℕ) → text_variable (occurrence h args) ≡ v → 1 + sum (map term_weight (read args)) ≤ term_weight (made h args v)
      by (Some n) e =
          let none = ap (λ (f : Sides). sum (map term_weight (read f))) (variable_alone h args n e) in
          let one : term_weight (Var n) ≡ 1 = fold-Var ℕ weight_step n in
          omega arith
      by None e = let w = weight-App (symbol_number symbols (function_at (occurrence h args)).symbol) (read args) in omega arith

  pub sides_heavy : (f : Sides) → weight_so_far (tokens_of f) ≤ sum (map term_weight (read f))
  sides_heavy Empty = omega arith
  sides_heavy (Entry h args comma others) =
      let w = sides-weight h args comma others in
      let t = term_heavy h args in
      let a = sides_heavy args in
      let b = sides_heavy others in
      let s = sum-cons (term_weight (read_term h args)) (map term_weight (read others)) in
      omega arith

  -- ---- depth

  pub term_deep : (h : Head) (args : Sides) → 1 + largest (map term_depth (read args)) ≤ term_depth (read_term h args)
  term_deep h args = by (text_variable (occurrence h args)) refl
    where
      by : (v : Option ℕ) → text_variable (occurrence h args) ≡ v → 1 + largest (map term_depth (read args)) ≤ term_depth (made h args v)
      by (Some n) e =
          let none = ap (λ (f : Sides). largest (map term_depth (read f))) (variable_alone h args n e) in
          let one : term_depth (Var n) ≡ 1 = fold-Var ℕ depth_step n in
          omega arith
      by None e = let w = depth-App (symbol_number symbols (function_at (occurrence h args)).symbol) (read args) in omega arith

  -- tokens nest at most so deep above a level, and leave it as it was
  abbrev Nests : ℕ → List Token → ℕ → Type 0
  Nests around ts depth = (more : List Token) → greatest_level around (ts ++ more) ≤ max (around + depth) (greatest_level around more)

  brackets_nest : (around : ℕ) (h : Head) (args : Sides) → Nests (around + 1) (tokens_of args) (depth_of text_variable symbols args) → Nests around (in_brackets h args (tokens_of args)) (1 + depth_of text_variable symbols args)
  brackets_nest around h Empty ih more = omega arith
  brackets_nest around h (Entry g args comma others) ih more =
      let ts = tokens_of (Entry g args comma others) in
      let close = Punctuation h.closing Close in
      let split : greatest_level (around + 1) ((ts ++ close ∷ []) ++ more) ≡ greatest_level (around + 1) (ts ++ (close ∷ more)) = ap (greatest_level (around + 1)) (append_assoc ts (close ∷ []) more) in
      let within = ih (close ∷ more) in
      let back : around + 1 - 1 ≡ around = omega arith in
      let level : greatest_level (around + 1 - 1) more ≡ greatest_level around more = ap (λ (n : ℕ). greatest_level n more) back in
      omega arith

  others_nest : (around comma : ℕ) (others : Sides) → Nests around (tokens_of others) (depth_of text_variable symbols others) → Nests around (behind_comma comma others (tokens_of others)) (depth_of text_variable symbols others)
  others_nest around comma Empty ih more = omega arith
  others_nest around comma (Entry h args comma' others) ih more = ih more

  pub side_nests : (around : ℕ) (h : Head) (args : Sides) → Nests (around + 1) (tokens_of args) (depth_of text_variable symbols args) → Nests around (side_tokens h args) (1 + depth_of text_variable symbols args)
  side_nests around h args ih more = let b = brackets_nest around h args ih more in omega arith

  pub sides_nest : (f : Sides) (around : ℕ) → Nests around (tokens_of f) (depth_of text_variable symbols f)
  sides_nest Empty around more = omega arith
  sides_nest (Entry h args comma others) around more =
      let behind = behind_comma comma others (tokens_of others) in
      let split : greatest_level around ((side_tokens h args ++ behind) ++ more) ≡ greatest_level around (side_tokens h args ++ (behind ++ more)) = ap (greatest_level around) (append_assoc (side_tokens h args) behind more) in
      let s = side_nests around h args (sides_nest args (around + 1)) (behind ++ more) in
      let o = others_nest around comma others (sides_nest others around) more in
      let t = term_deep h args in
      let l = largest-cons (term_depth (read_term h args)) (map term_depth (read others)) in
      omega arith

  pub one_nests : (around : ℕ) (h : Head) (args : Sides) → Nests around (side_tokens h args) (1 + depth_of text_variable symbols args)
  one_nests around h args = side_nests around h args (sides_nest args (around + 1))
