-- A literal is at most as deep as is counted over its tokens.
use Rattle.std.proofs.Common.{◌≡◌, ◌∙◌, sym, ap, refl, ℕ, ◌+◌, ◌-◌, ◌≤◌, max, Bool, true, false, List, [], ◌∷◌, ◌++◌, map, length, length-append, append_assoc, drop, reverse, Option, arith}
use Rattle.std.specs.Prelude.{◌||◌, not, flat_map, cond, if◌then◌else◌}
use Rattle.std.specs.List.{AllByRecursion, list_any, after_last, suffix_len, prefix_len}
use Rattle.std.proofs.lemmas.List.{append-nil, reverse-append}
use Rattle.std.proofs.lemmas.List.Folds.{list_any-append}
use Rattle.std.proofs.Math.Seq.{drop-append_seam}
use Rattle.sc_term.specs.declared.Term.{Term}
use Rattle.sc_term.specs.Term.{largest, term_depth}
use Rattle.sc_term.specs.Clause.{literal_depth, depth}
use Rattle.sc_term.specs.declared.symbol.Symbol.{Symbol}
use Rattle.sc_input_rules.specs.declared.token.Token.{Token}
use Rattle.sc_input_rules.specs.declared.token.Token.TheVariants.{Word, Punctuation}
use Rattle.sc_input_rules.specs.declared.token.Sign.TheVariants.{Bar}
use Rattle.sc_input_rules.specs.declared.written.Occurrence.{Occurrence}
use Rattle.sc_input_rules.specs.Token.{is_sign}
use Rattle.sc_input_rules.specs.ClauseGrammar.{is_equality}
use Rattle.sc_input_rules.specs.Measures.{greatest_level, without_bracket, without_minus, depth_of_atom, depth_so_far}
use Rattle.sc_input_rules.specs.Numbering.{literal_of, clause_of, number_in, variable_order}
use Rattle.sc_input_rules.proofs.Spelling.{Head, Sides, Empty, Entry, in_brackets, tokens_of, side_tokens, occurrence}
use Rattle.sc_input_rules.proofs.ClauseSpelling.{Equated, Atom, Plain, Equation, Wrapping, Bare, Negative, Brackets, NegativeBrackets, LiteralTree, ClauseTree, Falsum, Literals, equal_sign, atom_tokens, opening_tokens, closing_tokens, literal_tokens, behind_bar, clause_tokens, literal_written, clause_written}
use Rattle.sc_input_rules.proofs.NoStop.{literal_no_bar}
use Rattle.sc_input_rules.proofs.Terms.{term_from, terms, sides_under}
use Rattle.sc_input_rules.proofs.DepthLaw.{largest-cons, depth_of, Levels, bracket-levels, sides-levels}
use Rattle.sc_input_rules.proofs.ClauseParts.{literal-args}

-- ---- the last literal

abbrev IsNoBar : Token → Type 0
IsNoBar t = is_sign Bar t ≡ false

abbrev passes : Token → Bool
passes t = not (is_sign Bar t)

prefix-none : (ys zs : List Token) → AllByRecursion IsNoBar ys → prefix_len passes (reverse ys ++ zs) ≡ length ys + prefix_len passes zs
prefix-none [] zs h = omega arith
prefix-none (y ∷ ys) zs h =
    let turned : reverse (y ∷ ys) ++ zs ≡ reverse ys ++ (y ∷ zs) = ap (λ ts. ts ++ zs) (reverse-append (y ∷ []) ys) ∙ append_assoc (reverse ys) (y ∷ []) zs in
    let one : prefix_len passes (y ∷ zs) ≡ 1 + prefix_len passes zs = ap (λ (b : Bool). cond (not b) (1 + prefix_len passes zs) 0) h.0 in
    ap (prefix_len passes) turned ∙ prefix-none ys (y ∷ zs) h.1 ∙ omega arith

after_last-all : (ys : List Token) → AllByRecursion IsNoBar ys → after_last (is_sign Bar) ys ≡ ys
after_last-all ys h =
    let e : suffix_len passes ys ≡ length ys + 0 = ap (prefix_len passes) (sym (append-nil (reverse ys))) ∙ prefix-none ys [] h in
    let none : length ys - suffix_len passes ys ≡ 0 = omega arith in
    ap (λ (n : ℕ). drop n ys) none

after_last-bar : (xs ys : List Token) (at : ℕ) → AllByRecursion IsNoBar ys → after_last (is_sign Bar) (xs ++ Punctuation at Bar ∷ ys) ≡ ys
after_last-bar xs ys at h =
    let bar = Punctuation at Bar in
    let all = xs ++ bar ∷ ys in
    let turned : reverse (xs ++ bar ∷ ys) ≡ reverse ys ++ (bar ∷ reverse xs) =
    reverse-append xs (bar ∷ ys) ∙ ap (λ ts. ts ++ reverse xs) (reverse-append (bar ∷ []) ys) ∙ append_assoc (reverse ys) (bar ∷ []) (reverse xs) in
    let e : suffix_len passes (xs ++ bar ∷ ys) ≡ length ys + 0 = ap (prefix_len passes) turned ∙ prefix-none ys (bar ∷ reverse xs) h in
    let front : length (xs ++ bar ∷ ys) - suffix_len passes (xs ++ bar ∷ ys) ≡ length (xs ++ bar ∷ []) =
    omega (arith, e, length-append xs (bar ∷ ys), length-append xs (bar ∷ [])) in
    ap (λ (n : ℕ). drop n (xs ++ bar ∷ ys)) front ∙ ap (drop (length (xs ++ bar ∷ []))) (sym (append_assoc xs (bar ∷ []) ys)) ∙ drop-append_seam (xs ++ bar ∷ []) ys

at_most : (d ds n so_far atom all : ℕ) → d ≤ atom → so_far ≤ n → so_far ≡ atom → ds ≤ n → all ≡ max d ds → all ≤ n
at_most d ds n so_far atom all one here last others l = omega arith

-- ---- the depth of a literal's tokens

stripped : (w : Wrapping) (a : Atom) → without_bracket (without_minus (opening_tokens w ++ (atom_tokens a ++ closing_tokens w))) ≡ atom_tokens a ++ closing_tokens w
stripped Bare (Plain h args) = refl
stripped Bare (Equation e) = refl
stripped (Negative at) (Plain h args) = refl
stripped (Negative at) (Equation e) = refl
stripped (Brackets o c) a = refl
stripped (NegativeBrackets at o c) a = refl

module _ (variable : Occurrence → Option ℕ) (symbols : List Symbol) where
  -- a side's depth, and what its tokens add to the level of those behind them
  side-levels : (h : Head) (args : Sides) (more : List Token) → Levels variable symbols 0 (Entry h args 0 Empty) more
      → (depth_of variable symbols (Entry h args 0 Empty) ≤ greatest_level 0 (side_tokens h args ++ more)) × (greatest_level 0 more ≤ greatest_level 0 (side_tokens h args ++ more))
  side-levels h args more l =
      let e : greatest_level 0 (tokens_of (Entry h args 0 Empty) ++ more) ≡ greatest_level 0 (side_tokens h args ++ more) =
      ap (λ (ts : List Token). greatest_level 0 ((Word h.at h.text ∷ ts) ++ more)) (append-nil (in_brackets h args (tokens_of args))) in
      let d = l.deep in
      let b = l.behind in
      (omega arith, omega arith)

  sign-level : (positive : Bool) (at : ℕ) (ts : List Token) → greatest_level 0 (Punctuation at (equal_sign positive) ∷ ts) ≡ greatest_level 0 ts
  sign-level true at ts = refl
  sign-level false at ts = refl

  is_sign_there : (positive : Bool) (at : ℕ) (xs ys : List Token) → list_any is_equality (xs ++ Punctuation at (equal_sign positive) ∷ ys) ≡ true
  is_sign_there positive at xs ys = list_any-append is_equality xs (Punctuation at (equal_sign positive) ∷ ys) ∙ by positive (list_any is_equality xs)
    where
      by : (positive b : Bool) → (b || list_any is_equality (Punctuation at (equal_sign positive) ∷ ys)) ≡ true
      by true true = refl
      by true false = refl
      by false true = refl
      by false false = refl

  two-deep : (e : Equated) → depth_of variable symbols (sides_under (Equation e))
      ≡ max (depth_of variable symbols (Entry e.left_head e.left_args 0 Empty)) (depth_of variable symbols (Entry e.right_head e.right_args 0 Empty))
  two-deep e =
      let x = term_depth (term_from variable symbols (occurrence e.left_head e.left_args) (terms variable symbols e.left_args)) in
      let y = term_depth (term_from variable symbols (occurrence e.right_head e.right_args) (terms variable symbols e.right_args)) in
      let a = largest-cons x (y ∷ []) in
      let b = largest-cons x [] in
      let none : largest [] ≡ 0 = refl in
      omega arith

  atom-shallow : (a : Atom) (more : List Token) → 1 + depth_of variable symbols (sides_under a) ≤ depth_of_atom (atom_tokens a ++ more)
  atom-shallow (Plain h args) more =
      let l = bracket-levels variable symbols 0 h args more (sides-levels variable symbols args) in
      let d = l.deep in
      at_least (list_any is_equality (side_tokens h args ++ more)) (1 + depth_of variable symbols args) (greatest_level 0 (side_tokens h args ++ more)) (omega arith)
    where
      at_least : (b : Bool) (d n : ℕ) → d ≤ n → d ≤ n + (if b then 1 else 0)
      at_least true d n le = omega arith
      at_least false d n le = omega arith
  atom-shallow (Equation e) more =
      let left = side_tokens e.left_head e.left_args in
      let right = side_tokens e.right_head e.right_args in
      let sign = Punctuation e.at (equal_sign e.positive) in
      let r = side-levels e.right_head e.right_args more (sides-levels variable symbols (Entry e.right_head e.right_args 0 Empty) 0 more) in
      let l = side-levels e.left_head e.left_args (sign ∷ (right ++ more)) (sides-levels variable symbols (Entry e.left_head e.left_args 0 Empty) 0 (sign ∷ (right ++ more))) in
      let s = sign-level e.positive e.at (right ++ more) in
      let both = two-deep e in
      let whole : (left ++ sign ∷ right) ++ more ≡ left ++ sign ∷ (right ++ more) = append_assoc left (sign ∷ right) more in
      let depth : depth_of_atom ((left ++ sign ∷ right) ++ more) ≡ greatest_level 0 (left ++ sign ∷ (right ++ more)) + 1 =
      ap depth_of_atom whole ∙ ap (λ (b : Bool). greatest_level 0 (left ++ sign ∷ (right ++ more)) + (if b then 1 else 0)) (is_sign_there e.positive e.at left (right ++ more)) in
      let a = l.0 in
      let b = l.1 in
      let c = r.0 in
      join (depth_of variable symbols (Entry e.left_head e.left_args 0 Empty)) (depth_of variable symbols (Entry e.right_head e.right_args 0 Empty))
      (depth_of variable symbols (sides_under (Equation e))) (greatest_level 0 (left ++ sign ∷ (right ++ more))) (greatest_level 0 (sign ∷ (right ++ more))) (greatest_level 0 (right ++ more)) (depth_of_atom ((left ++ sign ∷ right) ++ more))
      both a b s c depth
    where
      join : (dl dr d level level' level'' whole : ℕ) → d ≡ max dl dr → dl ≤ level → level' ≤ level → level' ≡ level'' → dr ≤ level'' → whole ≡ level + 1 → 1 + d ≤ whole
      join dl dr d level level' level'' whole e a b s c k = omega arith

  literal-shallow : (l : LiteralTree) → literal_depth (literal_of variable symbols (literal_written l)) ≤ depth_of_atom (without_bracket (without_minus (literal_tokens l)))
  literal-shallow l =
      let e = ap (λ (ts : List Term). largest (map term_depth ts)) (literal-args variable symbols l) in
      let s = ap depth_of_atom (stripped l.wrapping l.atom) in
      let a = atom-shallow l.atom (closing_tokens l.wrapping) in
      omega arith

  -- each literal's depth is that so far at its end
  others-shallow : (n : ℕ) (xs : List Token) (bs : List (ℕ × LiteralTree)) → ((front more : List Token) → xs ++ flat_map behind_bar bs ≡ front ++ more → depth_so_far front ≤ n)
      → largest (map literal_depth (map (literal_of variable symbols) (map (λ (b : ℕ × LiteralTree). literal_written b.1) bs))) ≤ n
  others-shallow n xs [] h = omega arith
  others-shallow n xs (b ∷ bs) h =
      let one = literal-shallow b.1 in
      let here = h (xs ++ behind_bar b) (flat_map behind_bar bs) (sym (append_assoc xs (behind_bar b) (flat_map behind_bar bs))) in
      let last : depth_so_far (xs ++ behind_bar b) ≡ depth_of_atom (without_bracket (without_minus (literal_tokens b.1))) =
      ap (λ (ts : List Token). depth_of_atom (without_bracket (without_minus ts))) (after_last-bar xs (literal_tokens b.1) b.0 (literal_no_bar b.1)) in
      let others = others-shallow n (xs ++ behind_bar b) bs (λ front more e. h front more (sym (append_assoc xs (behind_bar b) (flat_map behind_bar bs)) ∙ e)) in
      let l = largest-cons (literal_depth (literal_of variable symbols (literal_written b.1))) (map literal_depth (map (literal_of variable symbols) (map (λ (b : ℕ × LiteralTree). literal_written b.1) bs))) in
      at_most (literal_depth (literal_of variable symbols (literal_written b.1)))
      (largest (map literal_depth (map (literal_of variable symbols) (map (λ (b : ℕ × LiteralTree). literal_written b.1) bs)))) n _ _ _ one here last others l

  clause-shallow : (n : ℕ) (c : ClauseTree) → ((front more : List Token) → clause_tokens c ≡ front ++ more → depth_so_far front ≤ n) → largest (map literal_depth (map (literal_of variable symbols) (clause_written c))) ≤ n
  clause-shallow n (Falsum at) h = omega arith
  clause-shallow n (Literals l bs) h =
      let one = literal-shallow l in
      let here = h (literal_tokens l) (flat_map behind_bar bs) refl in
      let last : depth_so_far (literal_tokens l) ≡ depth_of_atom (without_bracket (without_minus (literal_tokens l))) =
      ap (λ (ts : List Token). depth_of_atom (without_bracket (without_minus ts))) (after_last-all (literal_tokens l) (literal_no_bar l)) in
      let others = others-shallow n (literal_tokens l) bs h in
      let k = largest-cons (literal_depth (literal_of variable symbols (literal_written l))) (map literal_depth (map (literal_of variable symbols) (map (λ (b : ℕ × LiteralTree). literal_written b.1) bs))) in
      at_most (literal_depth (literal_of variable symbols (literal_written l)))
      (largest (map literal_depth (map (literal_of variable symbols) (map (λ (b : ℕ × LiteralTree). literal_written b.1) bs)))) n _ _ _ one here last others k

pub clause-depth : (symbols : List Symbol) (n : ℕ) (c : ClauseTree) → ((front more : List Token) → clause_tokens c ≡ front ++ more → depth_so_far front ≤ n) → depth (clause_of symbols (clause_written c)) ≤ n
clause-depth symbols n c h = clause-shallow (number_in (variable_order (clause_written c))) symbols n c h
