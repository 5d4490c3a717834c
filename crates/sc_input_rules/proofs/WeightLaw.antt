-- A clause's weight is at most the count over its tokens.
use Rattle.std.proofs.Common.{◌≡◌, ◌∙◌, ap, refl, ℕ, ◌+◌, ◌≤◌, Bool, true, List, [], ◌∷◌, ◌++◌, map, sum, Option, Some, None, arith}
use Rattle.std.specs.Prelude.{cond}
use Rattle.std.proofs.lemmas.List.Sums.{sum_by-append, sum_by-cons}
use Rattle.sc_term.specs.declared.Term.{Term}
use Rattle.sc_term.specs.declared.Term.TheVariants.{Var, App}
use Rattle.sc_term.specs.Term.{term_weight, weight_step}
use Rattle.sc_term.proofs.TermLaws.{fold-Var, weight-App}
use Rattle.sc_term.specs.declared.symbol.Symbol.{Symbol}
use Rattle.sc_input_rules.specs.declared.token.Token.{Token}
use Rattle.sc_input_rules.specs.declared.token.Token.TheVariants.{Word, Punctuation}
use Rattle.sc_input_rules.specs.declared.token.Sign.TheVariants.{Close}
use Rattle.sc_input_rules.specs.declared.written.Occurrence.{Occurrence}
use Rattle.sc_input_rules.specs.Measures.{has_weight, weight_so_far}
use Rattle.sc_input_rules.specs.Numbering.{function_at, symbol_number}
use Rattle.sc_input_rules.proofs.Spelling.{Head, Sides, Empty, Entry, in_brackets, behind_comma, tokens_of, side_tokens, occurrence}
use Rattle.sc_input_rules.proofs.Terms.{term_from, terms}

pub weight-append : (xs ys : List Token) → weight_so_far (xs ++ ys) ≡ weight_so_far xs + weight_so_far ys
weight-append xs ys = sum_by-append _ xs ys

word-weight : (at : ℕ) (text : List ℕ) (ts : List Token) → weight_so_far (Word at text ∷ ts) ≡ 1 + weight_so_far ts
word-weight at text ts = sum_by-cons _ (Word at text) ts

pub sign-weight : (t : Token) (ts : List Token) → has_weight t ≡ true → weight_so_far (t ∷ ts) ≡ 1 + weight_so_far ts
sign-weight t ts e = sum_by-cons _ t ts ∙ ap (λ (b : Bool). cond b 1 0 + weight_so_far ts) e

pub sum-cons : (n : ℕ) (ns : List ℕ) → sum (n ∷ ns) ≡ n + sum ns
sum-cons n ns = sum_by-cons (λ n. n) n ns

brackets-weight : (h : Head) (args : Sides) → weight_so_far (in_brackets h args (tokens_of args)) ≡ weight_so_far (tokens_of args)
brackets-weight h Empty = refl
brackets-weight h (Entry g args comma others) = weight-append (tokens_of (Entry g args comma others)) (Punctuation h.closing Close ∷ []) ∙ omega arith

comma-weight : (at : ℕ) (others : Sides) → weight_so_far (behind_comma at others (tokens_of others)) ≡ weight_so_far (tokens_of others)
comma-weight at Empty = refl
comma-weight at (Entry g args comma others) = refl

pub sides-weight : (h : Head) (args : Sides) (comma : ℕ) (others : Sides) → weight_so_far (tokens_of (Entry h args comma others)) ≡ 1 + (weight_so_far (tokens_of args) + weight_so_far (tokens_of others))
sides-weight h args comma others =
    let s = weight-append (in_brackets h args (tokens_of args)) (behind_comma comma others (tokens_of others)) in
    let a = brackets-weight h args in
    let b = comma-weight comma others in
    let w = word-weight h.at h.text (in_brackets h args (tokens_of args) ++ behind_comma comma others (tokens_of others)) in
    omega arith

pub side-weight : (h : Head) (args : Sides) → weight_so_far (side_tokens h args) ≡ 1 + weight_so_far (tokens_of args)
side-weight h args = let a = brackets-weight h args in let w = word-weight h.at h.text (in_brackets h args (tokens_of args)) in omega arith

module _ (variable : Occurrence → Option ℕ) (symbols : List Symbol) where
  term-light : (o : Occurrence) (args : List Term) → term_weight (term_from variable symbols o args) ≤ 1 + sum (map term_weight args)
  term-light o args = by (variable o)
    where
      by : (v : Option ℕ) → term_weight (elim v [ Some n ↦ Var n | None ↦ App (symbol_number symbols (function_at o).symbol) args ]) ≤ 1 + sum (map term_weight args)
      by (Some n) = let e : term_weight (Var n) ≡ 1 = fold-Var ℕ weight_step n in omega arith
      by None = let e = weight-App (symbol_number symbols (function_at o).symbol) args in omega arith

  pub terms-light : (f : Sides) → sum (map term_weight (terms variable symbols f)) ≤ weight_so_far (tokens_of f)
  terms-light Empty = omega arith
  terms-light (Entry h args comma others) =
      let w = sides-weight h args comma others in
      let t = term-light (occurrence h args) (terms variable symbols args) in
      let a = terms-light args in
      let b = terms-light others in
      let s = sum-cons (term_weight (term_from variable symbols (occurrence h args) (terms variable symbols args))) (map term_weight (terms variable symbols others)) in
      omega arith
