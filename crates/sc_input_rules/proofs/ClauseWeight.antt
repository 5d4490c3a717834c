-- A clause weighs at most what its tokens count.
use Rattle.std.proofs.Common.{◌≡◌, ap, refl, ℕ, ◌+◌, ◌≤◌, Bool, true, false, List, [], ◌∷◌, ◌++◌, map, sum, Option, arith}
use Rattle.std.specs.Prelude.{flat_map}
use Rattle.sc_term.specs.declared.Term.{Term}
use Rattle.sc_term.specs.Term.{term_weight}
use Rattle.sc_term.specs.Clause.{literal_weight, weight}
use Rattle.sc_term.specs.declared.symbol.Symbol.{Symbol}
use Rattle.sc_input_rules.specs.declared.token.Token.{Token}
use Rattle.sc_input_rules.specs.declared.token.Token.TheVariants.{Punctuation}
use Rattle.sc_input_rules.specs.declared.token.Sign.TheVariants.{Bar}
use Rattle.sc_input_rules.specs.declared.written.Occurrence.{Occurrence}
use Rattle.sc_input_rules.specs.Measures.{has_weight, weight_so_far}
use Rattle.sc_input_rules.specs.Numbering.{literal_of, clause_of, number_in, variable_order}
use Rattle.sc_input_rules.proofs.Spelling.{Empty, Entry, tokens_of, side_tokens}
use Rattle.sc_input_rules.proofs.ClauseSpelling.{Atom, Plain, Equation, Wrapping, Bare, Negative, Brackets, NegativeBrackets, LiteralTree, ClauseTree, Falsum, Literals, equal_sign, atom_tokens, opening_tokens, closing_tokens, literal_tokens, behind_bar, clause_tokens, literal_written, clause_written}
use Rattle.sc_input_rules.proofs.Terms.{sides_under}
use Rattle.sc_input_rules.proofs.WeightLaw.{weight-append, sum-cons, side-weight, sides-weight, terms-light, sign-weight}
use Rattle.sc_input_rules.proofs.ClauseParts.{literal-args}

sign-counts : (positive : Bool) (at : ℕ) → has_weight (Punctuation at (equal_sign positive)) ≡ true
sign-counts true at = refl
sign-counts false at = refl

atom-weight : (a : Atom) → weight_so_far (atom_tokens a) ≡ 1 + weight_so_far (tokens_of (sides_under a))
atom-weight (Plain h args) = side-weight h args
atom-weight (Equation e) =
    let right = side_tokens e.right_head e.right_args in
    let sign = Punctuation e.at (equal_sign e.positive) in
    let a = weight-append (side_tokens e.left_head e.left_args) (sign ∷ right) in
    let s = sign-weight sign right (sign-counts e.positive e.at) in
    let l = side-weight e.left_head e.left_args in
    let r = side-weight e.right_head e.right_args in
    let both = sides-weight e.left_head e.left_args 0 (Entry e.right_head e.right_args 0 Empty) in
    let last = sides-weight e.right_head e.right_args 0 Empty in
    let none : weight_so_far (tokens_of Empty) ≡ 0 = refl in
    omega arith

opening-weight : (w : Wrapping) → weight_so_far (opening_tokens w) ≡ 0
opening-weight Bare = refl
opening-weight (Negative at) = refl
opening-weight (Brackets o c) = refl
opening-weight (NegativeBrackets at o c) = refl

closing-weight : (w : Wrapping) → weight_so_far (closing_tokens w) ≡ 0
closing-weight Bare = refl
closing-weight (Negative at) = refl
closing-weight (Brackets o c) = refl
closing-weight (NegativeBrackets at o c) = refl

literal-tokens-weight : (l : LiteralTree) → weight_so_far (literal_tokens l) ≡ 1 + weight_so_far (tokens_of (sides_under l.atom))
literal-tokens-weight l =
    let a = weight-append (opening_tokens l.wrapping) (atom_tokens l.atom ++ closing_tokens l.wrapping) in
    let b = weight-append (atom_tokens l.atom) (closing_tokens l.wrapping) in
    let o = opening-weight l.wrapping in
    let c = closing-weight l.wrapping in
    let k = atom-weight l.atom in
    omega arith

module _ (variable : Occurrence → Option ℕ) (symbols : List Symbol) where
  literal-light : (l : LiteralTree) → literal_weight (literal_of variable symbols (literal_written l)) ≤ weight_so_far (literal_tokens l)
  literal-light l =
      let e = ap (λ (ts : List Term). sum (map term_weight ts)) (literal-args variable symbols l) in
      let t = terms-light variable symbols (sides_under l.atom) in
      let w = literal-tokens-weight l in
      omega arith

  others-light : (bs : List (ℕ × LiteralTree)) → sum (map literal_weight (map (literal_of variable symbols) (map (λ (b : ℕ × LiteralTree). literal_written b.1) bs))) ≤ weight_so_far (flat_map behind_bar bs)
  others-light [] = omega arith
  others-light (b ∷ bs) =
      let l = literal-light b.1 in
      let others = others-light bs in
      let s = sum-cons (literal_weight (literal_of variable symbols (literal_written b.1))) (map literal_weight (map (literal_of variable symbols) (map (λ (b : ℕ × LiteralTree). literal_written b.1) bs))) in
      let a = weight-append (behind_bar b) (flat_map behind_bar bs) in
      let bar = bar-weight b.0 (literal_tokens b.1) in
      omega arith
    where
      bar-weight : (at : ℕ) (ts : List Token) → weight_so_far (Punctuation at Bar ∷ ts) ≡ weight_so_far ts
      bar-weight at ts = refl

  clause-light : (c : ClauseTree) → sum (map literal_weight (map (literal_of variable symbols) (clause_written c))) ≤ weight_so_far (clause_tokens c)
  clause-light (Falsum at) = omega arith
  clause-light (Literals l bs) =
      let one = literal-light l in
      let others = others-light bs in
      let s = sum-cons (literal_weight (literal_of variable symbols (literal_written l))) (map literal_weight (map (literal_of variable symbols) (map (λ (b : ℕ × LiteralTree). literal_written b.1) bs))) in
      let a = weight-append (literal_tokens l) (flat_map behind_bar bs) in
      omega arith

pub clause-weight : (symbols : List Symbol) (c : ClauseTree) → weight (clause_of symbols (clause_written c)) ≤ weight_so_far (clause_tokens c)
clause-weight symbols c = clause-light (number_in (variable_order (clause_written c))) symbols c
