-- A written clause that may stand in demodulators is, as a clause of terms, one that rewrites.
use Rattle.std.proofs.Common.{◌≡◌, ◌∙◌, sym, ap, refl, ℕ, Bool, true, false, List, [], ◌∷◌, ◌++◌, map, Option, Some, None}
use Rattle.std.specs.Prelude.{codes, not, ◌&&◌, nat_eq, filter}
use Rattle.std.specs.List.{AllByRecursion, list_any, list_all}
use Rattle.std.specs.Cmp.Lexicographic.{bytes_decides}
use Rattle.sc_term.specs.declared.SymId.{SymId}
use Rattle.sc_term.specs.declared.Term.TheVariants.{Var, App}
use Rattle.sc_term.proofs.TermLaws.{fold-App}
use Rattle.sc_term.specs.declared.symbol.Symbol.{Symbol}
use Rattle.sc_term.specs.Symbol.{equality}
use Rattle.sc_input_rules.specs.declared.token.Token.TheVariants.{Word}
use Rattle.sc_input_rules.specs.Token.{same_text, is_word}
use Rattle.sc_input_rules.specs.declared.written.Occurrence.{Occurrence}
use Rattle.sc_input_rules.specs.declared.written.WrittenLiteral.{WrittenLiteral}
use Rattle.sc_input_rules.specs.Numbering.{is_variable, same_name, variable_order, function_at, symbol_number, terms_of, literal_of, number_in, clause_of}
use Rattle.sc_input_rules.specs.ClauseGrammar.{equation_of}
use Rattle.sc_input_rules.specs.Demodulator.{is_equation, left_side, is_one_variable, left_holds_right, is_demodulator}
use Rattle.sc_input_rules.specs.WellFormed.{variable_step, is_variable_term, are_rewriting_sides, is_rewriting}
use Rattle.sc_input_rules.proofs.Spelling.{Head, Sides, occurrence, side_of}
use Rattle.sc_input_rules.proofs.ClauseSpelling.{Equated, Atom, Plain, Equation, Wrapping, Bare, Negative, Brackets, NegativeBrackets, ClauseTree, Falsum, Literals, atom_tokens, opening_tokens, closing_tokens, literal_tokens, clause_tokens, atom_written, wrapped, clause_written}
use Rattle.sc_input_rules.proofs.Terms.{term_from, terms, terms_of-alone, sides_under, sides_under-arguments}
use Rattle.sc_input_rules.proofs.ClauseParts.{wrapped-predicate}
use Rattle.sc_input_rules.proofs.Tokenized.{AreTokenized, tokenized_split}
use Rattle.sc_input_rules.proofs.VariableNumbers.{number, IsPlaced, number_in-other, term-variables, terms-variables, variables-placed}
use Rattle.sc_input_rules.proofs.CanonicalLaw.{old-number}
use Rattle.sc_input_rules.proofs.SidesOfEquation.{AreSides, sides_of_equation}
use Rattle.sc_term.proofs.SubstitutionLaws.{all_split}
use Rattle.sc_input_rules.proofs.Booleans.{both_hold, parts_hold}

not_true : (b : Bool) → not b ≡ true → b ≡ false
not_true true e = absurd cc
not_true false e = refl

-- ---- the sides as terms

module _ (order : List Occurrence) (symbols : List Symbol) where
  -- the left side is no variable
  left-no-variable : (h : Head) (args : Sides) → is_variable (occurrence h args) ≡ false → is_variable_term (term_from (number_in order) symbols (occurrence h args) (terms (number_in order) symbols args)) ≡ false
  left-no-variable h args e =
      let ts = terms (number_in order) symbols args in
      let f = symbol_number symbols (function_at (occurrence h args)).symbol in
      ap (λ (v : Option ℕ). is_variable_term (elim v [ Some n ↦ Var n | None ↦ App (symbol_number symbols (function_at (occurrence h args)).symbol) (terms (number_in order) symbols args) ])) (number_in-other order (occurrence h args) e)
      ∙ fold-App Bool variable_step f ts

  held : (os left : List Occurrence) → list_all (λ o. list_any (same_name o) left) os ≡ true → list_all (λ n. list_any (nat_eq n) (map (number order) left)) (map (number order) os) ≡ true
  held [] left e = refl
  held (o ∷ os) left e =
      let s = parts_hold (list_any (same_name o) left) (list_all (λ o. list_any (same_name o) left) os) e in
      both_hold (list_any (nat_eq (number order o)) (map (number order) left)) _ (old-number order o left s.0) (held os left s.1)

  sides-rewrite : (e : Equated) → AllByRecursion (IsPlaced order) (side_of e.left_head e.left_args ++ side_of e.right_head e.right_args) → is_variable (occurrence e.left_head e.left_args) ≡ false
      → list_all (λ o. list_any (same_name o) (filter is_variable (side_of e.left_head e.left_args))) (filter is_variable (side_of e.right_head e.right_args)) ≡ true
      → are_rewriting_sides (terms (number_in order) symbols (sides_under (Equation e))) ≡ true
  sides-rewrite e placed no_variable holds =
      let s = all_split (IsPlaced order) (side_of e.left_head e.left_args) (side_of e.right_head e.right_args) placed in
      let left = term-variables order symbols e.left_head e.left_args s.0.0 (terms-variables order symbols e.left_args s.0.1) in
      let right = term-variables order symbols e.right_head e.right_args s.1.0 (terms-variables order symbols e.right_args s.1.1) in
      both_hold _ _ (ap not (left-no-variable e.left_head e.left_args no_variable))
      ((λ i. list_all (λ n. list_any (nat_eq n) (left i)) (right i)) ∙ held (filter is_variable (side_of e.right_head e.right_args)) (filter is_variable (side_of e.left_head e.left_args)) holds)

-- ---- literals

is_no_equation : (h : Head) (args : Sides) (w : Wrapping) → is_word (codes "=") (Word h.at h.text) ≡ false → is_equation (wrapped w (atom_written (Plain h args))) ≡ true → ⊥
is_no_equation h args w other e =
    let name : same_text h.text (codes "=") ≡ true = sym (ap (λ (o : Occurrence). same_text o.name (codes "=")) (wrapped-predicate w (atom_written (Plain h args)))) ∙ e in
    let text : h.text ≡ codes "=" = (bytes_decides h.text (codes "=")).0 name in
    let is : same_text (codes "=") h.text ≡ true = (bytes_decides (codes "=") h.text).1 (sym text) in
    cc

is_equation_there : (l : WrittenLiteral) → is_demodulator (l ∷ []) ≡ true → is_equation l ≡ true
is_equation_there l e =
    let a = parts_hold (l.positive && is_equation l && not (is_one_variable (left_side l))) (left_holds_right l) e in
    let b = parts_hold (l.positive && is_equation l) (not (is_one_variable (left_side l))) a.0 in
    (parts_hold l.positive (is_equation l) b.0).1

equation-case : (symbols : List Symbol) (positive : Bool) (q : Equated) → symbol_number symbols equality ≡ record { 0 = 0 } → AreSides (equation_of positive q.at (side_of q.left_head q.left_args) (side_of q.right_head q.right_args)) q
    → is_demodulator (equation_of positive q.at (side_of q.left_head q.left_args) (side_of q.right_head q.right_args) ∷ []) ≡ true
    → is_rewriting
    (literal_of (number_in (variable_order (equation_of positive q.at (side_of q.left_head q.left_args) (side_of q.right_head q.right_args) ∷ []))) symbols
    (equation_of positive q.at (side_of q.left_head q.left_args) (side_of q.right_head q.right_args)) ∷ []) ≡ true
equation-case symbols positive q zeroth sides e =
    let l = equation_of positive q.at (side_of q.left_head q.left_args) (side_of q.right_head q.right_args) in
    let order = variable_order (l ∷ []) in
    let last = parts_hold (positive && is_equation l && not (is_one_variable (left_side l))) (left_holds_right l) e in
    let rest = parts_hold (positive && is_equation l) (not (is_one_variable (left_side l))) last.0 in
    let first = parts_hold positive (is_equation l) rest.0 in
    let no_variable : is_variable (occurrence q.left_head q.left_args) ≡ false = sym (ap is_one_variable sides.left) ∙ not_true (is_one_variable (left_side l)) rest.1 in
    let holds : list_all (λ o. list_any (same_name o) (filter is_variable (side_of q.left_head q.left_args))) (filter is_variable (side_of q.right_head q.right_args)) ≡ true =
    sym (λ i. list_all (λ o. list_any (same_name o) (filter is_variable (sides.left i))) (filter is_variable (sides.right i))) ∙ last.1 in
    let args = ap (terms_of (number_in order) symbols) (sides_under-arguments (Equation q)) ∙ terms_of-alone (number_in order) symbols (sides_under (Equation q)) in
    both_hold (positive && nat_eq (symbol_number symbols equality).0 0) (are_rewriting_sides (terms_of (number_in order) symbols l.arguments))
    (both_hold positive (nat_eq (symbol_number symbols equality).0 0) first.0 (ap (λ (f : SymId). nat_eq f.0 0) zeroth))
    (ap are_rewriting_sides args ∙ sides-rewrite order symbols q (variables-placed (l ∷ [])).0 no_variable holds)

demodulator-literal : (symbols : List Symbol) (w : Wrapping) (a : Atom) → symbol_number symbols equality ≡ record { 0 = 0 } → AreTokenized (atom_tokens a)
    → is_demodulator (wrapped w (atom_written a) ∷ []) ≡ true → is_rewriting (literal_of (number_in (variable_order (wrapped w (atom_written a) ∷ []))) symbols (wrapped w (atom_written a)) ∷ []) ≡ true
demodulator-literal symbols w (Plain h args) zeroth tokenized e =
    absurd (is_no_equation h args w tokenized.words.0 (is_equation_there (wrapped w (atom_written (Plain h args))) e))
demodulator-literal symbols w (Equation q) zeroth tokenized e = by w e
  where
    sides : AreSides (atom_written (Equation q)) q
    sides = sides_of_equation q tokenized.order

    by : (w : Wrapping) → is_demodulator (wrapped w (atom_written (Equation q)) ∷ []) ≡ true
        → is_rewriting (literal_of (number_in (variable_order (wrapped w (atom_written (Equation q)) ∷ []))) symbols (wrapped w (atom_written (Equation q))) ∷ []) ≡ true
    by Bare e = equation-case symbols q.positive q zeroth (record { left = sides.left; right = sides.right }) e
    by (Negative at) e = equation-case symbols (not q.positive) q zeroth (record { left = sides.left; right = sides.right }) e
    by (Brackets o c) e = equation-case symbols q.positive q zeroth (record { left = sides.left; right = sides.right }) e
    by (NegativeBrackets at o c) e = equation-case symbols (not q.positive) q zeroth (record { left = sides.left; right = sides.right }) e

-- ---- clauses

pub demodulator-rewrites : (symbols : List Symbol) (c : ClauseTree) → symbol_number symbols equality ≡ record { 0 = 0 } → AreTokenized (clause_tokens c) → is_demodulator (clause_written c) ≡ true
    → is_rewriting (clause_of symbols (clause_written c)).literals ≡ true
demodulator-rewrites symbols (Falsum at) zeroth tokenized e = absurd cc
demodulator-rewrites symbols (Literals l (b ∷ bs)) zeroth tokenized e = absurd cc
demodulator-rewrites symbols (Literals l []) zeroth tokenized e =
    let whole = (tokenized_split (literal_tokens l) [] tokenized).0 in
    let inner = (tokenized_split (opening_tokens l.wrapping) (atom_tokens l.atom ++ closing_tokens l.wrapping) whole).1 in
    demodulator-literal symbols l.wrapping l.atom zeroth (tokenized_split (atom_tokens l.atom) (closing_tokens l.wrapping) inner).0 e
