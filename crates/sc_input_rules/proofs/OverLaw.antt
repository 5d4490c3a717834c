-- The terms of written sides are over the symbols.
use Rattle.std.proofs.Common.{◌≡◌, ◌∙◌, sym, ap, subst, refl, ℕ, Bool, true, List, map, length, Option, Some, None}
use Rattle.std.specs.Prelude.{◌&&◌}
use Rattle.std.specs.List.{AllByRecursion, list_all}
use Rattle.std.proofs.lemmas.List.Folds.{list_all-map}
use Rattle.std.proofs.lemmas.List.{length-map}
use Rattle.sc_term.proofs.SubstitutionLaws.{all_split}
use Rattle.sc_term.specs.declared.Term.{Term}
use Rattle.sc_term.specs.declared.Term.TheVariants.{Var, App}
use Rattle.sc_term.proofs.TermLaws.{fold-Var, fold-App}
use Rattle.sc_term.specs.declared.symbol.Role.TheVariants.{Function, Predicate}
use Rattle.sc_term.specs.declared.symbol.Symbol.{Symbol}
use Rattle.sc_input_rules.specs.declared.written.Occurrence.{Occurrence}
use Rattle.sc_input_rules.specs.Numbering.{function_at, predicate_at, symbol_number, literal_of}
use Rattle.sc_input_rules.specs.WellFormed.{is_used_as, over_step, term_is_over, literal_is_over}
use Rattle.sc_input_rules.proofs.Spelling.{Head, Sides, Empty, Entry, occurrence, occurrences}
use Rattle.sc_input_rules.proofs.ClauseSpelling.{Atom, Plain, Equation, LiteralTree, atom_written, literal_written}
use Rattle.sc_input_rules.proofs.Terms.{term_from, terms, terms-length, sides_under}
use Rattle.sc_input_rules.proofs.ClauseParts.{literal-args, literal-arguments, wrapped-predicate}
use Rattle.sc_input_rules.proofs.SymbolNumbers.{IsListed, used_as}
use Rattle.sc_input_rules.proofs.Booleans.{both_hold}

module _ (variable : Occurrence → Option ℕ) (symbols : List Symbol) where
  -- a name that stands for no variable is a symbol
  abbrev pub IsKnown : Occurrence → Type 0
  IsKnown o = variable o ≡ None → IsListed symbols (function_at o).symbol

  term-over : (h : Head) (args : Sides) → IsKnown (occurrence h args) → list_all (term_is_over symbols) (terms variable symbols args) ≡ true
      → term_is_over symbols (term_from variable symbols (occurrence h args) (terms variable symbols args)) ≡ true
  term-over h args known over = by (variable (occurrence h args)) refl
    where
      by : (v : Option ℕ) → variable (occurrence h args) ≡ v
          → term_is_over symbols (elim v [ Some n ↦ Var n | None ↦ App (symbol_number symbols (function_at (occurrence h args)).symbol) (terms variable symbols args) ]) ≡ true
      by (Some n) e = fold-Var Bool (over_step symbols) n
      by None e =
          let f = symbol_number symbols (function_at (occurrence h args)).symbol in
          let ts = terms variable symbols args in
          fold-App Bool (over_step symbols) f ts
          ∙ both_hold (is_used_as symbols Function f (length (map (term_is_over symbols) ts))) (list_all (λ b. b) (map (term_is_over symbols) ts))
          (used_as symbols (function_at (occurrence h args)).symbol (length (map (term_is_over symbols) ts)) (known e) (sym (terms-length variable symbols args) ∙ sym (length-map ts (term_is_over symbols))))
          (list_all-map (λ b. b) (term_is_over symbols) ts ∙ over)

  terms-over : (f : Sides) → AllByRecursion IsKnown (occurrences f) → list_all (term_is_over symbols) (terms variable symbols f) ≡ true
  terms-over Empty known = refl
  terms-over (Entry h args comma others) known =
      let s = all_split IsKnown (occurrences args) (occurrences others) known.1 in
      both_hold _ _ (term-over h args known.0 (terms-over args s.0)) (terms-over others s.1)

  terms-count : (a : Atom) → length (terms variable symbols (sides_under a)) ≡ (atom_written a).predicate.arity
  terms-count (Plain h args) = terms-length variable symbols args
  terms-count (Equation e) = refl

  pub literal-over : (l : LiteralTree) → IsListed symbols (predicate_at (literal_written l).predicate).symbol → AllByRecursion IsKnown (literal_written l).arguments
      → literal_is_over symbols (literal_of variable symbols (literal_written l)) ≡ true
  literal-over l predicate known =
      let p = (predicate_at (literal_written l).predicate).symbol in
      let ts = terms variable symbols (sides_under l.atom) in
      let e = literal-args variable symbols l in
      let n = terms-count l.atom ∙ ap (λ (o : Occurrence). o.arity) (sym (wrapped-predicate l.wrapping (atom_written l.atom))) in
      ap (λ (ts : List Term). is_used_as symbols Predicate (symbol_number symbols p) (length ts) && list_all (term_is_over symbols) ts) e
      ∙ both_hold (is_used_as symbols Predicate (symbol_number symbols p) (length ts)) (list_all (term_is_over symbols) ts)
      (used_as symbols p (length ts) predicate (sym n))
      (terms-over (sides_under l.atom) (subst (AllByRecursion IsKnown) (literal-arguments l) known))
