-- Terms of names whose variables are clipped are the clipped terms of these names.
use Rattle.std.proofs.Common.{◌≡◌, ◌∙◌, sym, ap, refl, ℕ, List, [], ◌∷◌, ◌++◌, map, take, drop, Option, Some, None, Ok, Err, false, length}
use Rattle.std.specs.Prelude.{option_map, flat_map}
use Rattle.std.proofs.lemmas.List.{take-map, drop-map, map-append}
use Rattle.std.proofs.lemmas.List.Concat.{flat_map-cons}
use Rattle.sc_term.specs.declared.SymId.{SymId}
use Rattle.sc_term.specs.declared.Term.{Term}
use Rattle.sc_term.specs.declared.Term.TheVariants.{Var, App}
use Rattle.sc_term.proofs.TermLaws.{fold-Var, fold-App}
use Rattle.sc_term.specs.declared.Clause.{Clause}
use Rattle.sc_term.specs.declared.symbol.Symbol.{Symbol}
use Rattle.sc_input_rules.specs.declared.token.Token.{Token}
use Rattle.sc_input_rules.specs.declared.token.Sign.TheVariants.{Close, Comma, Stop}
use Rattle.sc_input_rules.specs.Token.{is_sign}
use Rattle.sc_input_rules.specs.Reader.{Read, ◌>>=◌, next_is, the_sign, separated}
use Rattle.sc_input_rules.specs.ClauseGrammar.{side, clause}
use Rattle.sc_input_rules.specs.declared.written.Occurrence.{Occurrence}
use Rattle.sc_input_rules.specs.declared.written.WrittenLiteral.{WrittenLiteral}
use Rattle.sc_input_rules.specs.Syntax.{Side, WrittenClause}
use Rattle.sc_input_rules.specs.Numbering.{function_at, symbol_number, term_at, terms_of, literal_of}
use Rattle.sc_text_rules.specs.TextWords.{text_variable}
use Rattle.sc_text_rules.specs.ProofGrammar.{text_clause, text_terms}
use Rattle.sc_text_section.specs.Clipped.{clipped, clipped_at, clipped_term, clipped_literal, clipped_clause, seen_by}
use Rattle.sc_text_section.specs.Numerals.{clipped_variable}
use Rattle.sc_text_section.proofs.Sequences.{second_of_two}

abbrev term_from : Option ℕ → SymId → List Term → Term
term_from v f args = elim v [ Some n ↦ Var n | None ↦ App f args ]

from_clipped : (v : Option ℕ) (f : SymId) (k : ℕ) (later : List Term) → term_from (option_map clipped v) f (take k (map clipped_term later)) ≡ clipped_term (term_from v f (take k later))
from_clipped (Some n) f k later = sym (fold-Var Term clipped_at n)
from_clipped None f k later = ap (App f) (take-map clipped_term k later) ∙ sym (fold-App Term clipped_at f (take k later))

pub terms-clipped : (symbols : List Symbol) (os : List Occurrence) → terms_of clipped_variable symbols os ≡ map clipped_term (terms_of text_variable symbols os)
terms-clipped symbols [] = refl
terms-clipped symbols (o ∷ os) =
    let later = terms_of text_variable symbols os in
    let behind = terms-clipped symbols os in
    (λ j. term_at clipped_variable symbols o (behind j) ∷ drop o.arity (behind j))
    ∙ (λ j. from_clipped (text_variable o) (symbol_number symbols (function_at o).symbol) o.arity later j ∷ drop-map clipped_term o.arity later j)

pub literal-clipped : (symbols : List Symbol) (l : WrittenLiteral) → literal_of clipped_variable symbols l ≡ clipped_literal (literal_of text_variable symbols l)
literal-clipped symbols l = λ j. record { positive = l.positive; pred = (literal_of text_variable symbols l).pred; args = terms-clipped symbols l.arguments j }

pub literals-clipped : (symbols : List Symbol) (ls : List WrittenLiteral) → map (literal_of clipped_variable symbols) ls ≡ map clipped_literal (map (literal_of text_variable symbols) ls)
literals-clipped symbols [] = refl
literals-clipped symbols (l ∷ ls) = λ j. literal-clipped symbols l j ∷ literals-clipped symbols ls j

pub sides-clipped : (symbols : List Symbol) (ss : List Side) → flat_map (terms_of clipped_variable symbols) ss ≡ map clipped_term (flat_map (terms_of text_variable symbols) ss)
sides-clipped symbols [] = refl
sides-clipped symbols (s ∷ ss) =
    flat_map-cons (terms_of clipped_variable symbols) s ss
    ∙ (λ j. terms-clipped symbols s j ++ sides-clipped symbols ss j)
    ∙ sym (map-append clipped_term (terms_of text_variable symbols s) (flat_map (terms_of text_variable symbols) ss))
    ∙ sym (ap (map clipped_term) (flat_map-cons (terms_of text_variable symbols) s ss))

abbrev with_stop : List Symbol → WrittenClause × List Token → Read Clause
with_stop symbols written = the_sign Stop written.1 >>= λ stop. Ok (record { literals = map (literal_of text_variable symbols) written.0 }, stop.1)

-- the clause that is made of what was written, and its full stop
pub clause_made : (symbols : List Symbol) (tokens rest after : List Token) (written : WrittenClause) (made : Clause) → clause tokens ≡ Ok (written, rest) → the_sign Stop rest ≡ Ok (tt, after)
    → made ≡ record { literals = map (literal_of clipped_variable symbols) written } → seen_by clipped_clause (text_clause symbols tokens) ≡ Ok (made, after)
clause_made symbols tokens rest after written made read stop is =
    ap (λ (r : Read WrittenClause). seen_by clipped_clause (r >>= with_stop symbols)) read
    ∙ ap (λ (r : Read (Unit {0})). seen_by clipped_clause (r >>= λ s. Ok (record { literals = map (literal_of text_variable symbols) written }, s.1))) stop
    ∙ sym (ap (λ (c : Clause). Ok (c, after)) is ∙ (λ j. Ok (record { literals = literals-clipped symbols written j }, after)))

sides_seen : (symbols : List Symbol) (r : Read (List Side))
    → seen_by (flat_map (terms_of clipped_variable symbols)) r ≡ seen_by (map clipped_term) (r >>= λ ss. Ok (flat_map (terms_of text_variable symbols) ss.0, ss.1))
sides_seen symbols (Ok r) = ap (λ (ts : List Term). Ok (ts, r.1)) (sides-clipped symbols r.0)
sides_seen symbols (Err e) = refl

-- where there is a term
pub some_terms_made : (symbols : List Symbol) (tokens : List Token) → next_is (is_sign Close) tokens ≡ false
    → seen_by (flat_map (terms_of clipped_variable symbols)) (separated Comma side (length tokens) tokens) ≡ seen_by (map clipped_term) (text_terms symbols tokens)
some_terms_made symbols tokens e =
    let sides = separated Comma side (length tokens) tokens in
    sides_seen symbols sides
    ∙ ap (seen_by (map clipped_term)) (sym (second_of_two (next_is (is_sign Close) tokens) (Ok ([], tokens)) (sides >>= λ ss. Ok (flat_map (terms_of text_variable symbols) ss.0, ss.1)) e))
