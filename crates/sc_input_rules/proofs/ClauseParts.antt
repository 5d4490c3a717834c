-- The literals of a clause as a list, each with the arguments of its atom.
use Rattle.std.proofs.Common.{◌≡◌, ◌∙◌, ap, refl, ℕ, List, [], ◌∷◌, map, Option}
use Rattle.sc_term.specs.declared.symbol.Symbol.{Symbol}
use Rattle.sc_input_rules.specs.declared.written.Occurrence.{Occurrence}
use Rattle.sc_input_rules.specs.declared.written.WrittenLiteral.{WrittenLiteral}
use Rattle.sc_input_rules.specs.Numbering.{terms_of, literal_of}
use Rattle.sc_input_rules.proofs.Spelling.{occurrences}
use Rattle.sc_input_rules.proofs.ClauseSpelling.{Wrapping, Bare, Negative, Brackets, NegativeBrackets, LiteralTree, ClauseTree, Falsum, Literals, atom_written, wrapped, literal_written, clause_written}
use Rattle.sc_input_rules.proofs.Terms.{terms, terms_of-alone, sides_under, sides_under-arguments}

abbrev pub literals_in : ClauseTree → List LiteralTree
literals_in (Falsum at) = []
literals_in (Literals l bs) = l ∷ map (λ (b : ℕ × LiteralTree). b.1) bs

written_others : (bs : List (ℕ × LiteralTree)) → map (λ (b : ℕ × LiteralTree). literal_written b.1) bs ≡ map literal_written (map (λ (b : ℕ × LiteralTree). b.1) bs)
written_others [] = refl
written_others (b ∷ bs) = ap (λ ls. literal_written b.1 ∷ ls) (written_others bs)

pub written-literals : (c : ClauseTree) → clause_written c ≡ map literal_written (literals_in c)
written-literals (Falsum at) = refl
written-literals (Literals l bs) = ap (λ ls. literal_written l ∷ ls) (written_others bs)

-- ---- a literal

pub wrapped-arguments : (w : Wrapping) (l : WrittenLiteral) → (wrapped w l).arguments ≡ l.arguments
wrapped-arguments Bare l = refl
wrapped-arguments (Negative at) l = refl
wrapped-arguments (Brackets o c) l = refl
wrapped-arguments (NegativeBrackets at o c) l = refl

pub wrapped-predicate : (w : Wrapping) (l : WrittenLiteral) → (wrapped w l).predicate ≡ l.predicate
wrapped-predicate Bare l = refl
wrapped-predicate (Negative at) l = refl
wrapped-predicate (Brackets o c) l = refl
wrapped-predicate (NegativeBrackets at o c) l = refl

pub literal-arguments : (l : LiteralTree) → (literal_written l).arguments ≡ occurrences (sides_under l.atom)
literal-arguments l = wrapped-arguments l.wrapping (atom_written l.atom) ∙ sides_under-arguments l.atom

pub literal-args : (variable : Occurrence → Option ℕ) (symbols : List Symbol) (l : LiteralTree) → (literal_of variable symbols (literal_written l)).args ≡ terms variable symbols (sides_under l.atom)
literal-args variable symbols l = ap (terms_of variable symbols) (literal-arguments l) ∙ terms_of-alone variable symbols (sides_under l.atom)
