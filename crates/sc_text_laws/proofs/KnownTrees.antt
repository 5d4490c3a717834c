-- Trees of clauses all of whose names are known.
use Rattle.std.proofs.Common.{◌≡◌, ℕ, false, List}
use Rattle.std.specs.List.{AllByRecursion}
use Rattle.sc_term.specs.declared.symbol.Symbol.{Symbol}
use Rattle.sc_input_rules.proofs.Spelling.{occurrence, occurrences, side_of}
use Rattle.sc_input_rules.proofs.ClauseSpelling.{Atom, Plain, Equation, Wrapping, Bare, Negative, Brackets, NegativeBrackets, LiteralTree, ClauseTree, Falsum, Literals}
use Rattle.sc_input_rules.proofs.ArityLaw.{SmallArity}
use Rattle.sc_text_rules.specs.TextWords.{is_unknown_atom}
use Rattle.sc_text_laws.proofs.KnownNames.{KnownTerm}

-- no parentheses stand round the literal
abbrev pub IsPlainWrapping : Wrapping → Type 0
IsPlainWrapping Bare = Unit {0}
IsPlainWrapping (Negative at) = Unit {0}
IsPlainWrapping (Brackets o c) = ⊥
IsPlainWrapping (NegativeBrackets at o c) = ⊥

abbrev pub AtomKnown : List Symbol → Atom → Type 0
AtomKnown symbols (Plain h args) = (is_unknown_atom symbols (occurrence h args) ≡ false) × SmallArity (occurrence h args) × AllByRecursion (KnownTerm symbols) (occurrences args)
AtomKnown symbols (Equation e) = AllByRecursion (KnownTerm symbols) (side_of e.left_head e.left_args) × AllByRecursion (KnownTerm symbols) (side_of e.right_head e.right_args)

abbrev pub LiteralKnown : List Symbol → LiteralTree → Type 0
LiteralKnown symbols l = IsPlainWrapping l.wrapping × AtomKnown symbols l.atom

abbrev pub ClauseKnown : List Symbol → ClauseTree → Type 0
ClauseKnown symbols (Falsum at) = Unit {0}
ClauseKnown symbols (Literals l bs) = LiteralKnown symbols l × AllByRecursion (λ (b : ℕ × LiteralTree). LiteralKnown symbols b.1) bs
