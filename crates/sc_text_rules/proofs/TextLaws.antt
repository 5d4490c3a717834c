-- What the text of a term is at a variable and at a symbol.
use Rattle.std.proofs.Common.{ℕ, List, ◌++◌, ◌≡◌, map}
use Rattle.std.specs.Prelude.{codes, decimal}
use Rattle.sc_term.specs.declared.SymId.{SymId}
use Rattle.sc_term.specs.declared.Term.{Term, Var}
use Rattle.sc_term.specs.declared.Term.TheVariants.{App}
use Rattle.sc_term.proofs.TermLaws.{fold-Var, fold-App}
use Rattle.sc_term.specs.declared.symbol.Symbol.{Symbol}
use Rattle.sc_text_rules.specs.ClauseText.{term_text, text_step, applied, name_of}

pub text-Var : (symbols : List Symbol) (n : ℕ) → term_text symbols (Var n) ≡ codes "x" ++ decimal n
text-Var symbols n = fold-Var (List ℕ) (text_step symbols) n

pub text-App : (symbols : List Symbol) (f : SymId) (ts : List Term) → term_text symbols (App f ts) ≡ applied (name_of symbols f) (map (term_text symbols) ts)
text-App symbols f ts = fold-App (List ℕ) (text_step symbols) f ts
