-- Printed texts, by computation.
use Rattle.std.proofs.Common.{◌≡◌, refl, List, [], ◌∷◌, false}
use Rattle.std.specs.Prelude.{codes}
use Rattle.sc_term.specs.declared.Term.TheVariants.{Var, App}
use Rattle.sc_term.specs.declared.symbol.Role.TheVariants.{Function, Predicate}
use Rattle.sc_term.specs.declared.symbol.Symbol.{Symbol}
use Rattle.sc_term.specs.Symbol.{equality}
use Rattle.sc_text_rules.proofs.TextLaws.{text-Var, text-App}
use Rattle.std.specs.Fmt.{digits}
use Rattle.sc_text_rules.specs.ClauseText.{term_text, clause_text}

abbrev symbols : List Symbol
symbols =
    equality ∷ record { name = codes "p"; arity = 1; role = Predicate } ∷ record { name = codes "a"; arity = 0; role = Function } ∷ record { name = codes "f"; arity = 2; role = Function } ∷ []

one : term_text symbols (Var 3) ≡ codes "x3"
unfolding digits
one = rw text-Var refl

three : clause_text symbols (record { literals = record { positive = false; pred = record { 0 = 1 }; args = Var 0 ∷ [] } ∷ record { positive = false; pred = record { 0 = 0 }; args = Var 0 ∷ App (record { 0 = 2 }) [] ∷ [] } ∷ [] }) ≡ codes "-p(x0) | x0!=a"
unfolding digits
three = simp (text-App, text-Var) refl

two : term_text symbols (App (record { 0 = 3 }) (Var 0 ∷ App (record { 0 = 2 }) [] ∷ [])) ≡ codes "f(x0,a)"
unfolding digits
two = simp (text-App, text-Var) refl
