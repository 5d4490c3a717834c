-- What substitutions, variables and widths are at a variable and at a symbol.
use Rattle.std.proofs.Common.{◌≡◌, ℕ, List, [], ◌∷◌, map}
use Rattle.sc_term.specs.declared.SymId.{SymId}
use Rattle.sc_term.specs.declared.Term.{Term, Var}
use Rattle.sc_term.specs.declared.Term.TheVariants.{App}
use Rattle.sc_term.specs.Term.{joined, under_step, term_under, variables_step, term_variables}
use Rattle.sc_term.proofs.TermLaws.{fold-Var, fold-App}

pub under-Var : (s : ℕ → Term) (n : ℕ) → term_under s (Var n) ≡ s n
under-Var s n = fold-Var Term (under_step s) n

pub under-App : (s : ℕ → Term) (f : SymId) (xs : List Term) → term_under s (App f xs) ≡ App f (map (term_under s) xs)
under-App s f xs = fold-App Term (under_step s) f xs

pub variables-Var : (n : ℕ) → term_variables (Var n) ≡ n ∷ []
variables-Var n = fold-Var (List ℕ) variables_step n

pub variables-App : (f : SymId) (xs : List Term) → term_variables (App f xs) ≡ joined (map term_variables xs)
variables-App f xs = fold-App (List ℕ) variables_step f xs
