-- Variables bound to terms one after another, and the substitution that they make.
use Rattle.std.specs.Prelude.{◌≡◌, ◌≢◌, ℕ, ◌+◌, List, [], ◌∷◌, map, nat_eq, if◌then◌else◌, Bool, Option, None, Some, MatchOption, IfSome}
use Rattle.std.specs.List.{fold, AllByRecursion, list_any}
use Rattle.sc_term.specs.declared.SymId.{SymId}
use Rattle.sc_term.specs.declared.Term.{Term, Var}
use Rattle.sc_term.specs.declared.Term.TheVariants.{App}
use Rattle.sc_term.specs.Term.{term_under, term_variables, term_weight}
use Rattle.sc_term.specs.Substitution.{Substitution}
use Rattle.sc_unify.specs.declared.bound.Bound.{Bound}
use Rattle.sc_unify.specs.declared.bound.Binding.{Binding}

abbrev pub bindings : List Bound → List Binding
bindings bs = map (λ (b : Bound). record { variable = b.variable; term = b.term.now }) bs

-- the term that the variable is bound to first
abbrev pub lookup : List Binding → ℕ → Option Term
lookup [] n = None
lookup (b ∷ bs) n = if nat_eq b.variable n then Some b.term else lookup bs n

-- t for v, and each other variable for itself
abbrev pub single : ℕ → Term → Substitution
single v t n = if nat_eq v n then t else Var n

abbrev pub bind_step : (Term → Term) → Substitution → Binding → Substitution
bind_step wrap s b n = term_under (single b.variable (wrap (term_under s b.term))) (s n)

-- what the bindings make of each variable
unfoldable pub finished : List Binding → Substitution
finished bs = fold (bind_step (λ t. t)) Var bs

abbrev pub mark : Term → Term
mark t = App (record { 0 = 0 }) (t ∷ [])

-- the same with a symbol more wherever a bound variable was replaced
unfoldable pub marked : List Binding → Substitution
marked bs = fold (bind_step mark) Var bs

unfoldable pub cost : List Binding → Term → ℕ
cost bs t = term_weight (term_under (marked bs) t)

-- the variables that are bound, each with the term that the bindings make of it, written out
abbrev pub written : List Binding → List Binding
written bs = map (λ (b : Binding). record { variable = b.variable; term = finished bs b.variable }) bs

-- the term doesn't have the variable
abbrev pub Avoids : ℕ → Term → Type 0
Avoids v t = AllByRecursion (λ n. n ≢ v) (term_variables t)

abbrev pub occurs_in : ℕ → Term → Bool
occurs_in v t = list_any (nat_eq v) (term_variables t)

-- the substitution makes each bound variable and its term equal
abbrev pub Respects : Substitution → List Binding → Type 0
Respects u bs = AllByRecursion (λ (b : Binding). u b.variable ≡ term_under u b.term) bs

-- s gives for a bound variable what it makes of its term, and leaves each other variable as it is
abbrev pub IsFixed : (Term → Term) → Substitution → List Binding → Type 0
IsFixed wrap s bs = (n : ℕ) → MatchOption (lookup bs n) (s n ≡ Var n) (λ t. s n ≡ wrap (term_under s t))

pub record AreSolvedBy (bs : List Binding) (s m : Substitution) : Type 0 where
  pub fixed : IsFixed (λ t. t) s bs
  pub respected : Respects s bs
  pub general : (u : Substitution) → Respects u bs → (n : ℕ) → u n ≡ term_under u (s n)
  pub counted : IsFixed mark m bs
  pub alike : (n : ℕ) → term_variables (s n) ≡ term_variables (m n)

abbrev pub AreSolved : List Binding → Type 0
AreSolved bs = AreSolvedBy bs (finished bs) (marked bs)

-- the term isn't a bound variable
abbrev pub IsWalked : List Binding → Term → Type 0
IsWalked bs t = (n : ℕ) → t ≡ Var n → lookup bs n ≡ None
