-- Equations between terms, and which substitutions solve them.
use Rattle.std.specs.Prelude.{◌≡◌, ◌≢◌, ◌<◌, ◌^◌, ℕ, List, [], ◌∷◌, map, sum, length, ◌↔◌, ◌⊎◌, Option, None, Some}
use Rattle.std.specs.List.{AllByRecursion}
use Rattle.sc_term.specs.declared.SymId.{SymId}
use Rattle.sc_term.specs.declared.Term.{Term, Var}
use Rattle.sc_term.specs.declared.Term.TheVariants.{App}
use Rattle.sc_term.specs.Term.{term_under}
use Rattle.sc_term.specs.Substitution.{Substitution, IsInstanceOf}
use Rattle.sc_unify.specs.declared.bound.Bound.{Bound}
use Rattle.sc_unify.specs.declared.bound.Binding.{Binding}
use Rattle.sc_unify.specs.declared.equation.Equation.{Equation}
use Rattle.sc_unify.specs.declared.equation.Demand.{Demand}
use Rattle.sc_unify.specs.declared.equation.Demand.TheVariants as demand
use Rattle.sc_unify.specs.declared.solve.Next.{Next}
use Rattle.sc_unify.specs.declared.solve.Next.TheVariants as next
use Rattle.sc_unify.specs.Bindings.{lookup, bindings, Respects, AreSolved, IsWalked, cost}

pub record Equal : Type 0 where
  pub left : Term
  pub right : Term

abbrev pub equations : List Equation → List Equal
equations es = map (λ (e : Equation). record { left = e.left.now; right = e.right.now }) es

-- the equations of two lists, place by place
abbrev pub equated : List Term → List Term → List Equal
equated [] ys = []
equated (x ∷ xs) [] = []
equated (x ∷ xs) (y ∷ ys) = record { left = x; right = y } ∷ equated xs ys

-- the substitution makes the two sides of each equation equal
abbrev pub Solves : Substitution → List Equal → Type 0
Solves u es = AllByRecursion (λ (e : Equal). term_under u e.left ≡ term_under u e.right) es

abbrev pub left_cost : List Binding → List Equal → ℕ
left_cost bs es = sum (map (λ (e : Equal). cost bs e.left) es)

-- the two are the variable, in either order, and a term other than the variable
pub record AreBinding (l r : Term) (v : ℕ) (t : Term) : Type 0 where
  pub sides : ((l ≡ Var v) × (r ≡ t)) ⊎ ((r ≡ Var v) × (l ≡ t))
  pub other : t ≢ Var v
  pub small : v < 2 ^ 32

-- the two have one symbol and as many arguments
abbrev pub AreArguments : Term → Term → List Term → List Term → Type 0
AreArguments l r xs ys = (f : SymId) × (l ≡ App f xs) × (r ≡ App f ys) × (length xs ≡ length ys)

-- what it takes for two terms to become equal
abbrev pub Asks : Term → Term → Demand → Type 0
Asks l r demand.Nothing = l ≡ r
Asks l r demand.Clash = (u : Substitution) → term_under u l ≢ term_under u r
Asks l r (demand.Binding b) = AreBinding l r b.variable b.term.now
Asks l r (demand.Arguments xs ys) = AreArguments l r xs.now ys.now

-- where the bindings are respected, the equations hold exactly where those that are left do and the variable has the term
pub record ComeToBinding (bs : List Binding) (before now : List Equal) (v : ℕ) (t : Term) : Type 0 where
  pub free : lookup bs v ≡ None
  pub walked : IsWalked bs t
  pub other : t ≢ Var v
  pub small : v < 2 ^ 32
  pub same : (u : Substitution) → Respects u bs → Solves u before ↔ (Solves u now × (u v ≡ term_under u t))

-- what the equations come to where the bindings are respected
abbrev pub ComesTo : List Binding → List Equal → List Equal → Next → Type 0
ComesTo bs before now next.Solved = (u : Substitution) → Respects u bs → Solves u before
ComesTo bs before now next.Clash = (u : Substitution) → Respects u bs → ¬ Solves u before
ComesTo bs before now (next.Binding b) = ComeToBinding bs before now b.variable b.term.now

abbrev pub HasNoSolution : List Equal → Type 0
HasNoSolution es = (u : Substitution) → ¬ Solves u es

-- the bindings are respected by the solutions alone
pub record IsSolution (es : List Equal) (bs : List Binding) : Type 0 where
  pub solved : AreSolved bs
  pub same : (u : Substitution) → Solves u es ↔ Respects u bs

-- a solution, of which each solution is an instance
pub record IsMostGeneralSolution (es : List Equal) (s : Substitution) : Type 0 where
  pub solves : Solves s es
  pub general : (u : Substitution) → Solves u es → IsInstanceOf s u
