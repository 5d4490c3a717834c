-- When no interpretation over whole numbers makes clauses all true.
use Rattle.std.specs.Prelude.{ℕ, List, Bool, All, IsTrue}
use Rattle.sc_term.specs.declared.SymId.{SymId}
use Rattle.sc_term.specs.declared.Clause.{Clause}
use Rattle.sc_steps.specs.Model.{IsModel}

-- Whatever whole numbers are the elements, at least one, and whatever the symbols mean over them, = being identity,
-- the clauses aren't all true. Which numbers are elements is a test, so that the sentence speaks of all of them at once.
pub record HasNoModel (inputs : List Clause) : Type 0 where
  pub none : (is_element : ℕ → Bool) (element : ℕ) (function : SymId → List ℕ → ℕ) (predicate : SymId → List ℕ → Bool)
      → IsTrue (is_element element)
      → ((f : SymId) (values : List ℕ) → All (λ n. IsTrue (is_element n)) values → IsTrue (is_element (function f values)))
      → ¬ IsModel (λ n. IsTrue (is_element n)) function predicate inputs
