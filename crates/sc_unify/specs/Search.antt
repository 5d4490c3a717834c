-- The search of a variable in what bindings make of a term.
use Rattle.std.specs.Prelude.{◌≡◌, ℕ, List, [], ◌∷◌, ◌++◌, map, nat_eq, Bool, true, false, Option, None, Some, ◌⊎◌}
use Rattle.std.specs.Borrow.{Bor}
use Rattle.std.specs.List.{list_any}
use Rattle.sc_term.specs.declared.Term.{Term}
use Rattle.sc_unify.specs.declared.bound.Binding.{Binding}
use Rattle.sc_unify.specs.Bindings.{lookup}

abbrev pub terms : List (Bor Term) → List Term
terms ts = map (λ t. t.now) ts

abbrev pub Enters : List Binding → ℕ → List ℕ → List ℕ → Option (Bor Term) → Type 0
Enters bs n before now None = (now ≡ before) × ((lookup bs n ≡ None) ⊎ (list_any (λ m. nat_eq m n) before ≡ true))
Enters bs n before now (Some t) = (now ≡ before ++ n ∷ []) × (lookup bs n ≡ Some t.now) × (list_any (λ m. nat_eq m n) before ≡ false)
