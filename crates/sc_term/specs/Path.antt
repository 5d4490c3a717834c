-- Subterms by their path: the places, from 1, of the arguments that lead to them. A path isn't empty.
use Rattle.std.specs.Prelude.{◌≡◌, ℕ, List, [], ◌∷◌, Some}
use Rattle.sc_term.specs.declared.SymId.{SymId}
use Rattle.sc_term.specs.declared.Term.{Term}
use Rattle.sc_term.specs.declared.Term.TheVariants.{App}
use Rattle.sc_term.specs.Numbering.{numbered, with_element}

-- in the arguments the subterm at the path is s
abbrev pub IsSubtermAt : List Term → List ℕ → Term → Type 0
IsSubtermAt args [] s = ⊥
IsSubtermAt args (i ∷ []) s = numbered args i ≡ Some s
IsSubtermAt args (i ∷ j ∷ path) s =
    (f : SymId) × (inner : List Term) × (numbered args i ≡ Some (App f inner)) × IsSubtermAt inner (j ∷ path) s

-- the arguments become `new` where the subterm s at the path is replaced by t
abbrev pub IsReplaced : List Term → List ℕ → Term → Term → List Term → Type 0
IsReplaced args [] s t new = ⊥
IsReplaced args (i ∷ []) s t new = (numbered args i ≡ Some s) × (new ≡ with_element args i t)
IsReplaced args (i ∷ j ∷ path) s t new =
    (f : SymId) × (inner : List Term) × (changed : List Term) × (numbered args i ≡ Some (App f inner))
    × IsReplaced inner (j ∷ path) s t changed × (new ≡ with_element args i (App f changed))
