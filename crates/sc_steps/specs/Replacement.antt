-- Terms and literals in which a subterm is replaced.
use Rattle.std.specs.Prelude.{◌≡◌, ℕ, List, [], ◌∷◌, true}
use Rattle.sc_term.specs.declared.SymId.{SymId}
use Rattle.sc_term.specs.declared.Term.{Term}
use Rattle.sc_term.specs.declared.Term.TheVariants.{App}
use Rattle.sc_term.specs.declared.Literal.{Literal}
use Rattle.sc_term.specs.declared.Side.{Side}
use Rattle.sc_term.specs.Path.{IsReplaced}
use Rattle.sc_term.specs.Proof.{chosen, other}
use Rattle.sc_term.specs.Refuted.{equation, equals}

-- the term becomes `new` where its subterm s at the path, the term itself for the empty path, is replaced by t
abbrev pub IsTermReplaced : Term → List ℕ → Term → Term → Term → Type 0
IsTermReplaced old [] s t new = (old ≡ s) × (new ≡ t)
IsTermReplaced old (i ∷ path) s t new =
    (f : SymId) × (inner : List Term) × (changed : List Term) × (old ≡ App f inner) × IsReplaced inner (i ∷ path) s t changed × (new ≡ App f changed)

-- literal m becomes `changed` where the chosen side of l, a positive equation, is replaced by the other at the path
abbrev pub IsLiteralReplaced : Literal → Side → Literal → List ℕ → Literal → Type 0
IsLiteralReplaced l side m path changed =
    (s : Term) × (t : Term) × (l ≡ equation true s t)
    × (args : List Term) × IsReplaced m.args path (chosen side s t) (other side s t) args × (changed ≡ record m { args = args })

-- the literal is an equation of s and t
abbrev pub AreSides : Literal → Term → Term → Type 0
AreSides l s t = (l.pred ≡ equals) × (l.args ≡ s ∷ t ∷ [])

-- l is an equation, and becomes `turned` where its sides are exchanged
abbrev pub IsLiteralFlipped : Literal → Literal → Type 0
IsLiteralFlipped l turned =
    (s : Term) × (t : Term) × (l.pred ≡ equals) × (l.args ≡ s ∷ t ∷ []) × (turned ≡ record l { args = t ∷ s ∷ [] })
