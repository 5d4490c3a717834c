-- The sites of two clauses, loop by loop.
use Rattle.std.specs.Prelude.{◌≡◌, ◌⊎◌, ℕ, ◌+◌, List, [], true, Some, slice_get, length}
use Rattle.sc_term.specs.declared.Side.TheVariants.{Left, Right}
use Rattle.sc_term.specs.declared.Term.{Term}
use Rattle.sc_term.specs.declared.Literal.{Literal}
use Rattle.sc_term.specs.declared.Numbered.{Numbered}
use Rattle.sc_term.specs.Refuted.{equation}
use Rattle.sc_core_rules.specs.declared.site.ParaSite.{ParaSite}
use Rattle.sc_core_rules.specs.Inference.{Inference}
use Rattle.sc_core_rules.specs.Paramodulation.{IsCompound, IsPara, atom_with}
use Rattle.sc_resolve.specs.Extending.{Below}
use Rattle.sc_para.specs.declared.spot.Spot.{Spot}
use Rattle.sc_para.specs.Subterms.{IsUnder}

-- a site of the literal at k
abbrev pub IsWithTarget : Literal → Spot → List Literal → ℕ → ParaSite → Type 0
IsWithTarget source spot literals k x =
    (m : Literal) × (slice_get literals k ≡ Some m) × IsUnder source (record spot { into_lit = k + 1 }) [] m.args x

-- a site of this side, which is no variable
abbrev pub IsWithSide : Spot → Term → List Literal → ParaSite → Type 0
IsWithSide spot side literals x = IsCompound side × Below (IsWithTarget (atom_with side) spot literals) (length literals) x

-- a site of one side of an equation
abbrev pub IsWithEquation : Spot → Term → Term → List Literal → ParaSite → Type 0
IsWithEquation spot left right literals x =
    IsWithSide (record spot { side = Left }) left literals x ⊎ IsWithSide (record spot { side = Right }) right literals x

-- the literal is a positive equation, and this a site of one side of it
abbrev pub IsWithSource : Spot → Literal → List Literal → ParaSite → Type 0
IsWithSource spot l literals x = (left : Term) × (right : Term) × (l ≡ equation true left right) × IsWithEquation spot left right literals x

-- the same for the literal at k
abbrev pub IsWithLiteral : Spot → List Literal → List Literal → ℕ → ParaSite → Type 0
IsWithLiteral spot sources literals k x =
    (l : Literal) × (slice_get sources k ≡ Some l) × IsWithSource (record spot { from_lit = k + 1 }) l literals x

-- a site of the two clauses
abbrev pub IsPairSite : Numbered → Numbered → ParaSite → Type 0
IsPairSite from into x = (i : Inference) × IsPara from into x i

-- a site of paramodulation from the given clause into the usable clause at k
abbrev pub IsIntoPartner : Numbered → List Numbered → ℕ → ParaSite → Type 0
IsIntoPartner given usable k x = (p : Numbered) × (slice_get usable k ≡ Some p) × IsPairSite given p x

-- a site of paramodulation from the usable clause at k into the given clause
abbrev pub IsFromPartner : Numbered → List Numbered → ℕ → ParaSite → Type 0
IsFromPartner given usable k x = (p : Numbered) × (slice_get usable k ≡ Some p) × IsPairSite p given x
