-- Conclusions with their derivations.
use Rattle.std.specs.Prelude.{◌≡◌, ◌<◌, ◌-◌, ℕ, List, [], ◌∷◌, Option, Some, MatchOption, Contains, take}
use Rattle.sc_term.specs.declared.Literal.{Literal}
use Rattle.sc_term.specs.declared.Clause.{Clause}
use Rattle.sc_term.specs.declared.Line.{Line}
use Rattle.sc_term.specs.declared.Numbered.{Numbered}
use Rattle.sc_term.specs.declared.Step.TheVariants.{Merge, Resolve}
use Rattle.sc_term.specs.Numbering.{numbered}
use Rattle.sc_term.specs.Proof.{AreOpposite}
use Rattle.sc_steps.specs.declared.derivations.derivation.Derived.{Derived}
use Rattle.sc_steps.specs.declared.derivations.made.Made.{Made}
use Rattle.sc_core_rules.specs.Derivation.{Adds, AddsPart, EndsCanonical}
use Rattle.sc_core_rules.specs.Inference.{Inference, Merging, Resolving, Concludes}
use Rattle.sc_resolve.specs.Literals.{pair_of, AreMergeable, AreResolvable}
use Rattle.sc_resolve.specs.Binary.{renamed}

-- what is made is the conclusion of the inference, or else it has none
abbrev pub Makes : Inference → Option Made → Type 0
Makes i made = MatchOption made ((d : Derived) → ¬ Concludes i d) (λ m. Concludes i (record { clause = m.clause; lines = m.lines }))

-- ---- factoring

-- literals l and m of the given clause, of which m has that number, can be merged
pub record AreFactored (given : Numbered) (l m : Literal) (second : ℕ) : Type 0 where
  pub first : ℕ
  pub order : first < second
  pub first_there : numbered given.clause.literals first ≡ Some l
  pub second_there : numbered given.clause.literals second ≡ Some m
  pub can : AreMergeable l m

abbrev pub factoring : Numbered → Literal → Literal → ℕ → Inference
factoring given l m second = record { parents = given ∷ []; pairs = pair_of l m; ending = Merging second }

-- the literal of this number equals an earlier one
pub record IsRepeated (c : Clause) (n : ℕ) : Type 0 where
  pub literal : Literal
  pub there : numbered c.literals n ≡ Some literal
  pub earlier : Contains (take (n - 1) c.literals) literal

-- the lines go from the part of the given clause by merging the literal of this number
pub record AreMerging (given : Numbered) (part : Clause) (second : ℕ) (lines : List Line) : Type 0 where
  pub opening : List Line
  pub line : ℕ
  pub opens : AddsPart [] given part opening line
  pub steps : List Line
  pub ends : Adds opening (Merge line second) steps
  pub canonical_last : EndsCanonical steps lines

-- ---- binary resolution

-- literal l, number a of the given clause, and m, number b of the partner renamed apart, can be resolved on
pub record AreResolved (given partner : Numbered) (l m : Literal) (a b : ℕ) : Type 0 where
  pub left_there : numbered given.clause.literals a ≡ Some l
  pub right_there : numbered (renamed given partner) b ≡ Some m
  pub can : AreResolvable l m

abbrev pub resolution : Numbered → Numbered → Literal → Literal → ℕ → ℕ → Inference
resolution given partner l m a b = record { parents = given ∷ partner ∷ []; pairs = pair_of l m; ending = Resolving (a ∷ []) (b ∷ []) }

-- these literals of the two clauses are opposite
pub record IsOpposed (left : Clause) (a : ℕ) (right : Clause) (b : ℕ) : Type 0 where
  pub l : Literal
  pub m : Literal
  pub left_there : numbered left.literals a ≡ Some l
  pub right_there : numbered right.literals b ≡ Some m
  pub opposite : AreOpposite l m

-- the lines go from the parts of the two clauses by resolving them on these literals
pub record AreResolving (given partner : Numbered) (left right : Clause) (a b : ℕ) (lines : List Line) : Type 0 where
  pub mid : List Line
  pub left_line : ℕ
  pub left_opens : AddsPart [] given left mid left_line
  pub opening : List Line
  pub right_line : ℕ
  pub right_opens : AddsPart mid partner right opening right_line
  pub steps : List Line
  pub ends : Adds opening (Resolve left_line a right_line b) steps
  pub canonical_last : EndsCanonical steps lines
