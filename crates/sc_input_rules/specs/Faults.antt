-- The first fault: limits against the token at which a production fails.
use Rattle.std.specs.Prelude.{ℕ, ◌-◌, List, [], ◌∷◌, ◌++◌, length, take, Option, Some, None, Result, Ok, Err, unwrap_or}
use Rattle.sc_input_rules.specs.declared.fault.InputKind.{InputKind}
use Rattle.sc_input_rules.specs.declared.fault.Place.{Place}
use Rattle.sc_input_rules.specs.declared.token.Token.{Token}
use Rattle.sc_input_rules.specs.Token.{at_of}
use Rattle.sc_input_rules.specs.Reader.{Read}

-- A limit says of the tokens up to one whether they pass it, and then the byte that is told.
pub record Limit (X : Type 0) : Type 0 where
  pub kind : InputKind
  pub told : X → Option ℕ

abbrev pub place : ℕ → InputKind → Place
place at kind = record { at = at; kind = kind }

-- the first limit of the table that is passed
abbrev pub passed : {X : Type 0} → List (Limit X) → X → Option Place
passed [] x = None
passed (l ∷ ls) x = elim (l.told x) [ Some at ↦ Some (place at l.kind) | None ↦ passed ls x ]

-- the first fault that `fault_at` has at a number of tokens, taking one more at a time behind the earlier ones
abbrev pub passed_behind : (List Token → Option Place) → List Token → List Token → Option Place
passed_behind fault_at earlier [] = None
passed_behind fault_at earlier (t ∷ tokens) =
    elim (fault_at (earlier ++ t ∷ [])) [ Some p ↦ Some p | None ↦ passed_behind fault_at (earlier ++ t ∷ []) tokens ]

-- the fault at the least number of tokens
abbrev pub first_passed : (List Token → Option Place) → List Token → Option Place
first_passed fault_at tokens = passed_behind fault_at [] tokens

-- the tokens before those that are left
abbrev pub before : List Token → List Token → List Token
before left tokens = take (length tokens - length left) tokens

-- where the first token begins, or the end
abbrev pub place_of : ℕ → List Token → ℕ
place_of end [] = end
place_of end (t ∷ tokens) = at_of t

-- The value, where nothing fails and no limit is passed. Else the fault that stands first.
abbrev pub judged : {A : Type 0} → (List Token → Option Place) → ℕ → List Token → Read A → Result (A × List Token) Place
judged fault_at end tokens (Ok r) = elim (first_passed fault_at (before r.1 tokens)) [ None ↦ Ok r | Some p ↦ Err p ]
judged fault_at end tokens (Err f) = Err (unwrap_or (first_passed fault_at (before f.left tokens)) (place (place_of end f.left) f.kind))
