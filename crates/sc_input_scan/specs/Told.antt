-- What a reader's call tells of a production.
use Rattle.std.specs.Prelude.{◌≡◌, ℕ, List, length, Option, Some, None, Result, Ok, Err}
use Rattle.sc_input_rules.specs.declared.fault.InputKind.{InputKind}
use Rattle.sc_input_rules.specs.declared.token.Token.{Token}
use Rattle.sc_input_rules.specs.Reader.{Read}
use Rattle.sc_input_scan.specs.declared.stop.Stop.{Stop}
use Rattle.sc_input_scan.specs.declared.stop.Stop.TheVariants.{Memory, At}

-- how many tokens are left where it fails, and the kind
abbrev pub failure_of : {A : Type 0} → Read A → Option (ℕ × InputKind)
failure_of (Ok r) = None
failure_of (Err f) = Some (length f.left, f.kind)

abbrev pub Fails : {A : Type 0} → Stop → Read A → Type 0
Fails Memory read = Unit {0}
Fails (At left kind) read = failure_of read ≡ Some (left, kind)

-- what a call returned, seen by view, is what reading gives, unless memory ran out
abbrev pub Gives : {X A : Type 0} → (X → A × List Token) → Result X Stop → Read A → Type 0
Gives view (Ok x) read = read ≡ Ok (view x)
Gives view (Err e) read = Fails e read
