-- When a reader's refusal stands.
use Rattle.std.specs.Prelude.{◌≡◌, ⊤, Result, Err}
use Rattle.sc_input_rules.specs.declared.fault.Place.{Place}
use Rattle.sc_input.specs.declared.refusal.InputError.{InputError}
use Rattle.sc_input.specs.declared.refusal.InputError.TheVariants.{Refused, OutOfMemory}

-- a refusal has the place and kind that the definition tells; want of memory says nothing
abbrev pub Refuses : {X : Type 0} → InputError → Result X Place → Type 0
Refuses (Refused p) meant = meant ≡ Err p
Refuses OutOfMemory meant = ⊤
