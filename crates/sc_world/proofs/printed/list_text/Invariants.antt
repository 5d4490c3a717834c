use Rattle.std.proofs.Common.{◌≡◌, map, take}
use Rattle.sc_text_run_rules.specs.RunValue.{version_value}
use Rattle.sc_world.specs.Printed.{printed}
use Rattle.sc_world.proofs.printed.list_text.Given as goal

abbrev pub invariant-loop-version : goal.invariant-loop-version
invariant-loop-version l = map version_value l.texts ≡ map printed (take l.version-index l.versions)
