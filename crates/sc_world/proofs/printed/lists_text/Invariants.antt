use Rattle.std.proofs.Common.{◌≡◌, map, take}
use Rattle.sc_text_run_rules.specs.RunValue.{version_value}
use Rattle.sc_world.specs.Printed.{all_printed}
use Rattle.sc_world.proofs.printed.lists_text.Given as goal

abbrev pub invariant-loop-versions : goal.invariant-loop-versions
invariant-loop-versions l = map (map version_value) l.texts ≡ all_printed (take l.versions-index l.lists)
