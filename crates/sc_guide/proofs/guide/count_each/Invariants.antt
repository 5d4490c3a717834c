use Rattle.std.proofs.Common.{◌≡◌, take}
use Rattle.sc_guide.specs.Guided.{lengths_of}
use Rattle.sc_guide.proofs.guide.count_each.Given as goal

abbrev pub invariant-loop-versions : goal.invariant-loop-versions
invariant-loop-versions l = l.counts ≡ lengths_of (take l.versions-index l.lists)
