use Rattle.std.specs.Prelude.{codes}
use Rattle.sc_top.proofs.BenchLaws.{rung_more}
use Rattle.sc_top.proofs.bench.ladder.Goals as goal

pub loop-i-preserved : goal.loop-i-preserved
loop-i-preserved c = rung_more c.loop-i.i (codes "set(binary_res).\nlist(usable).\n") c.loop-i.text.items c.add_rung.new.text.items c.loop-i.invariant c.in_ok-add_rung.ensures
