use Rattle.std.proofs.Common.{length}
use Rattle.sc_top_words.specs.Words.{texts}
use Rattle.sc_top_words.specs.Taking.{AreInRange}
use Rattle.sc_top_words.proofs.OptionLaws.{IsUnder}
use Rattle.sc_top_words.proofs.taking.read_options.Given as goal

abbrev pub invariant-loop-rest : goal.invariant-loop-rest
invariant-loop-rest l = record {
  under : IsUnder (texts l.words) (texts l.rest) l.taken;
  in_range : AreInRange l.taken;
}

abbrev pub decreases-loop-rest : goal.decreases-loop-rest
decreases-loop-rest l = length l.rest
