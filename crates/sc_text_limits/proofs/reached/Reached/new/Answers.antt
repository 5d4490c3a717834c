use Rattle.std.proofs.Common.{refl, []}
use Rattle.sc_text_limits.proofs.Going.{starts_within}
use Rattle.sc_text_limits.proofs.reached.Reached.new.Goals as goal

pub returns : goal.returns
returns c = λ symbols tokens.
    record { within = starts_within tokens [] c.new.result (c.new.ensures.kept tokens) c.new.ensures.start c.new.ensures.weight c.new.ensures.around; untold = refl }
