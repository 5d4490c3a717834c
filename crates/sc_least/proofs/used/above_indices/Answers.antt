use Rattle.std.proofs.Common.{◌∙◌, ap}
use Rattle.sc_least.specs.Bound.{above}
use Rattle.sc_least.proofs.AboveLaws.{indices_of}
use Rattle.sc_least.proofs.used.above_indices.Goals as goal

pub returns : goal.returns
returns c entry is same = c.above_digits.ensures ∙ ap above (indices_of c.args.sig.now c.args.size c.args.cell c.symbol.result.now entry c.symbol.ensures is same)
