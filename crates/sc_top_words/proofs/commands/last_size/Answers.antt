use Rattle.std.proofs.Common.{arith}
use Rattle.sc_top_words.proofs.OptionLaws.{last_is_small}
use Rattle.sc_top_words.proofs.commands.last_size.Goals as goal

pub overflow_cast-result : goal.overflow_cast-result
overflow_cast-result c =
    let small = last_is_small c.args.taken c.in-Some.last c.requires c.in-Some.is in
    omega (arith, small)
