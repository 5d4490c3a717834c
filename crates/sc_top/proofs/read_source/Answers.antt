use Rattle.std.proofs.Common.{rules}
use Rattle.sc_top.proofs.ToldLaws.{stands_long}
use Rattle.sc_top.proofs.read_source.Goals as goal

pub returns-in-Err-TooLong-clause-stands : goal.returns-in-Err-TooLong-clause-stands
returns-in-Err-TooLong-clause-stands g c = λ command reads. stands_long command (g.S.Source.left c.args.source.now) 0 0 reads (search rules)
