use Rattle.std.proofs.Common.{rules}
use Rattle.sc_top.proofs.scott_over_sound.Goals as goal

pub returns-clause-decided : goal.returns-clause-decided
returns-clause-decided g c = λ command asked. c.scott.ensures.decided command asked (search rules)

pub returns-clause-told : goal.returns-clause-told
returns-clause-told g c = λ command asked seven. c.scott.ensures.told command asked (search rules) (search rules) seven
