use Rattle.std.proofs.Common.{◌≡◌, length, rules}
use Rattle.sc_mark.proofs.MarkingLaws.{starts}
use Rattle.sc_mark.proofs.marks.Marks.new.Goals as goal

pub invariant_of-result : goal.invariant_of-result
invariant_of-result c =
    let wide : length c.in_ok-register.register.items ≡ 10000 = search rules in
    starts _ _ _ c.new.ensures.items c.new-2.ensures wide
