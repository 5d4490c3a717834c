use Rattle.std.proofs.Common.{◌∙◌, sym, ap, nat_eq}
use Rattle.std.specs.List.{list_any}
use Rattle.std.proofs.lemmas.List.{take_all}
use Rattle.sc_keep.proofs.sweep.is_among.Goals as goal

pub returns : goal.returns
returns c = sym (ap (list_any (nat_eq c.args.n)) (sym (take_all c.loop-m.m-index c.args.numbers.now c.loop-m-test.false)) ∙ c.loop-m.invariant)
