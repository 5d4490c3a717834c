use Rattle.std.proofs.Common.{refl}
use Rattle.sc_term.specs.declared.Step.TheVariants.{Input}
use Rattle.sc_keep.proofs.AddingLaws.{part_is_it, part_added, the_line, the_same}
use Rattle.sc_keep.proofs.adding.add_part.Goals as goal

pub returns-in_ok-push-in-Some : goal.returns-in_ok-push-in-Some
returns-in_ok-push-in-Some c =
    part_added c.args.lines.now c.args.p.now c.args.terms c.requires.fresh c.requires.canonical c.requires.width c.push.new.self (record { step = Input c.args.p.now.number; clause = c.in_ok-copy.field-0 }) refl c.in_ok-copy.ensures c.in_ok-push.ensures.ok
    c.len-of.result _ c.in-Some.line c.push-in-Some.new.self c.len-of.ensures refl
    (the_line c.args.p.now.clause c.args.terms c.len-of.result c.in_ok-line.field-0 c.in-Some.line c.in-Some.is c.in_ok-line.ensures) c.in_ok-push-in-Some.ensures.ok

pub returns-in-None : goal.returns-in-None
returns-in-None c =
    part_is_it c.args.lines.now c.args.p.now c.args.terms c.requires.fresh c.requires.canonical c.requires.width c.push.new.self (record { step = Input c.args.p.now.number; clause = c.in_ok-copy.field-0 }) refl c.in_ok-copy.ensures c.in_ok-push.ensures.ok
    c.len-of.result c.len-of.ensures (the_same c.args.p.now.clause c.args.terms c.len-of.result c.in_ok-line.field-0 c.in-None.is c.in_ok-line.ensures)
