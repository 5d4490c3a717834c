use Rattle.std.proofs.Common.{arith}
use Rattle.sc_keep.proofs.EndLaws.{ends_as_it_is, ends_with_line, last_light}
use Rattle.sc_keep.proofs.canonical.end_canonical.Goals as goal

pub returns-in-None : goal.returns-in-None
returns-in-None c =
    let long = c.len-last.ensures in
    ends_as_it_is c.as_slice.result.now c.args.lines.now _ c.index-as_slice-last.result _ c.in_ok-line.field-0 c.as_slice.ensures c.requires.some (omega (arith, long)) c.in-None.is c.in_ok-line.ensures

pub returns-in_ok-push-in-Some : goal.returns-in_ok-push-in-Some
returns-in_ok-push-in-Some c =
    let long = c.len-last.ensures in
    let some = c.requires.some in
    ends_with_line c.as_slice.result.now c.args.lines.now _ c.index-as_slice-last.result _ c.in_ok-line.field-0 c.in-Some.line c.push.new.self
    c.as_slice.ensures some (omega (arith, long)) (omega (arith, long, some)) c.in-Some.is c.in_ok-line.ensures c.in_ok-push-in-Some.ensures.ok

pub next_canonical-requires : goal.next_canonical-requires
next_canonical-requires c =
    let long = c.len-last.ensures in
    last_light c.as_slice.result.now c.args.lines.now _ c.index-as_slice-last.result c.as_slice.ensures c.requires.some (omega (arith, long)) c.requires.within
