use Rattle.std.proofs.Common.{◌∙◌}
use Rattle.sc_shelf.proofs.Last.{ok_side}
use Rattle.sc_shelf.proofs.Steps.{appends, fold_adds}
use Rattle.sc_shelf.proofs.press.showing.show.Goals as goal

pub publish_as-writer-requires : goal.publish_as-writer-requires
publish_as-writer-requires g c next is = appends _ _ c.args.writer.desk.shown.value next _ (is ∙ fold_adds c.args.writer.desk.shown.value _) c.requires

pub returns-in-Ok : goal.returns-in-Ok
returns-in-Ok g c =
    let call = c.publish_as-writer in
    let values = ok_side _ _ call.result.1 c.in-Ok.field-0 c.in-Ok.is call.ensures.values in
    let rule = ok_side _ _ call.result.1 c.in-Ok.field-0 c.in-Ok.is call.ensures.rule in
    (values.0 ∙ fold_adds c.args.writer.desk.shown.value _, rule.now, values.1)
