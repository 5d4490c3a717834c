use Rattle.std.proofs.Common.{◌∙◌, ap, get_or}
use Rattle.sc_core_rules.specs.Selection.{Seen}
use Rattle.sc_world.proofs.AbreastLaws.{first_seen, first_within, others_seen}
use Rattle.sc_world.proofs.turns.see_others.Goals as goal

pub see_from-requires-clause-within : goal.see_from-requires-clause-within
see_from-requires-clause-within c =
    let before = c.index-seen-place.result in
    first_within c.args.prover.now.seen c.args.place c.len-from.result c.args.versions.now before c.requires.there
    (c.index-seen-place.is ∙ ap (λ (l : Seen). get_or l c.args.place before) c.seen.ensures) c.len-from.ensures c.requires.begins

pub see_from-requires-clause-seen : goal.see_from-requires-clause-seen
see_from-requires-clause-seen c =
    let before = c.index-seen-place.result in
    first_seen c.args.prover.now.seen c.args.place c.len-from.result c.args.versions.now before c.requires.there
    (c.index-seen-place.is ∙ ap (λ (l : Seen). get_or l c.args.place before) c.seen.ensures) c.len-from.ensures c.requires.begins

pub returns : goal.returns
returns c = others_seen c.see_from.result c.args.prover.now c.see_from.new.prover c.args.place c.args.versions.now c.see_from.ensures.all
