use Rattle.sc_demod.proofs.ReplaceLaws.{put_parts}
use Rattle.sc_demod.proofs.replace.with_term.Goals as goal

pub returns : goal.returns
returns c = put_parts c.args.args.now c.args.at c.args.new c.in_ok-all.all c.push.new.self c.in_ok-behind.behind c.append.new.self c.requires c.in_ok-all.ensures c.in_ok-push.ensures.ok c.in_ok-behind.ensures c.in_ok-append.ensures
