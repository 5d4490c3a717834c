use Rattle.std.proofs.Common.{sym, subst, ◌∙◌}
use Rattle.std.specs.List.{AllZip}
use Rattle.sc_core_sites.proofs.MovingLaws.{Turns, turns_one, turns_all}
use Rattle.sc_core_sites.proofs.told.told.Goals as goal

pub loop-site-preserved : goal.loop-site-preserved
loop-site-preserved g c =
    turns_one (λ s x. goal.F-post g c.args.tell s x) c.args.found c.loop-site.rest c.pop.new.self c.loop-site.turned.items c.push.new.self.items
    c.in-Some.site c.tell.result c.in-Some.ensures c.in_ok-push.ensures.items c.tell.ensures c.loop-site.invariant

pub returns : goal.returns
returns g c =
    subst (AllZip (λ s x. goal.F-post g c.args.tell s x) c.args.found) (sym (c.from_vec.ensures ∙ c.reverse.ensures.items))
    (turns_all (λ s x. goal.F-post g c.args.tell s x) c.args.found c.loop-site.turned.items
    (subst (λ r. Turns (λ s x. goal.F-post g c.args.tell s x) c.args.found r c.loop-site.turned.items) c.in_default.ensures.0 c.loop-site.invariant))
