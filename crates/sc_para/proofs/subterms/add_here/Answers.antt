use Rattle.std.proofs.Common.{◌∙◌, sym, arith, true≢false}
use Rattle.sc_resolve.proofs.Extending.{full, nothing}
use Rattle.sc_para.specs.Spots.{pair_numbers}
use Rattle.sc_para.specs.Subterms.{IsHere}
use Rattle.sc_para.proofs.subterms.add_here.Goals as goal

pub returns-then-len-limit : goal.returns-then-len-limit
returns-then-len-limit c = full pair_numbers c.args.limit (IsHere c.args.source.now c.args.spot c.args.path.now c.args.t.now) c.args.sites.now (omega arith)

pub returns-else-branch : goal.returns-else-branch
returns-else-branch c = nothing pair_numbers c.args.limit (IsHere c.args.source.now c.args.spot c.args.path.now c.args.t.now) c.args.sites.now
    (λ x h. true≢false (sym (c.in_ok-is_target.ensures.1 h.1) ∙ c.if-branch.false))
