use Rattle.std.proofs.Common.{refl, subst, MatchOption}
use Rattle.sc_demod.specs.Rewriting.{IsIrreducible, IsChange}
use Rattle.sc_demod.proofs.rewriting.rewrite_once.Goals as goal

pub returns-in-None : goal.returns-in-None
returns-in-None c =
    let demods = c.args.demods.now in
    let told : IsIrreducible demods c.args.clause.now = subst (λ o. MatchOption o (IsIrreducible demods c.args.clause.now)
    (λ x. IsChange demods c.args.clause.now x.found.literal x.found.redex.path.items x.found.redex.place x.found.redex.terms x.part x.after)) c.in-None.is c.in_ok-made.ensures in
    (refl, λ after h. told c.args.lines.now after c.requires.ends c.requires.agrees h)
