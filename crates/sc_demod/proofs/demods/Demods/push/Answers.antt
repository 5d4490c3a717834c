use Rattle.std.proofs.Common.{subst, sym, ◌<◌, List}
use Rattle.std.specs.List.{All}
use Rattle.sc_term.specs.declared.Numbered.{Numbered}
use Rattle.sc_demod.proofs.ChangeLaws.{demods_push}
use Rattle.sc_demod.proofs.demods.Demods.push.Goals as goal

pub invariant_of-self-2 : goal.invariant_of-self-2
invariant_of-self-2 c =
    demods_push c.self.inside.items c.push.new.self c.args.d c.self.invariant c.requires.demodulator
    (subst (λ (ds : List Numbered). All (λ (p : Numbered). p.number < c.args.d.number) ds) (sym c.self.view_is) c.requires.greatest) c.in_ok-push.ensures.ok
