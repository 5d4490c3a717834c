use Rattle.sc_input_rules.specs.declared.settings.Home.TheVariants.{Usable, Sos, Passive, Demodulators}
use Rattle.sc_keep.proofs.StartedLaws.{in_list}
use Rattle.sc_keep.proofs.start.opened.Goals as goal

pub returns-clause-opens : goal.returns-clause-opens
returns-clause-opens c problem has =
    record {
      usable = in_list problem c.args.homes.now c.args.all.now has Usable c.in_ok-at_home.field-0 c.in_ok-at_home.ensures;
      sos = in_list problem c.args.homes.now c.args.all.now has Sos c.in_ok-at_home-2.field-0 c.in_ok-at_home-2.ensures;
      passive = in_list problem c.args.homes.now c.args.all.now has Passive c.in_ok-at_home-3.field-0 c.in_ok-at_home-3.ensures;
      demods = in_list problem c.args.homes.now c.args.all.now has Demodulators c.in_ok-demodulators.field-0 c.in_ok-demodulators.ensures;
      no_derived = c.new.ensures;
      no_kept = c.new-2.ensures;
    }
