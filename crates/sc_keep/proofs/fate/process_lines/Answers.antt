use Rattle.std.proofs.Common.{sym, subst}
use Rattle.sc_input_rules.specs.declared.settings.Flags.{Flags}
use Rattle.sc_input_rules.specs.declared.settings.Params.{Params}
use Rattle.sc_core_rules.specs.Book.{live}
use Rattle.sc_core_rules.specs.Simplification.{Simplifies}
use Rattle.sc_keep.specs.Lists.{book_of}
use Rattle.sc_keep.proofs.CanonicalForm.{ends_with_canonical}
use Rattle.sc_keep.proofs.StaysReady.{stay_ready}
use Rattle.sc_keep.proofs.StaysWithin.{stay_within}
use Rattle.sc_keep.proofs.fate.process_lines.Goals as goal

pub meet_fate-requires-clause-fit : goal.meet_fate-requires-clause-fit
meet_fate-requires-clause-fit c =
    let made = c.in_ok-made.made in
    let simplified = c.in_ok-made.ensures in
    record {
      canonical = (ends_with_canonical simplified.merged made.lines simplified.canonical_last).1 made.clause made.ends;
      within = record { light = made.light; shallow = made.shallow };
    }

pub returns-clause-processes : goal.returns-clause-processes
returns-clause-processes c problem number same_flags same_params =
    let made = c.in_ok-made.made in
    let old = book_of c.args.lists.now in record {
      simplified = made.lines;
      simplifies = subst (λ (fs : Flags). Simplifies fs problem.params.demod_limit old.demods (live old) c.args.made.lines made.lines) (sym same_flags)
          (subst (λ (ps : Params). Simplifies c.args.flags ps.demod_limit old.demods (live old) c.args.made.lines made.lines) (sym same_params) c.in_ok-made.ensures);
      clause = made.clause;
      clause_last = made.ends;
      fated = c.in_ok-out.ensures problem number same_flags same_params;
    }

pub returns-clause-ready : goal.returns-clause-ready
returns-clause-ready c problem number same_flags same_params =
    let made = c.in_ok-made.made in
    let simplified = c.in_ok-made.ensures in
    stay_ready problem c.args.lists.now c.meet_fate.new.lists c.args.number made.clause made.lines c.args.turn c.in_ok-out.out number
    ((ends_with_canonical simplified.merged made.lines simplified.canonical_last).1 made.clause made.ends) (record { light = made.light; shallow = made.shallow })
    (c.in_ok-out.ensures problem number same_flags same_params) c.requires.ready

pub returns-clause-within : goal.returns-clause-within
returns-clause-within c problem number same_flags same_params sound h =
    let made = c.in_ok-made.made in
    stay_within problem (book_of c.args.lists.now) (book_of c.meet_fate.new.lists) made.clause made.lines c.args.turn c.in_ok-out.out sound (record { light = made.light; shallow = made.shallow }) h
    (c.in_ok-out.ensures problem number same_flags same_params)
