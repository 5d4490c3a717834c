use Rattle.std.proofs.Common.{◌≡◌, ◌∙◌, sym, ap, subst, List, length, arith}
use Rattle.sc_term.specs.declared.Clause.{Clause}
use Rattle.sc_term.specs.declared.Numbered.{Numbered}
use Rattle.sc_keep.specs.Start.{IsFirstEnding}
use Rattle.sc_keep.proofs.DemodsLaws.{all_demodulators, all_rising}
use Rattle.sc_keep.proofs.StartedLaws.{all_fit, has_input, starts}
use Rattle.sc_keep.proofs.start.start_lists.Goals as goal

pub first_ending-requires : goal.first_ending-requires
first_ending-requires c = record { all_fit = all_fit c.args.inputs.now c.as_slice-2.result.now (c.as_slice-2.ensures ∙ c.in_ok-all.ensures) c.requires.fit }

pub opened-requires-clause-rising : goal.opened-requires-clause-rising
opened-requires-clause-rising c = all_rising c.args.inputs.now c.as_slice.result.now (c.as_slice.ensures ∙ c.in_ok-all.ensures)

pub opened-requires-clause-demods : goal.opened-requires-clause-demods
opened-requires-clause-demods c = all_demodulators c.args.homes.now c.args.inputs.now c.as_slice.result.now (c.as_slice.ensures ∙ c.in_ok-all.ensures) c.requires.demodulators

pub returns : goal.returns
returns c problem is homes_are =
    let few = c.requires.few in
    let long : length problem.inputs ≡ length c.args.inputs.now = ap (λ (cs : List Clause). length cs) is in
    let opened = has_input problem c.args.homes.now c.args.inputs.now c.in_ok-all.all c.as_slice.result.now c.in_ok-all.ensures c.as_slice.ensures is homes_are in
    let seen = has_input problem c.args.homes.now c.args.inputs.now c.in_ok-all.all c.as_slice-2.result.now c.in_ok-all.ensures c.as_slice-2.ensures is homes_are in
    starts problem c.in_ok-started.started c.end.new.started _ (c.in_ok-started.ensures.opens problem opened) c.in_ok-started.ensures.no_goal (omega (arith, few, long)) c.in_ok-found.found
    (subst (λ (ps : List Numbered). IsFirstEnding problem ps c.in_ok-found.found) (sym seen.clauses_are) (c.in_ok-found.ensures problem seen)) c.in_ok-end.ensures
