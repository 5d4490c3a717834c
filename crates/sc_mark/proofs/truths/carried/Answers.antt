use Rattle.std.proofs.Common.{◌∙◌, sym, subst, List, []}
use Rattle.std.proofs.lemmas.List.{take_all}
use Rattle.sc_term.specs.declared.Numbered.{Numbered}
use Rattle.sc_mark.specs.Marking.{AreKnown}
use Rattle.sc_mark.proofs.TruthLaws.{none_yet}
use Rattle.sc_mark.proofs.MarkingLaws.{one_anew}
use Rattle.sc_mark.proofs.truths.carried.Goals as goal

pub loop-p-init : goal.loop-p-init
loop-p-init c = record {
  known = subst (AreKnown c.args.new.now []) (sym c.new-carried.ensures) (none_yet c.args.new.now);
  register = c.requires.register;
}

pub loop-p-preserved : goal.loop-p-preserved
loop-p-preserved c = record {
  known = one_anew c.args.new.now c.args.clauses.now c.loop-p.p-index c.p-item.result c.loop-p.carried c.add_known.new.stored c.carried_one-known.result
      c.requires.apart c.loop-p-test.true c.p-item.is c.loop-p.invariant.known c.carried_one-known.ensures.known c.in_ok-add_known.ensures;
  register = c.carried_one-known.ensures.register ∙ c.loop-p.invariant.register;
}

pub returns-clause-known : goal.returns-clause-known
returns-clause-known c = subst (λ (ps : List Numbered). AreKnown c.args.new.now ps c.loop-p.carried) (take_all c.loop-p.p-index c.args.clauses.now c.loop-p-test.false) c.loop-p.invariant.known
