use Rattle.std.proofs.Common.{length}
use Rattle.sc_steps.specs.Derivation.{IsInputAt}
use Rattle.sc_steps.specs.Splice.{is_clause}
use Rattle.sc_steps.proofs.ListLaws.{some_and}
use Rattle.sc_steps.proofs.SpliceLaws.{named_from}
use Rattle.sc_steps.proofs.derivations.source.source.Goals as goal

pub loop-m-smaller : goal.loop-m-smaller
loop-m-smaller c =
    let d = some_and _ (λ d. IsInputAt d.lines c.in-Some.m (length d.lines)) c.in-Some.ensures.named in
    (named_from c.args.inputs.now c.args.derived.now c.loop-m.n c.in-Some.m (length d.0.lines) d.0 c.requires.derivations d.1 d.2).smaller

pub loop-m-preserved : goal.loop-m-preserved
loop-m-preserved c =
    let d = some_and _ (λ d. IsInputAt d.lines c.in-Some.m (length d.lines)) c.in-Some.ensures.named in
    let from = named_from c.args.inputs.now c.args.derived.now c.loop-m.n c.in-Some.m (length d.0.lines) d.0 c.requires.derivations d.1 d.2 in
    record {
      number = (from.line.clause, from.has);
      proof = λ lines spliced. c.loop-m.invariant.proof lines (is_clause c.loop-m.n c.in-Some.m lines d.0 d.1 d.2 spliced);
    }
