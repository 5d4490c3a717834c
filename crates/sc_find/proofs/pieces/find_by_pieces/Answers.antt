use Rattle.std.proofs.Common.{subst, arith}
use Rattle.sc_find.specs.declared.answer.Found.{Found}
use Rattle.sc_find.specs.Answers.{IsFound}
use Rattle.sc_find.proofs.PieceLaws.{first_of_all, none_more, none_of_all}
use Rattle.sc_find.proofs.pieces.find_by_pieces.Goals as goal

pub find_first-requires : goal.find_first-requires
find_first-requires c = c.pieces-end.ensures.each c.loop-piece.piece (omega arith) (omega (arith, c.loop-piece-test.true))

pub returns-in-Model : goal.returns-in-Model
returns-in-Model c =
    let q = c.pieces-end.ensures.each c.loop-piece.piece (omega arith) (omega (arith, c.loop-piece-test.true)) in
    first_of_all c.args.job.now c.loop-piece.piece q.0 c.in-Model.tables q.1 c.loop-piece.invariant
    (subst (λ (f : Found). IsFound c.args.job.now q.0 c.args.budget f) c.in-Model.is (c.in_ok-tables.ensures q.0 q.1))

pub returns-in-Spent : goal.returns-in-Spent
returns-in-Spent c =
    let q = c.pieces-end.ensures.each c.loop-piece.piece (omega arith) (omega (arith, c.loop-piece-test.true)) in (
      c.loop-piece.invariant,
      (q.0, q.1, subst (λ (f : Found). IsFound c.args.job.now q.0 c.args.budget f) c.in-Spent.is (c.in_ok-tables.ensures q.0 q.1)),
    )

pub loop-piece-preserved : goal.loop-piece-preserved
loop-piece-preserved c =
    let q = c.pieces-end.ensures.each c.loop-piece.piece (omega arith) (omega (arith, c.loop-piece-test.true)) in
    none_more c.args.job.now c.loop-piece.piece q.0 q.1 (subst (λ (f : Found). IsFound c.args.job.now q.0 c.args.budget f) c.in-None.is (c.in_ok-tables.ensures q.0 q.1)) c.loop-piece.invariant

pub returns : goal.returns
returns c =
    none_of_all c.args.job.now c.loop-piece.piece c.pieces-end.result (omega (arith, c.loop-piece-test.false)) c.pieces-end.ensures.none c.loop-piece.invariant
