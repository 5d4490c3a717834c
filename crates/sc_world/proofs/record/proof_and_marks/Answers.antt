use Rattle.sc_world.proofs.RecordLaws.{tells_marked}
use Rattle.sc_world.proofs.record.proof_and_marks.Goals as goal

pub returns-in_ok-marks-in-Proof : goal.returns-in_ok-marks-in-Proof
returns-in_ok-marks-in-Proof c =
    tells_marked c.args.prover.now.problem c.args.prover.now.seen c.args.prover.now.run c.args.outcome
    c.in_ok-lines-in-Proof.lines c.in_ok-marks-in-Proof.marks c.in-Proof.is
    c.in_ok-lines-in-Proof.ensures.splice c.in_ok-lines-in-Proof.ensures.proof c.in_ok-lines-in-Proof.ensures.refuted
    _ c.as_slice.ensures c.in_ok-marks-in-Proof.ensures
