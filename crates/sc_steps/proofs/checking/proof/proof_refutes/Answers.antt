use Rattle.sc_steps.proofs.Soundness.{proof-refutes}
use Rattle.sc_steps.proofs.checking.proof.proof_refutes.Goals as goal

pub returns : goal.returns
returns c = proof-refutes
