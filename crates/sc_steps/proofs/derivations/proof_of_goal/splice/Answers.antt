use Rattle.std.proofs.Common.{◌≡◌, [], IsSomeAnd}
use Rattle.sc_term.specs.declared.Clause.{Clause}
use Rattle.sc_term.specs.Numbering.{numbered}
use Rattle.sc_term.specs.Proof.{IsProof}
use Rattle.sc_steps.specs.Derivation.{all_clauses}
use Rattle.sc_steps.specs.Splice.{IsSplice}
use Rattle.sc_steps.proofs.SpliceCalls.{if_ok_so, has_number, same_derived, proves}
use Rattle.sc_steps.proofs.derivations.proof_of_goal.splice.Goals as goal

pub source-last-requires-clause-goal : goal.source-last-requires-clause-goal
source-last-requires-clause-goal c =
    rw (c.as_slice-inputs.ensures, c.as_slice-derived.ensures) (has_number c.args.inputs.now c.args.derived.now c.args.goal c.requires.there c.requires.within)

pub source-last-requires-clause-derivations : goal.source-last-requires-clause-derivations
source-last-requires-clause-derivations c = same_derived _ _ _ _ c.as_slice-inputs.ensures c.as_slice-derived.ensures c.requires.derivations

pub splice_source-requires-clause-derivations : goal.splice_source-requires-clause-derivations
splice_source-requires-clause-derivations c = same_derived _ _ _ _ c.as_slice-inputs.ensures c.as_slice-derived.ensures c.requires.derivations

pub returns-clause-proof : goal.returns-clause-proof
returns-clause-proof c =
    let is = rw (c.as_slice-inputs.ensures, c.as_slice-derived.ensures) at c.splice_source.ensures.splice in
    let back = rw (c.as_slice-inputs.ensures, c.as_slice-derived.ensures) at c.source-last.ensures.proof in
    if_ok_so (IsSplice c.args.inputs.now c.args.derived.now c.source-last.result)
    (λ lines. IsSomeAnd (numbered (all_clauses c.args.inputs.now c.args.derived.now) c.args.goal) (λ (one : Clause). one.literals ≡ []) → IsProof c.args.inputs.now lines)
    c.splice_source.result (λ lines at. proves c.args.inputs.now c.args.derived.now c.args.goal lines c.requires.derivations (back lines at)) is
