use Rattle.std.proofs.Common.{◌≡◌, ◌∙◌, ◌∷◌, [], sym, ap, subst, List}
use Rattle.sc_term.specs.declared.Line.{Line}
use Rattle.sc_steps.specs.Splice.{join_clauses, IsSplice}
use Rattle.sc_steps.proofs.SpliceCalls.{if_ok_so, splice_of_input, splice_of_derived}
use Rattle.sc_steps.proofs.derivations.proof_of_goal.splice_source.Goals as goal

pub returns-in-Some-clause-splice : goal.returns-in-Some-clause-splice
returns-in-Some-clause-splice c =
    let is = splice_of_input c.args.inputs.now c.args.derived.now c.args.goal c.in-Some.field-0.now c.in-Some.ensures.value in
    if_ok_so (λ (lines : List Line). lines ≡ (join_clauses c.args.inputs.now c.args.derived.now (c.args.goal ∷ [])).lines)
    (IsSplice c.args.inputs.now c.args.derived.now c.args.goal) c.join_clauses.result
    (λ lines e. subst (IsSplice c.args.inputs.now c.args.derived.now c.args.goal) (sym e) is) c.join_clauses.ensures.joins

pub returns-in_ok-numbers-in-None-clause-splice : goal.returns-in_ok-numbers-in-None-clause-splice
returns-in_ok-numbers-in-None-clause-splice c =
    let is = splice_of_derived c.args.inputs.now c.args.derived.now c.args.goal c.requires.goal.0 c.in_ok-numbers-in-None.numbers.items c.requires.goal.1
    c.in-None.ensures.value c.requires.ends c.in_ok-numbers-in-None.ensures in
    if_ok_so (λ (lines : List Line). lines ≡ (join_clauses c.args.inputs.now c.args.derived.now c.as_slice.result.now).lines)
    (IsSplice c.args.inputs.now c.args.derived.now c.args.goal) c.join_clauses-in-None.result
    (λ lines e. subst (IsSplice c.args.inputs.now c.args.derived.now c.args.goal) (sym (e ∙ ap (λ ns. (join_clauses c.args.inputs.now c.args.derived.now ns).lines) c.as_slice.ensures.value)) is)
    c.join_clauses-in-None.ensures.joins
