use Rattle.std.proofs.Common.{◌<◌, [], ◌∷◌, length, subst, Option}
use Rattle.std.specs.Prelude.{IsSomeAnd, MatchOption}
use Rattle.std.proofs.lemmas.Option.{MatchOption-at_some}
use Rattle.std.proofs.lemmas.Result.{IfOk-weaker}
use Rattle.sc_term.specs.Clause.{IsWithinLimits}
use Rattle.sc_core_rules.specs.Derivation.{AreTermsTo, EndsCanonical}
use Rattle.sc_resolve.specs.Literals.{pair_of}
use Rattle.sc_resolve.specs.Made.{Makes}
use Rattle.sc_resolve.specs.Parts.{IsOutside, AreJoint}
use Rattle.sc_para.specs.declared.conclusion.Steps.{Steps}
use Rattle.sc_para.specs.Conclusion.{AreReplacing, replacement}
use Rattle.sc_para.proofs.ParaLaws.{fitting, makes}
use Rattle.sc_para.proofs.making.replaced_on.Goals as goal

pub replacing-requires-clause-fitting : goal.replacing-requires-clause-fitting
replacing-requires-clause-fitting c =
    let from = c.args.from.now in
    let into = c.args.into.now in
    let pairs = pair_of c.args.l.now c.args.m.now in
    let p = MatchOption-at_some (IsOutside (from.clause ∷ into.clause ∷ []) pairs)
    (λ p. AreJoint (from.clause ∷ into.clause ∷ []) pairs (p.left.clause ∷ p.right.clause ∷ []) × AreTermsTo from.clause p.left.clause p.left.terms × AreTermsTo into.clause p.right.clause p.right.terms)
    c.in-Some.parts c.in-Some.is c.in_ok-parts.ensures in
    fitting from into c.in-Some.parts.left.clause c.in-Some.parts.right.clause c.args.site.now c.args.l.now c.args.m.now p.0.joint c.requires.replaced

pub returns-in-Some-2 : goal.returns-in-Some-2
returns-in-Some-2 c =
    let from = c.args.from.now in
    let into = c.args.into.now in
    let pairs = pair_of c.args.l.now c.args.m.now in
    let p = MatchOption-at_some (IsOutside (from.clause ∷ into.clause ∷ []) pairs)
    (λ p. AreJoint (from.clause ∷ into.clause ∷ []) pairs (p.left.clause ∷ p.right.clause ∷ []) × AreTermsTo from.clause p.left.clause p.left.terms × AreTermsTo into.clause p.right.clause p.right.terms)
    c.in-Some.parts c.in-Some.is c.in_ok-parts.ensures in
    let left = c.in-Some.parts.left.clause in
    let right = c.in-Some.parts.right.clause in
    let steps = subst (λ (o : Option Steps). IsSomeAnd o (λ s. AreReplacing from into left right c.args.site.now s.clause s.lines × (length s.lines < 900))) c.in-Some-2.is c.in_ok-steps.ensures in
    IfOk-weaker c.ended.result (λ made. MatchOption made (¬ IsWithinLimits c.in-Some-2.steps.clause) (λ m. EndsCanonical c.in-Some-2.steps.lines m.lines))
    (λ made. Makes (replacement from into c.args.site.now c.args.l.now c.args.m.now) made)
    (makes from into c.args.site.now c.args.l.now c.args.m.now left right c.in-Some-2.steps.clause c.in-Some-2.steps.lines p.0 steps.0) c.ended.ensures
