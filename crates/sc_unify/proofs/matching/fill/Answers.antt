use Rattle.std.proofs.Common.{◌≡◌, ◌∙◌, sym, ap, ◌++◌, [], ◌∷◌, None}
use Rattle.std.specs.Option.{unwrap_or}
use Rattle.sc_term.specs.declared.Term.{Var}
use Rattle.sc_unify.specs.Bindings.{bindings, lookup}
use Rattle.sc_unify.specs.Matching.{filled}
use Rattle.sc_unify.proofs.MatchingLaws.{filled-more, filled-none}
use Rattle.sc_unify.proofs.matching.fill.Goals as goal

pub loop-n-init : goal.loop-n-init
loop-n-init c = c.new-terms.ensures ∙ sym (filled-none (bindings c.args.bound.now))

pub loop-n-preserved : goal.loop-n-preserved
loop-n-preserved c =
    c.in_ok-push.ensures.ok ∙ (λ i. c.loop-n.invariant i ++ c.in_ok-filling.ensures i ∷ []) ∙ sym (filled-more (bindings c.args.bound.now) c.loop-n.n)
