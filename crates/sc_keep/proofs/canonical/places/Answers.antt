use Rattle.std.proofs.Common.{◌∙◌, sym, ◌++◌, ◌∷◌, []}
use Rattle.sc_term.specs.declared.Term.{Var}
use Rattle.sc_keep.proofs.CanonicalLaws.{no_place, one_more_place}
use Rattle.sc_keep.proofs.canonical.places.Goals as goal

pub loop-n-init : goal.loop-n-init
loop-n-init c = c.new-terms.ensures ∙ sym (no_place c.args.order.now)

pub loop-n-preserved : goal.loop-n-preserved
loop-n-preserved c =
    c.in_ok-push.ensures.ok
    ∙ (λ i. c.loop-n.invariant i ++ Var (c.place_of.ensures i) ∷ [])
    ∙ sym (one_more_place c.args.order.now c.loop-n.n)
