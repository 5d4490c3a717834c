use Rattle.std.proofs.Common.{◌∙◌, sym, subst, true≢false}
use Rattle.std.proofs.lemmas.List.Elements.{AllWithin-more, at_read}
use Rattle.std.specs.List.{Any}
use Rattle.sc_term.specs.declared.Literal.{Literal}
use Rattle.sc_subsume.specs.Search.{AreLike}
use Rattle.sc_subsume.proofs.like.each_has_like.Goals as goal

pub returns-then-not-has_like : goal.returns-then-not-has_like
returns-then-not-has_like c = (
  λ e. absurd (true≢false (sym e)),
  λ h.
      let any = subst (λ (l : Literal). Any (AreLike l) c.args.d.now) (sym c.l-item.is) (h c.loop-l.l-index c.l-item.result c.loop-l-test.true) in
      absurd (true≢false (sym (c.has_like.ensures.1 any) ∙ c.if-not-has_like.true)),
)

pub loop-l-preserved : goal.loop-l-preserved
loop-l-preserved c =
    let like = λ (l : Literal). Any (AreLike l) c.args.d.now in
    AllWithin-more like c.args.c.now 0 c.loop-l.l-index c.loop-l.invariant
    (at_read c.args.c.now like c.loop-l.l-index c.l-item.result c.loop-l-test.true c.l-item.is (c.has_like.ensures.0 c.if-not-has_like.false))
