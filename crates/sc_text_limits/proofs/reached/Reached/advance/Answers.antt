use Rattle.std.proofs.Common.{◌∙◌, sym, ap, Bool, drop}
use Rattle.sc_text_limits.specs.Parts.{joins}
use Rattle.sc_text_limits.proofs.Going.{joined, begins_anew}
use Rattle.sc_text_limits.proofs.reached.Reached.advance.Goals as goal

pub returns-in_ok-add : goal.returns-in_ok-add
returns-in_ok-add c = λ tokens front sentence n at h.
    let r = c.args.self.now in
    let outer = c.is_outer.ensures (drop r.formula.start front) h.kept.count in
    joined tokens front sentence c.args.number c.args.token.now r c.with-self.result c.add.new.self at h c.with-self.ensures
    (ap (λ (b : Bool). joins r.part b c.args.token.now) (sym outer) ∙ sym c.joins-joins.ensures ∙ c.if-joins.true)
    c.in_ok-add.ensures.kept c.in_ok-add.ensures.start c.in_ok-add.ensures.weight c.in_ok-add.ensures.around

pub returns-else-joins : goal.returns-else-joins
returns-else-joins c = λ tokens front sentence n at h.
    let r = c.args.self.now in
    let outer = c.is_outer.ensures (drop r.formula.start front) h.kept.count in
    begins_anew tokens front sentence c.args.number c.args.token.now r c.with-self.result c.new.result n h c.with-self.ensures
    (ap (λ (b : Bool). joins r.part b c.args.token.now) (sym outer) ∙ sym c.joins-joins.ensures ∙ c.if-joins.false)
    (c.new.ensures.kept tokens) c.new.ensures.start c.new.ensures.weight c.new.ensures.around
