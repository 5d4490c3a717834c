use Rattle.std.proofs.Common.{sym, ◌∙◌, subst, true≢false}
use Rattle.std.proofs.lemmas.Result.{IfOk-weaker}
use Rattle.sc_term.specs.declared.Clause.{Clause}
use Rattle.sc_term.specs.declared.Step.TheVariants.{Instance}
use Rattle.sc_resolve.specs.Lines.{IsAdded, HasPart}
use Rattle.sc_resolve.proofs.LineLaws.{part_added}
use Rattle.sc_resolve.proofs.lines.add_part.Goals as goal

pub returns : goal.returns
returns c =
    IfOk-weaker c.add_line.result (λ k. IsAdded c.add_input.new.lines (Instance c.in_ok-of.of c.args.terms) c.in_ok-clause.clause c.add_line.new.lines k)
    (λ k. HasPart c.args.lines.now c.args.parent.now c.args.part.now c.add_line.new.lines k)
    (λ k added. part_added c.args.lines.now c.add_input.new.lines c.add_line.new.lines c.args.parent.now c.args.part.now c.args.terms c.in_ok-of.of k c.in_ok-of.ensures
    (λ e. true≢false (sym (c.same.ensures.1 e) ∙ c.if-same.false)) c.requires.terms
    (subst (λ (d : Clause). IsAdded c.add_input.new.lines (Instance c.in_ok-of.of c.args.terms) d c.add_line.new.lines k) c.in_ok-clause.ensures added))
    c.add_line.ensures
