use Rattle.std.proofs.Common.{◌∙◌, ap, subst, List, length, Option, Some, arith}
use Rattle.std.specs.Prelude.{IsSomeAnd}
use Rattle.sc_term.specs.declared.Clause.{Clause}
use Rattle.sc_term.specs.declared.Line.{Line}
use Rattle.sc_term.specs.declared.Literal.{Literal}
use Rattle.sc_term.specs.declared.Step.TheVariants.{Para}
use Rattle.sc_core_rules.specs.Derivation.{AddsPart}
use Rattle.sc_resolve.proofs.LineLaws.{longer, last_is}
use Rattle.sc_para.specs.Conclusion.{IsChanged}
use Rattle.sc_para.proofs.ParaLaws.{adds_para}
use Rattle.sc_para.proofs.conclusion.replacing.Goals as goal

pub returns : goal.returns
returns c =
    let site = c.args.site.now in
    let changed = subst (λ (o : Option Literal). IsSomeAnd o (λ l. IsChanged c.args.left.clause c.args.right.clause site l)) c.in-Some.is c.in_ok-changed.ensures in
    let step = Para c.in_ok-of_left.of_left site.from_lit site.side c.in_ok-of_right.of_right site.into_lit c.in_ok-from_slice.field-0 in
    let none = ap (λ (ls : List Line). length ls) c.new-lines.ensures in (
      record {
        mid = c.add_part.new.lines;
        left_line = c.in_ok-of_left.of_left;
        left_opens = subst (λ (ls : List Line). AddsPart ls c.args.from.now c.args.left.clause c.add_part.new.lines c.in_ok-of_left.of_left) c.new-lines.ensures c.in_ok-of_left.ensures.adds;
        opening = c.add_part-2.new.lines;
        right_line = c.in_ok-of_right.of_right;
        right_opens = c.in_ok-of_right.ensures.adds;
        ends = adds_para c.add_part-2.new.lines c.in_ok-of_left.of_left c.in_ok-of_right.of_right c.args.left.clause c.args.right.clause c.in_ok-line.line site c.in_ok-from_slice.field-0
            c.in-Some.changed c.add_line.new.lines (c.in_ok-from_slice.ensures ∙ c.as_slice.ensures)
            (c.in_ok-of_right.ensures.keeps.same c.in_ok-of_left.of_left c.args.left.clause c.in_ok-of_left.ensures.there) c.in_ok-of_right.ensures.there changed
            (ap (λ (d : Clause). d.literals) c.in_ok-line.ensures ∙ c.in_ok-clause.ensures) c.in_ok-add_line.ensures.grown;
        last = last_is c.add_part-2.new.lines step c.in_ok-line.line c.add_line.new.lines c.in_ok-add_line.field-0 c.in_ok-add_line.ensures ∙ ap (λ (d : Clause). Some d) c.in_ok-line.ensures;
      },
      omega (arith, none, c.in_ok-of_left.ensures.few, c.in_ok-of_right.ensures.few, longer c.add_part-2.new.lines step c.in_ok-line.line c.add_line.new.lines c.in_ok-add_line.field-0 c.in_ok-add_line.ensures),
    )
