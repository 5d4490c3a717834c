use Rattle.std.proofs.Common.{◌∙◌, ap, subst, List}
use Rattle.std.proofs.lemmas.Result.{IfOk-weaker}
use Rattle.sc_term.specs.declared.Clause.{Clause}
use Rattle.sc_term.specs.declared.Line.{Line}
use Rattle.sc_core_rules.specs.Derivation.{AddsPart, EndsCanonical}
use Rattle.sc_resolve.specs.Made.{AreResolving}
use Rattle.sc_resolve.proofs.PartLaws.{resolvent_within}
use Rattle.sc_resolve.proofs.ResolvingLaws.{adds_resolve}
use Rattle.sc_resolve.proofs.resolving.resolved.Goals as goal

pub finish-requires-clause-within : goal.finish-requires-clause-within
finish-requires-clause-within c =
    resolvent_within c.args.left.clause c.args.right.clause c.in_ok-clause.clause c.args.site.now.given_lit c.args.site.now.partner_lit c.in_ok-clause.ensures c.requires.within

pub returns : goal.returns
returns c =
    IfOk-weaker c.finish.result (λ made. EndsCanonical c.add_line.new.lines made.lines)
    (λ made. AreResolving c.args.given.now c.args.partner.now c.args.left.clause c.args.right.clause c.args.site.now.given_lit c.args.site.now.partner_lit made.lines)
    (λ made ends. record {
      mid = c.add_part.new.lines;
      left_line = c.in_ok-of_left.of_left;
      left_opens = subst (λ (ls : List Line). AddsPart ls c.args.given.now c.args.left.clause c.add_part.new.lines c.in_ok-of_left.of_left) c.new-lines.ensures c.in_ok-of_left.ensures.adds;
      opening = c.add_part-2.new.lines;
      right_line = c.in_ok-of_right.of_right;
      right_opens = c.in_ok-of_right.ensures.adds;
      steps = c.add_line.new.lines;
      ends = adds_resolve c.add_part-2.new.lines c.in_ok-of_left.of_left c.in_ok-of_right.of_right c.args.left.clause c.args.right.clause c.in_ok-line.line
          c.args.site.now.given_lit c.args.site.now.partner_lit c.add_line.new.lines
          (c.in_ok-of_right.ensures.keeps.same c.in_ok-of_left.of_left c.args.left.clause c.in_ok-of_left.ensures.there) c.in_ok-of_right.ensures.there c.requires.opposed
          (ap (λ (d : Clause). d.literals) c.in_ok-line.ensures ∙ c.in_ok-clause.ensures) c.in_ok-add_line.ensures.grown;
      canonical_last = ends;
    }) c.finish.ensures
