use Rattle.std.proofs.Common.{◌∙◌, ◌-◌, ap, sym, subst, List}
use Rattle.std.proofs.lemmas.Result.{IfOk-weaker}
use Rattle.sc_term.specs.declared.Literal.{Literal}
use Rattle.sc_term.specs.declared.Clause.{Clause}
use Rattle.sc_term.specs.declared.Line.{Line}
use Rattle.sc_core_rules.specs.Derivation.{AddsPart, EndsCanonical}
use Rattle.sc_resolve.specs.Made.{AreMerging}
use Rattle.sc_resolve.proofs.PartLaws.{NoMore, within_so, removed}
use Rattle.sc_resolve.proofs.FactoringLaws.{adds_merge}
use Rattle.sc_resolve.proofs.merging.merged.Goals as goal

pub finish-requires-clause-within : goal.finish-requires-clause-within
finish-requires-clause-within c =
    within_so (record { literals = c.remove.new.self }) c.args.part.clause
    (subst (λ (ls : List Literal). NoMore ls (c.args.part.clause).literals) (sym c.remove.ensures.rest) (removed (c.args.part.clause).literals (c.args.second - 1))) c.requires.within

pub returns : goal.returns
returns c =
    IfOk-weaker c.finish.result (λ made. EndsCanonical c.add_line.new.lines made.lines) (λ made. AreMerging c.args.given.now c.args.part.clause c.args.second made.lines)
    (λ made ends. record {
      opening = c.add_part.new.lines;
      line = c.in_ok-of.of;
      opens = subst (λ (ls : List Line). AddsPart ls c.args.given.now c.args.part.clause c.add_part.new.lines c.in_ok-of.of) c.new-lines.ensures c.in_ok-of.ensures.adds;
      steps = c.add_line.new.lines;
      ends = adds_merge c.add_part.new.lines c.in_ok-of.of c.args.part.clause c.in_ok-line.line c.args.second c.add_line.new.lines c.in_ok-of.ensures.there c.requires.repeated
          (ap (λ (d : Clause). d.literals) c.in_ok-line.ensures ∙ c.remove.ensures.rest) c.in_ok-add_line.ensures.grown;
      canonical_last = ends;
    }) c.finish.ensures
