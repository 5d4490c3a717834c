use Rattle.std.proofs.Common.{◌∙◌, sym, ap, Some}
use Rattle.sc_term.specs.declared.Clause.{Clause}
use Rattle.sc_term.specs.Clause.{IsWithinLimits}
use Rattle.sc_core_rules.specs.Book.{numbered_clauses}
use Rattle.sc_core.proofs.ItemLaws.{at_its_number, input_lines, ends_with}
use Rattle.sc_core.proofs.item.returned.Goals as goal

pub invariant_of-result : goal.invariant_of-result
invariant_of-result c =
    let clause = c.in_ok-clause.clause in
    let stands = c.clause.ensures ∙ ap (λ (d : Clause). Some d) (sym c.in_ok-clause.ensures) in
    let within = at_its_number IsWithinLimits (numbered_clauses c.args.book.now.problem c.args.book.now.book) c.args.n clause (c.keeps.ensures.all_within c.requires.whole) stands in
    record {
      ends = ends_with c.args.n clause c.push.new.self (input_lines c.args.n clause c.in_ok-copy.field-0 c.new-lines.result c.push.new.self c.new-lines.ensures c.in_ok-push.ensures.ok c.in_ok-copy.ensures);
      light = within.light;
      shallow = within.shallow;
    }
