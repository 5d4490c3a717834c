use Rattle.sc_text_rules.proofs.FewLines.{few_lines}
use Rattle.sc_top.proofs.read_input.Goals as goal

pub returns-clause-few : goal.returns-clause-few
returns-clause-few c = few_lines _ _ _ c.in_ok-lines.lines c.in_ok-lines.ensures.ok
