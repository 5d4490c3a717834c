use Rattle.std.proofs.Common.{◌∙◌, ap, List}
use Rattle.sc_term.specs.declared.symbol.Symbol.{Symbol}
use Rattle.sc_text_run_rules.specs.RunText.{run_text}
use Rattle.sc_text_run_rules.specs.RunValue.{run_value}
use Rattle.sc_top.proofs.ProveLaws.{has_run}
use Rattle.sc_top.proofs.runs.ran.Goals as goal

pub returns-clause-decided : goal.returns-clause-decided
returns-clause-decided c = λ plan bytes recorded e.
    has_run plan bytes c.args.problem.now c.args.ended.now.shelves (run_value c.args.ended.now.run) c.from_vec.result e recorded
    (c.from_vec.ensures ∙ c.in_ok-text.ensures ∙ ap (λ (symbols : List Symbol). run_text symbols (run_value c.args.ended.now.run)) c.sig.ensures)
