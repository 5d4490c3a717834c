use Rattle.std.proofs.Common.{Ok, rules}
use Rattle.sc_input_rules.specs.Reader.{◌>>=◌, a_listed_name}
use Rattle.sc_input_rules.specs.Settings.{flag_words, unsupported_flags}
use Rattle.sc_input_rules.specs.ProblemGrammar.{the_close, Setting}
use Rattle.sc_input_grammar.specs.Items.{with_clipped}
use Rattle.sc_input_grammar.proofs.Lists.{gives_failure_within}
use Rattle.sc_input_grammar.proofs.item.setting.Goals as goal

pub returns-in_err-at : goal.returns-in_err-at
returns-in_err-at c =
    rw c.in_ok-rest.ensures
    (gives_failure_within _ _ c.in_err-at.field-0.0 (a_listed_name flag_words unsupported_flags c.in_ok-rest.rest.now)
    (λ name. the_close name.1 >>= λ end. Ok (Setting name.0 c.args.positive, end.1)) (λ r. Ok (with_clipped r.0, r.1)) (search rules) c.in_err-at.ensures)
