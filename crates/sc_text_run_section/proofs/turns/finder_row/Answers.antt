use Rattle.std.proofs.Common.{ℕ, List, Ok, rules}
use Rattle.std.specs.Prelude.{codes}
use Rattle.sc_input_rules.specs.declared.token.Token.{Token}
use Rattle.sc_input_rules.specs.declared.token.Sign.TheVariants.{Stop}
use Rattle.sc_input_rules.specs.Reader.{Read, ◌>>=◌, the_sign, the_word}
use Rattle.sc_input_grammar.proofs.Lists.{fails_on}
use Rattle.sc_text_section.proofs.Sequences.{gives_err, fails_then}
use Rattle.sc_text_run_rules.specs.declared.run.FinderEnd.{FinderEnd}
use Rattle.sc_text_run_rules.specs.RowWords.{the_row_number, an_end}
use Rattle.sc_text_run_section.proofs.turns.finder_row.Goals as goal

abbrev behind_end : FinderEnd × List Token → Read FinderEnd
behind_end e = the_sign Stop e.1 >>= λ stop. Ok (e.0, stop.1)

abbrev behind_number : ℕ × List Token → Read FinderEnd
behind_number f = an_end f.1 >>= behind_end

pub returns-in_err-end : goal.returns-in_err-end
returns-in_err-end c =
    let e = c.in_err-end.field-0.0 in
    gives_err _ _ e _ (search rules)
    (fails_then e (the_word (codes "finder") c.args.tokens.now) tt c.in_ok-rest.rest.now (λ begin. the_row_number c.args.finder begin.1 >>= behind_number) (search rules)
    (fails_then e (the_row_number c.args.finder c.in_ok-rest.rest.now) c.in_ok-rest-2.field-0-0 c.in_ok-rest-2.rest.now behind_number c.in_ok-rest-2.ensures
    (fails_on e (an_end c.in_ok-rest-2.rest.now) behind_end c.in_err-end.ensures)))
