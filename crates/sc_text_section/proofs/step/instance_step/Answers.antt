use Rattle.std.proofs.Common.{map, Ok, rules}
use Rattle.sc_term.specs.declared.Step.TheVariants.{Instance}
use Rattle.sc_input_rules.specs.Reader.{◌>>=◌}
use Rattle.sc_input_rules.specs.ClauseGrammar.{bracketed}
use Rattle.sc_input_grammar.proofs.Lists.{fails_on}
use Rattle.sc_text_rules.specs.TextWords.{a_number}
use Rattle.sc_text_rules.specs.ProofGrammar.{text_terms, instance_step}
use Rattle.sc_text_section.specs.Clipped.{clipped, clipped_term, clipped_step}
use Rattle.sc_text_section.proofs.Sequences.{gives_err, fails_behind, fails_unseen}
use Rattle.sc_text_section.proofs.step.instance_step.Goals as goal

pub returns-in_err-terms : goal.returns-in_err-terms
returns-in_err-terms c =
    let e = c.in_err-terms.field-0.0 in
    let terms = bracketed (text_terms c.args.sig.now) c.in_ok-of.rest.now in
    gives_err _ _ e _ (search rules)
    (fails_on e (instance_step c.args.sig.now c.args.tokens.now) (λ r. Ok (clipped_step r.0, r.1))
    (fails_behind e clipped (a_number c.args.tokens.now) c.in_ok-of.of c.in_ok-of.rest.now (λ j. bracketed (text_terms c.args.sig.now) j.1 >>= λ terms. Ok (Instance j.0 terms.0, terms.1)) c.in_ok-of.ensures (λ j.
    fails_on e terms (λ terms. Ok (Instance j terms.0, terms.1)) (fails_unseen (map clipped_term) terms e c.in_err-terms.ensures))))
