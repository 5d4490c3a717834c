use Rattle.std.proofs.Common.{ℕ, List, length, Ok, rules}
use Rattle.sc_term.specs.declared.Step.{Step}
use Rattle.sc_term.specs.declared.Step.TheVariants.{Para}
use Rattle.sc_term.specs.declared.Side.{Side}
use Rattle.sc_input_rules.specs.declared.token.Token.{Token}
use Rattle.sc_input_rules.specs.declared.token.Sign.TheVariants.{Comma}
use Rattle.sc_input_rules.specs.Reader.{Read, ◌>>=◌, separated}
use Rattle.sc_input_rules.specs.ClauseGrammar.{bracketed}
use Rattle.sc_input_grammar.proofs.Lists.{fails_on}
use Rattle.sc_text_rules.specs.TextWords.{a_number}
use Rattle.sc_text_rules.specs.ProofGrammar.{a_side, para_step}
use Rattle.sc_text_section.specs.Clipped.{clipped, clipped_step}
use Rattle.sc_text_section.proofs.Sequences.{gives_err, fails_behind}
use Rattle.sc_text_section.proofs.step.para_step.Goals as goal

abbrev behind_side : ℕ → ℕ → Side × List Token → Read Step
behind_side j a side = do
  k ← a_number side.1
  b ← a_number k.1
  path ← bracketed (separated Comma a_number (length b.1)) b.1
  Ok (Para j a side.0 k.0 b.0 path.0, path.1)

abbrev behind_literal : ℕ → ℕ × List Token → Read Step
behind_literal j a = a_side a.1 >>= behind_side j a.0

pub returns-in_err-side : goal.returns-in_err-side
returns-in_err-side c =
    let e = c.in_err-side.field-0.0 in
    gives_err _ _ e _ (search rules)
    (fails_on e (para_step c.args.tokens.now) (λ r. Ok (clipped_step r.0, r.1))
    (fails_behind e clipped (a_number c.args.tokens.now) c.in_ok-from.from c.in_ok-from.rest.now (λ j. a_number j.1 >>= behind_literal j.0) c.in_ok-from.ensures (λ j.
    fails_behind e clipped (a_number c.in_ok-from.rest.now) c.in_ok-from_lit.from_lit c.in_ok-from_lit.rest.now (behind_literal j) c.in_ok-from_lit.ensures (λ a.
    fails_on e (a_side c.in_ok-from_lit.rest.now) (behind_side j a) c.in_err-side.ensures))))
