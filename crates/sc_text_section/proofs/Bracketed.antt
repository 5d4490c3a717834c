-- Something in parentheses that is known only as it is seen.
use Rattle.std.proofs.Common.{◌≡◌, List, Ok}
use Rattle.sc_input_rules.specs.declared.token.Token.{Token}
use Rattle.sc_input_rules.specs.declared.token.Sign.TheVariants.{Open, Close}
use Rattle.sc_input_rules.specs.Reader.{Read, ◌>>=◌, the_sign}
use Rattle.sc_input_rules.specs.ClauseGrammar.{bracketed}
use Rattle.sc_input_scan.specs.declared.stop.Stop.{Stop}
use Rattle.sc_input_scan.specs.Told.{Fails}
use Rattle.sc_input_grammar.proofs.Lists.{fails_on}
use Rattle.sc_text_section.specs.Clipped.{seen_by}
use Rattle.sc_text_section.proofs.Sequences.{fails_unseen, fails_then, fails_behind}

module _ {A B : Type 0} (f : A → B) (inside : List Token → Read A) (e : Stop) (tokens first : List Token) (opening : the_sign Open tokens ≡ Ok (tt, first)) where
  abbrev closed : A × List Token → Read A
  closed value = the_sign Close value.1 >>= λ close. Ok (value.0, close.1)

  pub inside_fails : Fails e (seen_by f (inside first)) → Fails e (seen_by f (bracketed inside tokens))
  inside_fails h =
      fails_on e (bracketed inside tokens) (λ r. Ok (f r.0, r.1))
      (fails_then e (the_sign Open tokens) tt first (λ o. inside o.1 >>= closed) opening (fails_on e (inside first) closed (fails_unseen f (inside first) e h)))

  pub close_fails : (y : B) (second : List Token) → seen_by f (inside first) ≡ Ok (y, second) → Fails e (the_sign Close second) → Fails e (seen_by f (bracketed inside tokens))
  close_fails y second v h =
      fails_on e (bracketed inside tokens) (λ r. Ok (f r.0, r.1))
      (fails_then e (the_sign Open tokens) tt first (λ o. inside o.1 >>= closed) opening
      (fails_behind e f (inside first) y second closed v (λ x. fails_on e (the_sign Close second) (λ close. Ok (x, close.1)) h)))
