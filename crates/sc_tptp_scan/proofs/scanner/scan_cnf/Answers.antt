use Rattle.std.proofs.Common.{◌≡◌, ◌∙◌, ◌+◌, ◌≤◌, ◌++◌, sym, ap, subst, refl, List, [], length, arith, rules}
use Rattle.sc_input_rules.specs.declared.token.Token.{Token}
use Rattle.sc_tptp_rules.specs.Placing.{cnf_tokens}
use Rattle.sc_tptp_scan.specs.declared.region.Region.TheVariants.{Outside}
use Rattle.sc_tptp_scan.specs.declared.standing.Standing.{Standing}
use Rattle.sc_tptp_scan.specs.Left.{tokens_left}
use Rattle.sc_tptp_scan.specs.Standing.{start, placed_with}
use Rattle.sc_tptp_scan.proofs.Placed.{all_left, nothing_more}
use Rattle.sc_tptp_scan.proofs.scanner.scan_cnf.Goals as goal

pub loop-rest-init : goal.loop-rest-init
loop-rest-init c =
    let bytes = c.args.bytes.now in
    let none : c.from_vec-tokens.result ≡ [] = search rules in
    record {
      all_bytes = refl;
      within = omega arith;
      count = subst (λ (s : Standing). s.count + length bytes ≤ length bytes) (sym c.start-standing.ensures) (omega arith);
      around = subst (λ (s : Standing). s.around + length bytes ≤ length bytes) (sym c.start-standing.ensures) (omega arith);
      all_tokens = ap (λ (s : Standing). c.from_vec-tokens.result ++ placed_with s (tokens_left Outside (length bytes) bytes)) c.start-standing.ensures
          ∙ ap (λ (ts : List Token). ts ++ placed_with start (tokens_left Outside (length bytes) bytes)) none ∙ all_left bytes;
    }

pub returns : goal.returns
returns c =
    nothing_more c.loop-rest.standing c.loop-rest.region (length c.args.bytes.now) c.loop-rest.tokens (cnf_tokens c.args.bytes.now) c.take_end.new.tokens c.loop-rest.rest.now
    (search rules) (search rules) c.in_ok-take_end.ensures
