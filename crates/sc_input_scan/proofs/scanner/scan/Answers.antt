use Rattle.std.proofs.Common.{◌≡◌, List, subst, IfOk}
use Rattle.sc_input_rules.specs.declared.token.Token.{Token}
use Rattle.sc_input_rules.specs.Tokens.{tokens_behind}
use Rattle.sc_input_scan.proofs.Scanning.{with_colons}
use Rattle.sc_input_scan.proofs.scanner.scan.Goals as goal

pub returns : goal.returns
returns c =
    subst (λ (all : List Token). IfOk c.scan_with.result (λ ts. ts ≡ all)) (with_colons (tokens_behind c.args.from c.args.bytes.now)) c.scan_with.ensures
