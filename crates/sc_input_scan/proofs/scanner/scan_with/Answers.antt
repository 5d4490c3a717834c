use Rattle.sc_input_scan.proofs.Scanning.{nothing_more}
use Rattle.sc_input_scan.specs.Rest.{token_as}
use Rattle.sc_input_scan.proofs.scanner.scan_with.Goals as goal

pub returns : goal.returns
returns c = nothing_more (token_as c.args.has_colon) _ _ _ _ c.loop-rest.invariant.all_tokens (cc)
