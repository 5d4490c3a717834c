use Rattle.std.proofs.Common.{rules}
use Rattle.sc_tptp_scan.proofs.Scanning.{fault_first, quoted_first}
use Rattle.sc_tptp_scan.proofs.pieces.piece_in_quotes.Goals as goal

pub returns-in-Some-clause-value : goal.returns-in-Some-clause-value
returns-in-Some-clause-value c =
    fault_first c.args.total c.split_first-byte.result.0 c.place_of-at.result c.args.rest.now c.split_first-byte.result.1.now c.as_slice.result.now c.in-Some.kind
    c.split_first-byte.ensures c.place_of-at.ensures (search rules) c.in-Some.ensures

pub returns-in-None-clause-value : goal.returns-in-None-clause-value
returns-in-None-clause-value c =
    quoted_first c.region_behind-region.result c.args.total c.split_first-byte.result.0 c.place_of-at.result c.args.rest.now c.split_first-byte.result.1.now
    c.split_first-byte.ensures c.requires.within c.place_of-at.ensures c.in-None.ensures c.region_behind-region.ensures
