use Rattle.sc_tptp_scan.proofs.Scanning.{gap_first}
use Rattle.sc_tptp_scan.proofs.pieces.piece_in_gap.Goals as goal

pub returns-clause-value : goal.returns-clause-value
returns-clause-value c =
    gap_first c.args.region c.region_behind-next.result c.args.total c.split_first-byte.result.0 c.args.rest.now c.split_first-byte.result.1.now
    c.requires.gap c.split_first-byte.ensures c.requires.within c.region_behind-next.ensures
