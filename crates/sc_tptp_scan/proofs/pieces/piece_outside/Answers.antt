use Rattle.std.proofs.Common.{◌∙◌, sym}
use Rattle.sc_tptp_scan.specs.declared.region.Region.TheVariants.{Outside}
use Rattle.sc_tptp_scan.proofs.Scanning.{word_first, unequal_first, byte_first}
use Rattle.sc_tptp_scan.proofs.pieces.piece_outside.Goals as goal

pub returns-then-is_word_byte-clause-value : goal.returns-then-is_word_byte-clause-value
returns-then-is_word_byte-clause-value c =
    rw c.new.ensures
    (word_first c.args.total c.split_first-byte.result.0 c.place_of-at.result c.args.rest.now c.split_first-byte.result.1.now c.split_word.result.0.now c.split_word.result.1.now
    c.split_first-byte.ensures c.split_word.ensures.whole c.requires.within (sym c.is_word_byte.ensures ∙ c.if-is_word_byte.true) c.split_word.ensures.word c.split_word.ensures.longest c.place_of-at.ensures)

pub returns-in-Some-clause-value : goal.returns-in-Some-clause-value
returns-in-Some-clause-value c =
    unequal_first c.args.total c.split_first-byte.result.0 c.place_of-at.result c.args.rest.now c.split_first-byte.result.1.now c.in-Some.behind.now
    c.split_first-byte.ensures c.in-Some.ensures.0 c.in-Some.ensures.1 c.requires.within c.place_of-at.ensures

pub returns-in-None-clause-value : goal.returns-in-None-clause-value
returns-in-None-clause-value c =
    byte_first Outside c.region_behind-region.result c.args.total c.split_first-byte.result.0 c.place_of-at.result c.args.rest.now c.split_first-byte.result.1.now c.token_outside-token.result
    c.split_first-byte.ensures c.requires.within c.place_of-at.ensures c.token_outside-token.ensures c.region_behind-region.ensures
