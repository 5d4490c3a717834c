use Rattle.sc_input_scan.proofs.Scanning.{word_first, single_first}
use Rattle.sc_input_scan.proofs.pieces.next_token.Goals as goal

pub returns-then-is_word_byte-clause-value : goal.returns-then-is_word_byte-clause-value
returns-then-is_word_byte-clause-value c =
    word_first c.args.total c.split_first-byte.result.0 c.args.rest.now _ c.split_word.result.0.now c.split_word.result.1.now c.word_token.result
    c.split_first-byte.ensures c.split_word.ensures.whole c.requires.within (cc) c.split_word.ensures.word c.split_word.ensures.longest c.word_token.ensures

pub returns-in-None-clause-value : goal.returns-in-None-clause-value
returns-in-None-clause-value c = single_first _ _ _ _ _ c.split_first-byte.ensures c.requires.within (cc) (cc) c.if-byte-eq37.false c.in-None.ensures (cc)
