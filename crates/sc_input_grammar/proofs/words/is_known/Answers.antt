use Rattle.sc_input_grammar.proofs.words.is_known.Goals as goal

-- the longest table: what is known of each of its words is more than a search reads
pub returns-in-Flags : goal.returns-in-Flags
returns-in-Flags c = rw c.in-Flags.is c.is_any-in-Flags.ensures
