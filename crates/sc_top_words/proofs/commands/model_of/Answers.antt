use Rattle.sc_top_words.proofs.WordLaws.{is_search}
use Rattle.sc_top_words.proofs.commands.model_of.Goals as goal

pub returns-clause-in_range : goal.returns-clause-in_range
returns-clause-in_range c =
    rw c.chosen.ensures.is
    (rw c.last_size.ensures
    (rw c.chosen-2.ensures.is
    (rw c.chosen-3.ensures.is (is_search c.args.taken c.requires.in_range c.requires.in_order))))
