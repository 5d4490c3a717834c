use Rattle.sc_top_words.proofs.OptionLaws.{no_option_in_one}
use Rattle.sc_top_words.proofs.options.option_in_one.Goals as goal

pub returns : goal.returns
returns c =
    no_option_in_one c.args.word.now c.in_default.ensures c.in_default-behind.ensures c.in_default-behind-2.ensures c.in_default-behind-3.ensures c.in_default-behind-4.ensures c.in_default-behind-5.ensures
