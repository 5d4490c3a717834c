-- The words of each vocabulary.
use Rattle.std.specs.Prelude.{ℕ, List}
use Rattle.sc_input_rules.specs.Settings.{item_words, unsupported_items, list_words, unsupported_lists, flag_words, unsupported_flags, parameter_words, unsupported_parameters}
use Rattle.sc_input_grammar.specs.declared.words.Vocabulary.{Vocabulary}
use Rattle.sc_input_grammar.specs.declared.words.Vocabulary.TheVariants.{Items, Lists, Flags, Parameters}

-- those that may stand there
abbrev pub known_words : Vocabulary → List (List ℕ)
known_words Items = item_words
known_words Lists = list_words
known_words Flags = flag_words
known_words Parameters = parameter_words

-- those that are known and not supported
abbrev pub unsupported_words : Vocabulary → List (List ℕ)
unsupported_words Items = unsupported_items
unsupported_words Lists = unsupported_lists
unsupported_words Flags = unsupported_flags
unsupported_words Parameters = unsupported_parameters
