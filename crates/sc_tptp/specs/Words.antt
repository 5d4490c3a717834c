-- The words of each vocabulary.
use Rattle.std.specs.Prelude.{ℕ, List}
use Rattle.sc_tptp_rules.specs.CnfGrammar.{cnf_words, unsupported_forms, roles, unsupported_roles}
use Rattle.sc_tptp.specs.declared.words.Vocabulary.{Vocabulary}
use Rattle.sc_tptp.specs.declared.words.Vocabulary.TheVariants.{Forms, Roles}

-- those that may stand there
abbrev pub known_words : Vocabulary → List (List ℕ)
known_words Forms = cnf_words
known_words Roles = roles

-- those that are known and not supported
abbrev pub unsupported_words : Vocabulary → List (List ℕ)
unsupported_words Forms = unsupported_forms
unsupported_words Roles = unsupported_roles
