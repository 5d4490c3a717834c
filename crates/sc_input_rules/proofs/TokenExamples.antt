-- The tokens of some texts, by computation.
use Rattle.std.proofs.Common.{◌≡◌, refl, [], ◌∷◌, ◌++◌}
use Rattle.std.specs.Prelude.{codes}
use Rattle.sc_input_rules.specs.declared.fault.InputKind.TheVariants.{NotText, Unsupported}
use Rattle.sc_input_rules.specs.declared.token.Token.TheVariants.{Word, Punctuation, Refused}
use Rattle.sc_input_rules.specs.declared.token.Sign.TheVariants.{Open, Close, Stop, Equal, Unequal}
use Rattle.sc_input_rules.specs.Tokens.{tokens}

item : tokens (codes "set(auto).") ≡ Word 0 (codes "set") ∷ Punctuation 3 Open ∷ Word 4 (codes "auto") ∷ Punctuation 8 Close ∷ Punctuation 9 Stop ∷ []
item = refl

-- a comment, an inequation, a lone exclamation mark
mixed : tokens (codes "a!=b % c!\n!d=") ≡ Word 0 (codes "a") ∷ Punctuation 1 Unequal ∷ Word 3 (codes "b") ∷ Refused 10 Unsupported ∷ Word 11 (codes "d") ∷ Punctuation 12 Equal ∷ []
mixed = refl

-- words with a dollar, and bytes that are no text
strange : tokens (codes "$F $a b$F é[" ++ 127 ∷ 0 ∷ []) ≡ Word 0 (codes "$F") ∷ Refused 3 Unsupported ∷ Refused 6 Unsupported ∷ Refused 10 NotText ∷ Refused 11 Unsupported ∷ Refused 12 NotText ∷ Refused 13 NotText ∷ []
strange = refl
