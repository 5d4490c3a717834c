-- The sentence so far, with one token more, and the position that it gives.
use Rattle.std.proofs.Common.{◌≡◌, ◌∙◌, ap, refl, Bool, true, false, List, [], ◌∷◌, ◌++◌}
use Rattle.std.specs.Prelude.{Some, option_and_then, if◌then◌else◌}
use Rattle.sc_term.specs.declared.symbol.Symbol.{Symbol}
use Rattle.sc_input_rules.specs.declared.token.Token.{Token}
use Rattle.sc_input_rules.specs.declared.token.Sign.TheVariants.{Stop}
use Rattle.sc_input_rules.specs.Token.{is_sign}
use Rattle.sc_input_rules.specs.Faults.{passed}
use Rattle.sc_text_rules.specs.TextPosition.{TextPosition, position_behind}
use Rattle.sc_text_rules.specs.TextLimits.{text_bounds, text_limits, text_fault_at}
use Rattle.sc_text_limits.specs.Parts.{sentence_behind, sentence_so_far}

sentence_behind-one_more : (earlier tokens : List Token) (t : Token) → sentence_behind earlier (tokens ++ t ∷ []) ≡ (if is_sign Stop t then [] else sentence_behind earlier tokens ++ t ∷ [])
sentence_behind-one_more earlier [] t = refl
sentence_behind-one_more earlier (u ∷ us) t = sentence_behind-one_more (if is_sign Stop u then [] else earlier ++ u ∷ []) us t

pub sentence-stop : (tokens : List Token) (t : Token) → is_sign Stop t ≡ true → sentence_so_far (tokens ++ t ∷ []) ≡ []
sentence-stop tokens t e = sentence_behind-one_more [] tokens t ∙ ap (λ (b : Bool). if b then [] else sentence_so_far tokens ++ t ∷ []) e

pub sentence-other : (tokens : List Token) (t : Token) → is_sign Stop t ≡ false → sentence_so_far (tokens ++ t ∷ []) ≡ sentence_so_far tokens ++ t ∷ []
sentence-other tokens t e = sentence_behind-one_more [] tokens t ∙ ap (λ (b : Bool). if b then [] else sentence_so_far tokens ++ t ∷ []) e

position_behind-last : (earlier tokens : List Token) (t : Token) → position_behind earlier (tokens ++ t ∷ []) ≡ Some (record { earlier = sentence_behind earlier tokens; last = t })
position_behind-last earlier [] t = refl
position_behind-last earlier (u ∷ []) t = refl
position_behind-last earlier (u ∷ v ∷ vs) t = position_behind-last (if is_sign Stop u then [] else earlier ++ u ∷ []) (v ∷ vs) t

-- the position of the last token
abbrev pub at_last : List Token → Token → TextPosition
at_last sentence t = record { earlier = sentence; last = t }

pub fault-last : (symbols : List Symbol) (front : List Token) (t : Token) → text_fault_at text_bounds symbols (front ++ t ∷ []) ≡ passed (text_limits text_bounds symbols) (at_last (sentence_so_far front) t)
fault-last symbols front t = ap (option_and_then (passed (text_limits text_bounds symbols))) (position_behind-last [] front t)
