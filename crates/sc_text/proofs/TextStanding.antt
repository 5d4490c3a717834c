-- Where the tokens of a line stand, behind whole sentences, and what holds there where no limit is passed.
use Rattle.std.proofs.Common.{◌≡◌, ◌∙◌, sym, ap, refl, Bool, true, false, List, [], ◌∷◌, ◌++◌, append_assoc, Option, Some, None}
use Rattle.std.specs.Prelude.{ℕ, if◌then◌else◌, cond, drop}
use Rattle.std.proofs.lemmas.List.{append-nil}
use Rattle.sc_term.proofs.SubstitutionLaws.{all_join}
use Rattle.sc_term.specs.declared.symbol.Symbol.{Symbol}
use Rattle.sc_input_rules.specs.declared.fault.InputKind.{InputKind}
use Rattle.sc_input_rules.specs.declared.fault.InputKind.TheVariants.{UnknownName, OutOfRange}
use Rattle.sc_input_rules.specs.declared.fault.Place.{Place}
use Rattle.sc_input_rules.specs.declared.token.Token.{Token}
use Rattle.sc_input_rules.specs.declared.token.Sign.TheVariants.{Stop}
use Rattle.sc_input_rules.specs.Token.{is_sign}
use Rattle.sc_input_rules.specs.Faults.{place, passed, passed_behind}
use Rattle.sc_input_rules.proofs.Standing.{HasNoStop}
use Rattle.sc_input_rules.proofs.Unpassed.{unpassed_split, unpassed_at}
use Rattle.sc_text_rules.specs.TextPosition.{TextPosition, position_behind, text_position}
use Rattle.sc_text_rules.specs.TextLimits.{name_told, variable_told, number_told, text_bounds, text_limits, text_fault_at}

-- ---- the sentence so far

-- what stands in the sentence behind these tokens
abbrev sentence_behind : List Token → List Token → List Token
sentence_behind earlier [] = earlier
sentence_behind earlier (t ∷ ts) = sentence_behind (if is_sign Stop t then [] else earlier ++ t ∷ []) ts

position_at : (earlier ts : List Token) (t : Token) → position_behind earlier (ts ++ t ∷ []) ≡ Some (record { earlier = sentence_behind earlier ts; last = t })
position_at earlier [] t = refl
position_at earlier (u ∷ []) t = refl
position_at earlier (u ∷ v ∷ ts) t = position_at (if is_sign Stop u then [] else earlier ++ u ∷ []) (v ∷ ts) t

sentence-append : (earlier xs ys : List Token) → sentence_behind earlier (xs ++ ys) ≡ sentence_behind (sentence_behind earlier xs) ys
sentence-append earlier [] ys = refl
sentence-append earlier (x ∷ xs) ys = sentence-append (if is_sign Stop x then [] else earlier ++ x ∷ []) xs ys

sentence-more : (earlier ts : List Token) → HasNoStop ts → sentence_behind earlier ts ≡ earlier ++ ts
sentence-more earlier [] h = sym (append-nil earlier)
sentence-more earlier (t ∷ ts) h =
    ap (λ (b : Bool). sentence_behind (cond b [] (earlier ++ t ∷ [])) ts) h.0 ∙ sentence-more (earlier ++ t ∷ []) ts h.1 ∙ append_assoc earlier (t ∷ []) ts

-- ---- limits

or_place : InputKind → Option ℕ → Option Place → Option Place
or_place kind o p = elim o [ Some at ↦ Some (place at kind) | None ↦ p ]

not_told : (kind : InputKind) (o : Option ℕ) (p : Option Place) → or_place kind o p ≡ None → (o ≡ None) × (p ≡ None)
unfolding or_place
not_told kind (Some at) p e = absurd cc
not_told kind None p e = (refl, e)

-- neither a variable nor a number is too large there
pub record IsClearText (p : TextPosition) : Type 0 where
  pub variable : variable_told p ≡ None
  pub number : number_told p ≡ None

is_clear_text : (symbols : List Symbol) (p : TextPosition) → passed (text_limits text_bounds symbols) p ≡ None → IsClearText p
unfolding or_place
is_clear_text symbols p e =
    let behind = λ (n : ℕ). passed (drop n (text_limits text_bounds symbols)) p in
    let a = not_told UnknownName (name_told symbols p) (behind 1) e in
    let b = not_told OutOfRange (variable_told p) (behind 2) a.1 in
    let c = not_told OutOfRange (number_told p) (behind 3) b.1 in
    record { variable = b.0; number = c.0 }

-- ---- in a text

module _ (symbols : List Symbol) where
  abbrev fault_at : List Token → Option Place
  fault_at = text_fault_at text_bounds symbols

  -- these tokens stand behind whole sentences, and none of them passes a limit
  pub record AtStart (whole ts : List Token) : Type 0 where
    pub starts : sentence_behind [] whole ≡ []
    pub unpassed : passed_behind fault_at whole ts ≡ None

  -- the same within a sentence, of which the front stands before them
  pub record InSentence (whole front ts : List Token) : Type 0 where
    pub starts : sentence_behind [] whole ≡ []
    pub without_stop : HasNoStop front
    pub unpassed : passed_behind fault_at (whole ++ front) ts ≡ None

  pub at_first : (ts : List Token) → passed_behind fault_at [] ts ≡ None → AtStart [] ts
  at_first ts e = record { starts = refl; unpassed = e }

  pub sentence_begun : (whole ts : List Token) → AtStart whole ts → InSentence whole [] ts
  sentence_begun whole ts h = record { starts = h.starts; without_stop = tt; unpassed = ap (λ us. passed_behind fault_at us ts) (append-nil whole) ∙ h.unpassed }

  pub sentence_ended : (whole front : List Token) (t : Token) (ts : List Token) → is_sign Stop t ≡ true → InSentence whole front (t ∷ ts) → AtStart ((whole ++ front) ++ t ∷ []) ts
  sentence_ended whole front t ts e h =
      record {
        starts = sentence-append [] (whole ++ front) (t ∷ []) ∙ ap (λ (b : Bool). cond b [] (sentence_behind [] (whole ++ front) ++ t ∷ [])) e;
        unpassed = (unpassed_split fault_at (whole ++ front) (t ∷ []) ts h.unpassed).1;
      }

  pub further : (whole front xs ts : List Token) → HasNoStop xs → InSentence whole front (xs ++ ts) → InSentence whole (front ++ xs) ts
  further whole front xs ts n h =
      record {
        starts = h.starts;
        without_stop = all_join (λ t. is_sign Stop t ≡ false) front xs h.without_stop n;
        unpassed = ap (λ us. passed_behind fault_at us ts) (sym (append_assoc whole front xs)) ∙ (unpassed_split fault_at (whole ++ front) xs ts h.unpassed).1;
      }

  pub clear_at : (whole front : List Token) (t : Token) (ts : List Token) → InSentence whole front (t ∷ ts) → IsClearText (record { earlier = front; last = t })
  clear_at whole front t ts h =
      let here : sentence_behind [] (whole ++ front) ≡ front =
      sentence-append [] whole front ∙ ap (λ us. sentence_behind us front) h.starts ∙ sentence-more [] front h.without_stop in
      let none : fault_at ((whole ++ front) ++ t ∷ []) ≡ None = unpassed_at fault_at (whole ++ front) t [] (unpassed_split fault_at (whole ++ front) (t ∷ []) ts h.unpassed).0 in
      let position : text_position ((whole ++ front) ++ t ∷ []) ≡ Some (record { earlier = front; last = t }) =
      position_at [] (whole ++ front) t ∙ ap (λ us. Some (record { earlier = us; last = t })) here in
      is_clear_text symbols (record { earlier = front; last = t }) (sym (ap (λ (o : Option TextPosition). elim o [ Some p ↦ passed (text_limits text_bounds symbols) p | None ↦ None ]) position) ∙ none)
