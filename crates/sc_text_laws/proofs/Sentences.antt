-- Sentences in a row, at which no limit is passed.
use Rattle.std.proofs.Common.{◌≡◌, ◌∙◌, sym, ap, subst, refl, ℕ, Bool, false, List, [], ◌∷◌, ◌++◌, append_assoc, Option, Some, None}
use Rattle.std.specs.Prelude.{option_and_then, if◌then◌else◌}
use Rattle.std.specs.List.{AllByRecursion}
use Rattle.std.proofs.lemmas.List.{append-nil}
use Rattle.sc_term.proofs.SubstitutionLaws.{all_split}
use Rattle.sc_term.specs.declared.symbol.Symbol.{Symbol}
use Rattle.sc_input_rules.specs.declared.fault.Place.{Place}
use Rattle.sc_input_rules.specs.declared.token.Token.{Token}
use Rattle.sc_input_rules.specs.declared.token.Token.TheVariants.{Punctuation}
use Rattle.sc_input_rules.specs.declared.token.Sign.TheVariants.{Stop}
use Rattle.sc_input_rules.specs.Token.{is_sign}
use Rattle.sc_input_rules.specs.Faults.{first_passed, passed}
use Rattle.sc_text_rules.specs.TextPosition.{position_behind, text_position}
use Rattle.sc_text_rules.specs.TextLimits.{text_bounds, text_limits, text_fault_at}
use Rattle.sc_text_laws.proofs.Walks.{Walk, walk_join, walk_splits, walk_at, walk_unpassed}
use Rattle.sc_text_laws.proofs.Prefixes.{split_cases}
use Rattle.sc_text_laws.proofs.Passing.{Passes}

-- these tokens end with a full stop, or are none: what follows them begins a sentence
pub record EndsSentence (front : List Token) : Type 0 where
  law : (t : Token) (ts : List Token) → text_position (front ++ t ∷ ts) ≡ text_position (t ∷ ts)

pub at_start : EndsSentence []
at_start = record { law = λ t ts. refl }

abbrev pub HasNoStop : List Token → Type 0
HasNoStop ts = AllByRecursion (λ t. is_sign Stop t ≡ false) ts

-- behind a full stop nothing of the sentence is kept
behind_stop : (earlier ts : List Token) (stop : ℕ) (u : Token) (us : List Token) → HasNoStop ts → position_behind earlier (ts ++ Punctuation stop Stop ∷ u ∷ us) ≡ position_behind [] (u ∷ us)
behind_stop earlier [] stop u us h = refl
behind_stop earlier (t ∷ []) stop u us h = ap (λ (b : Bool). position_behind (if b then [] else (earlier ++ t ∷ [])) (Punctuation stop Stop ∷ u ∷ us)) h.0
behind_stop earlier (t ∷ v ∷ vs) stop u us h =
    ap (λ (b : Bool). position_behind (if b then [] else (earlier ++ t ∷ [])) (v ∷ (vs ++ Punctuation stop Stop ∷ u ∷ us))) h.0 ∙ behind_stop (earlier ++ t ∷ []) (v ∷ vs) stop u us h.1

-- the position of the last of some tokens
position_is : (earlier us : List Token) (t : Token) → HasNoStop us → position_behind earlier (us ++ t ∷ []) ≡ Some (record { earlier = earlier ++ us; last = t })
position_is earlier [] t h = ap (λ (ts : List Token). Some (record { earlier = ts; last = t })) (sym (append-nil earlier))
position_is earlier (u ∷ []) t h = ap (λ (b : Bool). position_behind (if b then [] else (earlier ++ u ∷ [])) (t ∷ [])) h.0
position_is earlier (u ∷ v ∷ vs) t h =
    ap (λ (b : Bool). position_behind (if b then [] else (earlier ++ u ∷ [])) (v ∷ (vs ++ t ∷ []))) h.0
    ∙ position_is (earlier ++ u ∷ []) (v ∷ vs) t h.1 ∙ ap (λ (ts : List Token). Some (record { earlier = ts; last = t })) (append_assoc earlier (u ∷ []) (v ∷ vs))

begins : (front ts : List Token) (u : Token) (us : List Token) → EndsSentence front → text_position (front ++ (ts ++ u ∷ us)) ≡ text_position (ts ++ u ∷ us)
begins front [] u us s = s.law u us
begins front (t ∷ ts) u us s = s.law t (ts ++ u ∷ us)

next_sentence : (front ts : List Token) (stop : ℕ) → EndsSentence front → HasNoStop ts → EndsSentence (front ++ (ts ++ Punctuation stop Stop ∷ []))
next_sentence front ts stop s h =
    record {
      law = λ u us.
          ap text_position (append_assoc front (ts ++ Punctuation stop Stop ∷ []) (u ∷ us) ∙ ap (λ vs. front ++ vs) (append_assoc ts (Punctuation stop Stop ∷ []) (u ∷ us)))
          ∙ begins front ts (Punctuation stop Stop) (u ∷ us) s ∙ behind_stop [] ts stop u us h;
    }

module _ (symbols : List Symbol) where
  abbrev fault_at : List Token → Option Place
  fault_at tokens = text_fault_at text_bounds symbols tokens

  abbrev Unpassed : List Token → Token → Type 0
  Unpassed us t = fault_at (us ++ t ∷ []) ≡ None

  unpassed_at : (front us : List Token) (t : Token) → EndsSentence front → HasNoStop us → Passes symbols us t → Unpassed (front ++ us) t
  unpassed_at front us t s h passes =
      ap fault_at (append_assoc front us (t ∷ []))
      ∙ ap (option_and_then (passed (text_limits text_bounds symbols))) (begins front us t [] s ∙ position_is [] us t h)
      ∙ passes

  -- before the full stop of a sentence there is none
  no_stop_before : (ts us more : List Token) (stop : ℕ) (t : Token) → HasNoStop ts → ts ++ Punctuation stop Stop ∷ [] ≡ us ++ t ∷ more → HasNoStop us
  no_stop_before ts us more stop t h e =
      split_cases (HasNoStop us) ts (Punctuation stop Stop ∷ []) us (t ∷ more) e
      (λ m k. (all_split (λ t. is_sign Stop t ≡ false) us m (subst HasNoStop k h)).0)
      (λ v k l. by v k l)
    where
      by : (v : List Token) → us ≡ ts ++ v → Punctuation stop Stop ∷ [] ≡ v ++ t ∷ more → HasNoStop us
      by [] k l = subst HasNoStop (sym (k ∙ append-nil ts)) h
      by (x ∷ []) k l = absurd cc
      by (x ∷ y ∷ ys) k l = absurd cc

  sentence_unpassed : (front ts : List Token) (stop : ℕ) → EndsSentence front → HasNoStop ts → Walk (Passes symbols) [] (ts ++ Punctuation stop Stop ∷ []) → Walk Unpassed front (ts ++ Punctuation stop Stop ∷ [])
  sentence_unpassed front ts stop s h walk =
      walk_splits Unpassed front (ts ++ Punctuation stop Stop ∷ []) (λ us t more e.
      unpassed_at front us t s (no_stop_before ts us more stop t h e) (walk_at (Passes symbols) [] (ts ++ Punctuation stop Stop ∷ []) walk us t more e))

  -- sentences behind others, none of whose tokens passes a limit
  pub record Sentences (front ts : List Token) : Type 0 where
    pub walk : Walk Unpassed front ts
    pub ends : EndsSentence (front ++ ts)

  pub no_sentence : (front : List Token) → EndsSentence front → Sentences front []
  no_sentence front s = record { walk = tt; ends = subst EndsSentence (sym (append-nil front)) s }

  pub one_sentence : (front ts : List Token) (stop : ℕ) → EndsSentence front → HasNoStop ts → Walk (Passes symbols) [] (ts ++ Punctuation stop Stop ∷ []) → Sentences front (ts ++ Punctuation stop Stop ∷ [])
  one_sentence front ts stop s h walk = record { walk = sentence_unpassed front ts stop s h walk; ends = next_sentence front ts stop s h }

  pub then_sentences : (front xs ys : List Token) → Sentences front xs → Sentences (front ++ xs) ys → Sentences front (xs ++ ys)
  then_sentences front xs ys h k = record { walk = walk_join Unpassed front xs ys h.walk k.walk; ends = subst EndsSentence (append_assoc front xs ys) k.ends }

  -- so no limit is passed in them all
  pub sentences_unpassed : (ts : List Token) → Sentences [] ts → first_passed (text_fault_at text_bounds symbols) ts ≡ None
  sentences_unpassed ts s = walk_unpassed fault_at [] ts s.walk
