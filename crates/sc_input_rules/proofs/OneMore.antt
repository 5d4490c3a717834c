-- What each count over tokens is with one token more.
use Rattle.std.proofs.Common.{◌≡◌, ◌∙◌, ap, refl, ℕ, ◌+◌, ◌-◌, max, Bool, true, false, List, [], ◌∷◌, ◌++◌, arith}
use Rattle.std.specs.Prelude.{Option, Some, None, if◌then◌else◌}
use Rattle.sc_input_rules.specs.declared.settings.Home.{Home}
use Rattle.sc_input_rules.specs.declared.token.Token.{Token}
use Rattle.sc_input_rules.specs.declared.token.Token.TheVariants.{Word, Punctuation, Refused}
use Rattle.sc_input_rules.specs.declared.token.Sign.TheVariants.{Open, Close, Stop}
use Rattle.sc_input_rules.specs.Token.{is_sign}
use Rattle.sc_input_rules.specs.Position.{sentences, with_token, home_behind, opened, closes}
use Rattle.sc_input_rules.specs.Measures.{open_commas, commas_behind, around_behind, greatest_level}

-- ---- sentences

abbrev Cut : Type 0
Cut = List (List Token) × List Token

-- a full stop ends the sentence so far
abbrev ended : Cut → Cut
ended c = (c.0 ++ c.1 ∷ [], [])

-- a token joins the sentence so far
abbrev joined_by_one : Token → Cut → Cut
joined_by_one t c = (c.0, c.1 ++ t ∷ [])

with_token-ended : (u : Token) (ss : List (List Token)) (r : List Token) → with_token u (ended (ss, r)) ≡ ended (with_token u (ss, r))
with_token-ended u [] r = refl
with_token-ended u (s ∷ ss) r = refl

with_token-joined : (u t : Token) (ss : List (List Token)) (r : List Token) → with_token u (joined_by_one t (ss, r)) ≡ joined_by_one t (with_token u (ss, r))
with_token-joined u t [] r = refl
with_token-joined u t (s ∷ ss) r = refl

-- what a token makes of the sentences behind it
abbrev step : Bool → Token → Cut → Cut
step stops u later = if stops then ([] ∷ later.0, later.1) else with_token u later

step-ended : (b : Bool) (u : Token) (c : Cut) → step b u (ended c) ≡ ended (step b u c)
step-ended true u c = refl
step-ended false u c = with_token-ended u c.0 c.1

step-joined : (b : Bool) (u t : Token) (c : Cut) → step b u (joined_by_one t c) ≡ joined_by_one t (step b u c)
step-joined true u t c = refl
step-joined false u t c = with_token-joined u t c.0 c.1

pub sentences-stop : (tokens : List Token) (t : Token) → is_sign Stop t ≡ true → sentences (tokens ++ t ∷ []) ≡ ((sentences tokens).0 ++ (sentences tokens).1 ∷ [], [])
sentences-stop [] t e = ap (λ (b : Bool). step b t ([], [])) e
sentences-stop (u ∷ us) t e = ap (step (is_sign Stop u) u) (sentences-stop us t e) ∙ step-ended (is_sign Stop u) u (sentences us)

pub sentences-other : (tokens : List Token) (t : Token) → is_sign Stop t ≡ false → sentences (tokens ++ t ∷ []) ≡ ((sentences tokens).0, (sentences tokens).1 ++ t ∷ [])
sentences-other [] t e = ap (λ (b : Bool). step b t ([], [])) e
sentences-other (u ∷ us) t e = ap (step (is_sign Stop u) u) (sentences-other us t e) ∙ step-joined (is_sign Stop u) u t (sentences us)

-- ---- lists

-- the list open behind one more sentence
abbrev next_home : Option Home → List Token → Option Home
next_home None s = opened s
next_home (Some h) s = if closes s then None else Some h

pub home_behind-one_more : (home : Option Home) (ss : List (List Token)) (s : List Token) → home_behind home (ss ++ s ∷ []) ≡ next_home (home_behind home ss) s
home_behind-one_more None [] s = refl
home_behind-one_more (Some h) [] s = refl
home_behind-one_more None (u ∷ us) s = home_behind-one_more (opened u) us s
home_behind-one_more (Some h) (u ∷ us) s = home_behind-one_more (if closes u then None else Some h) us s

-- ---- measures

pub open_commas-one_more : (commas : List ℕ) (tokens : List Token) (t : Token) → open_commas commas (tokens ++ t ∷ []) ≡ commas_behind t (open_commas commas tokens)
open_commas-one_more commas [] t = refl
open_commas-one_more commas (u ∷ us) t = open_commas-one_more (commas_behind u commas) us t

max-assoc : (a b c : ℕ) → max a (max b c) ≡ max (max a b) c
max-assoc a b c = omega arith

pub greatest_level-one_more : (around : ℕ) (tokens : List Token) (t : Token)
    → greatest_level around (tokens ++ t ∷ []) ≡ max (greatest_level around tokens) (greatest_level (around_behind around tokens) (t ∷ []))
greatest_level-one_more around [] t = omega arith
greatest_level-one_more around (Word at text ∷ tokens) t =
    ap (max (around + 1)) (greatest_level-one_more around tokens t)
    ∙ max-assoc (around + 1) (greatest_level around tokens) (greatest_level (around_behind around tokens) (t ∷ []))
greatest_level-one_more around (Punctuation at s ∷ tokens) t =
    greatest_level-one_more (if is_sign Open (Punctuation at s) then around + 1 else if is_sign Close (Punctuation at s) then around - 1 else around) tokens t
greatest_level-one_more around (Refused at kind ∷ tokens) t = greatest_level-one_more around tokens t
