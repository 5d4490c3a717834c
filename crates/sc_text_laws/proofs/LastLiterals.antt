-- Which tokens the last literal of a clause has so far.
use Rattle.std.proofs.Common.{◌≡◌, ◌∙◌, sym, ap, refl, ℕ, ◌+◌, ◌-◌, ◌≤◌, Bool, true, false, List, [], ◌∷◌, ◌++◌, length, length-append, append_assoc, drop, reverse, arith}
use Rattle.std.specs.Prelude.{◌||◌, not, cond, if◌then◌else◌}
use Rattle.std.specs.List.{AllByRecursion, list_any, after_last, suffix_len, prefix_len}
use Rattle.std.proofs.lemmas.List.{append-nil, reverse-append}
use Rattle.std.proofs.lemmas.List.Folds.{list_any-append}
use Rattle.std.proofs.Math.Seq.{drop-append_seam}
use Rattle.sc_input_rules.specs.declared.token.Token.{Token}
use Rattle.sc_input_rules.specs.declared.token.Token.TheVariants.{Word, Punctuation, Refused}
use Rattle.sc_input_rules.specs.declared.token.Sign.TheVariants.{Open, Close, Bar, Minus}
use Rattle.sc_input_rules.specs.Token.{is_sign}
use Rattle.sc_input_rules.specs.ClauseGrammar.{is_equality}
use Rattle.sc_input_rules.specs.Measures.{greatest_level, without_bracket, without_minus, last_literal, depth_of_atom}

-- ---- behind the last bar

abbrev pub HasNoBar : List Token → Type 0
HasNoBar ts = AllByRecursion (λ t. is_sign Bar t ≡ false) ts

abbrev passes : Token → Bool
passes t = not (is_sign Bar t)

prefix_none : (ys zs : List Token) → HasNoBar ys → prefix_len passes (reverse ys ++ zs) ≡ length ys + prefix_len passes zs
prefix_none [] zs h = omega arith
prefix_none (y ∷ ys) zs h =
    let turned : reverse (y ∷ ys) ++ zs ≡ reverse ys ++ (y ∷ zs) = ap (λ ts. ts ++ zs) (reverse-append (y ∷ []) ys) ∙ append_assoc (reverse ys) (y ∷ []) zs in
    let one : prefix_len passes (y ∷ zs) ≡ 1 + prefix_len passes zs = ap (λ (b : Bool). cond (not b) (1 + prefix_len passes zs) 0) h.0 in
    ap (prefix_len passes) turned ∙ prefix_none ys (y ∷ zs) h.1 ∙ omega arith

-- what follows them begins a literal, up to the next bar
pub record BeginsLiteral (front : List Token) : Type 0 where
  pub law : (ts : List Token) → HasNoBar ts → after_last (is_sign Bar) (front ++ ts) ≡ ts

pub at_first : BeginsLiteral []
at_first = record { law = λ ts h. law ts h }
  where
    law : (ts : List Token) → HasNoBar ts → after_last (is_sign Bar) ts ≡ ts
    law ts h =
        let e : suffix_len passes ts ≡ length ts + 0 = ap (prefix_len passes) (sym (append-nil (reverse ts))) ∙ prefix_none ts [] h in
        let none : length ts - suffix_len passes ts ≡ 0 = omega arith in
        ap (λ (n : ℕ). drop n ts) none

behind_bar_law : (xs ys : List Token) (at : ℕ) → HasNoBar ys → after_last (is_sign Bar) (xs ++ Punctuation at Bar ∷ ys) ≡ ys
behind_bar_law xs ys at h =
    let bar = Punctuation at Bar in
    let turned : reverse (xs ++ bar ∷ ys) ≡ reverse ys ++ (bar ∷ reverse xs) =
    reverse-append xs (bar ∷ ys) ∙ ap (λ ts. ts ++ reverse xs) (reverse-append (bar ∷ []) ys) ∙ append_assoc (reverse ys) (bar ∷ []) (reverse xs) in
    let e : suffix_len passes (xs ++ bar ∷ ys) ≡ length ys + 0 = ap (prefix_len passes) turned ∙ prefix_none ys (bar ∷ reverse xs) h in
    let front : length (xs ++ bar ∷ ys) - suffix_len passes (xs ++ bar ∷ ys) ≡ length (xs ++ bar ∷ []) =
    omega (arith, e, length-append xs (bar ∷ ys), length-append xs (bar ∷ [])) in
    ap (λ (n : ℕ). drop n (xs ++ bar ∷ ys)) front ∙ ap (drop (length (xs ++ bar ∷ []))) (sym (append_assoc xs (bar ∷ []) ys)) ∙ drop-append_seam (xs ++ bar ∷ []) ys

pub at_bar : (xs : List Token) (at : ℕ) → BeginsLiteral (xs ++ Punctuation at Bar ∷ [])
at_bar xs at = record { law = λ ts h. ap (after_last (is_sign Bar)) (append_assoc xs (Punctuation at Bar ∷ []) ts) ∙ behind_bar_law xs ts at h }

-- ---- the atom so far

-- none, or a word and tokens without a bar
abbrev pub IsAtomFront : List Token → Type 0
IsAtomFront [] = Unit {0}
IsAtomFront (Word at text ∷ ts) = HasNoBar ts
IsAtomFront (Punctuation at s ∷ ts) = ⊥
IsAtomFront (Refused at kind ∷ ts) = ⊥

front_no_bar : (ts : List Token) → IsAtomFront ts → HasNoBar ts
front_no_bar [] h = tt
front_no_bar (Word at text ∷ ts) h = (refl, h)
front_no_bar (Punctuation at s ∷ ts) h = absurd h
front_no_bar (Refused at kind ∷ ts) h = absurd h

stripped : (ts : List Token) → IsAtomFront ts → without_bracket (without_minus ts) ≡ ts
stripped [] h = refl
stripped (Word at text ∷ ts) h = refl
stripped (Punctuation at s ∷ ts) h = absurd h
stripped (Refused at kind ∷ ts) h = absurd h

unbracketed : (ts : List Token) → IsAtomFront ts → without_bracket ts ≡ ts
unbracketed [] h = refl
unbracketed (Word at text ∷ ts) h = refl
unbracketed (Punctuation at s ∷ ts) h = absurd h
unbracketed (Refused at kind ∷ ts) h = absurd h

-- what follows them is the last literal's atom so far
pub record BeginsAtom (front : List Token) : Type 0 where
  pub law : (ts : List Token) → IsAtomFront ts → last_literal (front ++ ts) ≡ ts

pub bare : (front : List Token) → BeginsLiteral front → BeginsAtom front
bare front b = record { law = λ ts h. ap (λ (us : List Token). without_bracket (without_minus us)) (b.law ts (front_no_bar ts h)) ∙ stripped ts h }

pub behind_minus : (front : List Token) (at : ℕ) → BeginsLiteral front → BeginsAtom (front ++ Punctuation at Minus ∷ [])
behind_minus front at b =
    record {
      law = λ ts h.
          ap last_literal (append_assoc front (Punctuation at Minus ∷ []) ts)
          ∙ ap (λ (us : List Token). without_bracket (without_minus us)) (b.law (Punctuation at Minus ∷ ts) (refl, front_no_bar ts h)) ∙ unbracketed ts h;
    }

-- ---- the depth of the first tokens of an atom

level_more : (around : ℕ) (us more : List Token) → greatest_level around us ≤ greatest_level around (us ++ more)
level_more around [] more = omega arith
level_more around (Word at text ∷ us) more = let ih = level_more around us more in omega arith
level_more around (Punctuation at s ∷ us) more = level_more (if is_sign Open (Punctuation at s) then around + 1 else if is_sign Close (Punctuation at s) then around - 1 else around) us more
level_more around (Refused at kind ∷ us) more = level_more around us more

pub depth_more : (us more : List Token) → depth_of_atom us ≤ depth_of_atom (us ++ more)
depth_more us more =
    let level = level_more 0 us more in
    let any = list_any-append is_equality us more in
    let e = ap (λ (b : Bool). greatest_level 0 (us ++ more) + (if b then 1 else 0)) any in
    by (list_any is_equality us) (list_any is_equality more) (greatest_level 0 us) (greatest_level 0 (us ++ more)) (depth_of_atom (us ++ more)) level e
  where
    by : (a b : Bool) (m n k : ℕ) → m ≤ n → k ≡ n + (if (a || b) then 1 else 0) → m + (if a then 1 else 0) ≤ k
    by true b m n k le e = omega arith
    by false b m n k le e = omega arith
