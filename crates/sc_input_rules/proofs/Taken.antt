-- What the tokens were where a production of one token gives a value.
use Rattle.std.proofs.Common.{◌≡◌, ◌∙◌, sym, ap, refl, ℕ, Bool, true, false, List, [], ◌∷◌, Ok, Err}
use Rattle.std.specs.Prelude.{codes, Option, Some, slice_get}
use Rattle.std.proofs.lemmas.Bool.{eqb-true}
use Rattle.sc_input_rules.specs.declared.token.Token.{Token}
use Rattle.sc_input_rules.specs.declared.token.Token.TheVariants.{Word, Punctuation, Refused}
use Rattle.sc_input_rules.specs.declared.token.Sign.{Sign}
use Rattle.sc_input_rules.specs.declared.token.Sign.TheVariants.{Open, Close, Comma, Stop, Bar, Minus, Equal, Unequal, Colon}
use Rattle.sc_input_rules.specs.Token.{is_sign, sign_number, same_text}
use Rattle.sc_input_rules.specs.Reader.{Read, Name, ◌>>=◌, unexpected, the_sign, a_word, a_name}

-- ---- answers

-- the production gave this value, and left these tokens
abbrev pub Gives : {A : Type 0} → Read A → A → List Token → Type 0
Gives r a ts = r ≡ Ok (a, ts)

pub record Both {A B : Type 0} (r : Read A) (f : A × List Token → Read B) (b : B) (ts : List Token) : Type 0 where
  pub value : A
  pub left : List Token
  pub first : Gives r value left
  pub second : Gives (f (value, left)) b ts

pub both : {A B : Type 0} (r : Read A) (f : A × List Token → Read B) (b : B) (ts : List Token) → Gives (r >>= f) b ts → Both r f b ts
both (Ok w) f b ts e = record { value = w.0; left = w.1; first = refl; second = e }
both (Err x) f b ts e = absurd cc

pub record Same {A : Type 0} (a b : A) (ts us : List Token) : Type 0 where
  pub value : a ≡ b
  pub left : ts ≡ us

pub same : {A : Type 0} (a b : A) (ts us : List Token) → Gives (Ok (a, ts)) b us → Same a b ts us
same {A} a b ts us e =
    let p : (a, ts) ≡ (b, us) = ok_injective (a, ts) (b, us) e in
    record { value = ap (λ (x : A × List Token). x.0) p; left = ap (λ (x : A × List Token). x.1) p }
  where
    ok_injective : (v w : A × List Token) → Gives (Ok v) w.0 w.1 → v ≡ w
    ok_injective v w e = cc

-- ---- signs

numbered : ℕ → Option Sign
numbered n = slice_get (Open ∷ Close ∷ Comma ∷ Stop ∷ Bar ∷ Minus ∷ Equal ∷ Unequal ∷ Colon ∷ []) n

numbered_back : (s : Sign) → numbered (sign_number s) ≡ Some s
unfolding numbered
numbered_back Open = refl
numbered_back Close = refl
numbered_back Comma = refl
numbered_back Stop = refl
numbered_back Bar = refl
numbered_back Minus = refl
numbered_back Equal = refl
numbered_back Unequal = refl
numbered_back Colon = refl

same_sign : (s u : Sign) → sign_number s ≡ sign_number u → s ≡ u
same_sign s u e = let p : Some s ≡ Some u = sym (numbered_back s) ∙ ap numbered e ∙ numbered_back u in cc

is_that_sign : (s : Sign) (t : Token) → is_sign s t ≡ true → (at : ℕ) × (t ≡ Punctuation at s)
is_that_sign s (Word at text) e = absurd cc
is_that_sign s (Punctuation at u) e = (at, ap (Punctuation at) (sym (same_sign s u (eqb-true (sign_number s) (sign_number u) e))))
is_that_sign s (Refused at kind) e = absurd cc

pub record Sign-taken (s : Sign) (ts left : List Token) : Type 0 where
  pub at : ℕ
  pub tokens : ts ≡ Punctuation at s ∷ left

pub sign_taken : (s : Sign) (ts : List Token) (u : Unit {0}) (left : List Token) → Gives (the_sign s ts) u left → Sign-taken s ts left
sign_taken s [] u left e = absurd cc
sign_taken s (t ∷ ts) u left e = by (is_sign s t) refl e
  where
    by : (b : Bool) → is_sign s t ≡ b → Gives (elim b [ true ↦ Ok (tt {0}, ts) | false ↦ unexpected (t ∷ ts) ]) u left → Sign-taken s (t ∷ ts) left
    by true h e = let p = is_that_sign s t h in record { at = p.0; tokens = λ i. p.1 i ∷ (same (tt {0}) u ts left e).left i }
    by false h e = absurd cc

-- ---- words

pub record Word-taken (ts : List Token) (w : Name) (left : List Token) : Type 0 where
  pub tokens : ts ≡ Word w.at w.text ∷ left

pub word_taken : (ts : List Token) (w : Name) (left : List Token) → Gives (a_word ts) w left → Word-taken ts w left
word_taken [] w left e = absurd cc
word_taken (Word at text ∷ ts) w left e =
    let s = same (record { at = at; text = text }) w ts left e in
    record { tokens = λ i. Word ((s.value i).at) ((s.value i).text) ∷ s.left i }
word_taken (Punctuation at s ∷ ts) w left e = absurd cc
word_taken (Refused at kind ∷ ts) w left e = absurd cc

pub record Name-taken (ts : List Token) (w : Name) (left : List Token) : Type 0 where
  pub tokens : ts ≡ Word w.at w.text ∷ left
  pub named : same_text (codes "$F") w.text ≡ false

pub name_taken : (ts : List Token) (w : Name) (left : List Token) → Gives (a_name ts) w left → Name-taken ts w left
name_taken ts w left e =
    let b = both (a_word ts) (λ v. elim (same_text (codes "$F") v.0.text) [ true ↦ unexpected ts | false ↦ Ok v ]) w left e in
    let t = word_taken ts b.value b.left b.first in
    by b.value b.left (same_text (codes "$F") b.value.text) refl t.tokens b.second
  where
    by : (v : Name) (us : List Token) (b : Bool) → same_text (codes "$F") v.text ≡ b → ts ≡ Word v.at v.text ∷ us
        → Gives (elim b [ true ↦ unexpected ts | false ↦ Ok (v, us) ]) w left → Name-taken ts w left
    by v us true h t e = absurd cc
    by v us false h t e =
        let s = same v w us left e in
        record { tokens = t ∙ (λ i. Word ((s.value i).at) ((s.value i).text) ∷ s.left i); named = sym (ap (λ (n : Name). same_text (codes "$F") n.text) s.value) ∙ h }
