-- What the tokens were where the words and numbers of an item are read.
use Rattle.std.proofs.Common.{◌≡◌, ◌∙◌, sym, ap, subst, refl, ℕ, Bool, true, false, List, [], ◌∷◌, ◌++◌, Some, Ok, ◌⊎◌, inl, inr}
use Rattle.std.specs.Prelude.{codes, ◌||◌, ℤ, neg_ℤ}
use Rattle.std.specs.List.{list_any, list_all}
use Rattle.std.specs.Cmp.Lexicographic.{bytes_decides}
use Rattle.sc_input_rules.specs.declared.token.Token.{Token}
use Rattle.sc_input_rules.specs.declared.token.Token.TheVariants.{Word, Punctuation, Refused}
use Rattle.sc_input_rules.specs.declared.token.Sign.TheVariants.{Open, Close, Comma, Stop, Bar, Minus, Equal, Unequal, Colon}
use Rattle.sc_input_rules.specs.Token.{same_text}
use Rattle.sc_input_rules.specs.Tokens.{is_digit}
use Rattle.sc_input_rules.specs.Reader.{Read, Name, ◌>>=◌, unexpected, the_sign, a_word, the_word, is_listed, refused_name, a_listed_name}
use Rattle.sc_input_rules.specs.Settings.{list_words}
use Rattle.sc_input_rules.specs.Position.{home_named}
use Rattle.sc_input_rules.specs.Problem.{home_of}
use Rattle.sc_input_rules.specs.ProblemGrammar.{value_of, a_numeral, number, the_close}
use Rattle.sc_input_rules.proofs.Taken.{Gives, both, same, sign_taken, word_taken}
use Rattle.sc_input_rules.proofs.Standing.{HasNoStop}

-- ---- words

pub record Listed-taken (names : List (List ℕ)) (ts : List Token) (w : Name) (left : List Token) : Type 0 where
  pub tokens : ts ≡ Word w.at w.text ∷ left
  pub listed : is_listed names w ≡ true

pub listed_taken : (names unsupported : List (List ℕ)) (ts : List Token) (w : Name) (left : List Token) → Gives (a_listed_name names unsupported ts) w left → Listed-taken names ts w left
listed_taken names unsupported ts w left e =
    let b = both (a_word ts) _ w left e in
    let t = word_taken ts b.value b.left b.first in
    by b.value b.left (is_listed names b.value) (is_listed unsupported b.value) refl t.tokens b.second
  where
    by : (v : Name) (us : List Token) (b c : Bool) → is_listed names v ≡ b → ts ≡ Word v.at v.text ∷ us → Gives (elim b [ true ↦ Ok (v, us) | false ↦ refused_name c ts ]) w left → Listed-taken names ts w left
    by v us true c h t e =
        let s = same v w us left e in
        record { tokens = t ∙ (λ i. Word ((s.value i).at) ((s.value i).text) ∷ s.left i); listed = sym (ap (is_listed names) s.value) ∙ h }
    by v us false true h t e = absurd cc
    by v us false false h t e = absurd cc

pub record Word-found (text : List ℕ) (ts left : List Token) : Type 0 where
  pub at : ℕ
  pub tokens : ts ≡ Word at text ∷ left

pub the_word_taken : (text : List ℕ) (ts : List Token) (u : Unit {0}) (left : List Token) → Gives (the_word text ts) u left → Word-found text ts left
the_word_taken text ts u left e =
    let b = both (a_word ts) _ u left e in
    let t = word_taken ts b.value b.left b.first in
    by b.value b.left (same_text text b.value.text) refl t.tokens b.second
  where
    by : (v : Name) (us : List Token) (b : Bool) → same_text text v.text ≡ b → ts ≡ Word v.at v.text ∷ us → Gives (elim b [ true ↦ Ok (tt {0}, us) | false ↦ unexpected ts ]) u left → Word-found text ts left
    by v us true h t e =
        let s = same (tt {0}) u us left e in
        let name : text ≡ v.text = (bytes_decides text v.text).0 h in
        record { at = v.at; tokens = t ∙ (λ i. Word v.at (sym name i) ∷ s.left i) }
    by v us false h t e = absurd cc

-- `)` and `.`
pub record Close-taken (ts left : List Token) : Type 0 where
  pub closing : ℕ
  pub stop : ℕ
  pub tokens : ts ≡ Punctuation closing Close ∷ Punctuation stop Stop ∷ left

pub close_taken : (ts : List Token) (u : Unit {0}) (left : List Token) → Gives (the_close ts) u left → Close-taken ts left
close_taken ts u left e =
    let b = both (the_sign Close ts) _ u left e in
    let c = sign_taken Close ts b.value b.left b.first in
    let d = sign_taken Stop b.left u left b.second in
    record { closing = c.at; stop = d.at; tokens = c.tokens ∙ ap (λ us. Punctuation c.at Close ∷ us) d.tokens }

-- ---- numbers

-- the tokens of a number, with the first, which alone are read as that number
pub record Number-taken (ts : List Token) (v : ℤ) (left : List Token) : Type 0 where
  pub first : Token
  pub others : List Token
  pub tokens : ts ≡ (first ∷ others) ++ left
  pub alone : Gives (number (first ∷ others)) v []
  pub no_stop : HasNoStop (first ∷ others)

record Numeral-taken (ts : List Token) (v : ℤ) (left : List Token) : Type 0 where
  at : ℕ
  text : List ℕ
  tokens : ts ≡ Word at text ∷ left
  alone : Gives (a_numeral (Word at text ∷ [])) v []

numeral_taken : (ts : List Token) (v : ℤ) (left : List Token) → Gives (a_numeral ts) v left → Numeral-taken ts v left
numeral_taken ts v left e =
    let b = both (a_word ts) _ v left e in
    let t = word_taken ts b.value b.left b.first in
    by b.value b.left (list_all is_digit b.value.text) refl t.tokens b.second
  where
    by : (w : Name) (us : List Token) (b : Bool) → list_all is_digit w.text ≡ b → ts ≡ Word w.at w.text ∷ us → Gives (elim b [ true ↦ Ok (value_of w.text, us) | false ↦ unexpected ts ]) v left → Numeral-taken ts v left
    by w us true h t e =
        let s = same (value_of w.text) v us left e in
        record {
          at = w.at;
          text = w.text;
          tokens = t ∙ ap (λ us. Word w.at w.text ∷ us) s.left;
          alone = ap (λ (b : Bool). elim b [ true ↦ Ok (value_of w.text, []) | false ↦ unexpected (Word w.at w.text ∷ []) ]) h ∙ (λ i. Ok (s.value i, []));
        }
    by w us false h t e = absurd cc

plain_number : (ts : List Token) (v : ℤ) (left : List Token) → Gives (a_numeral ts) v left → Number-taken ts v left
plain_number ts v left e =
    let n = numeral_taken ts v left e in
    record { first = Word n.at n.text; others = []; tokens = n.tokens; alone = n.alone; no_stop = (refl, tt) }

with_minus : Read ℤ → Read ℤ
with_minus r = r >>= λ n. Ok (neg_ℤ n.0, n.1)

pub number_taken : (ts : List Token) (v : ℤ) (left : List Token) → Gives (number ts) v left → Number-taken ts v left
unfolding with_minus
number_taken [] v left e = absurd cc
number_taken (Word at text ∷ ts) v left e = plain_number (Word at text ∷ ts) v left e
number_taken (Refused at kind ∷ ts) v left e = absurd cc
number_taken (Punctuation at Minus ∷ ts) v left e =
    let b = both (a_numeral ts) _ v left e in
    let n = numeral_taken ts b.value b.left b.first in
    let s = same (neg_ℤ b.value) v b.left left b.second in
    record {
      first = Punctuation at Minus;
      others = Word n.at n.text ∷ [];
      tokens = ap (λ us. Punctuation at Minus ∷ us) (n.tokens ∙ ap (λ us. Word n.at n.text ∷ us) s.left);
      alone = ap with_minus n.alone ∙ (λ i. Ok (s.value i, []));
      no_stop = (refl, (refl, tt));
    }
number_taken (Punctuation at Open ∷ ts) v left e = absurd cc
number_taken (Punctuation at Close ∷ ts) v left e = absurd cc
number_taken (Punctuation at Comma ∷ ts) v left e = absurd cc
number_taken (Punctuation at Stop ∷ ts) v left e = absurd cc
number_taken (Punctuation at Bar ∷ ts) v left e = absurd cc
number_taken (Punctuation at Equal ∷ ts) v left e = absurd cc
number_taken (Punctuation at Unequal ∷ ts) v left e = absurd cc
number_taken (Punctuation at Colon ∷ ts) v left e = absurd cc

-- ---- names of lists

pub either : (a b : Bool) → (a || b) ≡ true → (a ≡ true) ⊎ (b ≡ true)
either true b e = inl refl
either false b e = inr e

pub home_known : (text : List ℕ) → list_any (same_text text) list_words ≡ true → (at : ℕ) → home_named (Word at text) ≡ Some (home_of text)
home_known text e at =
    elim (either (same_text text (codes "usable")) _ e) [
      | inl h ↦ by (codes "usable") refl h
      | inr e ↦ elim (either (same_text text (codes "sos")) _ e) [
        | inl h ↦ by (codes "sos") refl h
        | inr e ↦ elim (either (same_text text (codes "passive")) _ e) [
          | inl h ↦ by (codes "passive") refl h
          | inr e ↦ elim (either (same_text text (codes "demodulators")) _ e) [ inl h ↦ by (codes "demodulators") refl h | inr e ↦ absurd cc ]
        ]
      ]
    ]
  where
    by : (name : List ℕ) → home_named (Word at name) ≡ Some (home_of name) → same_text text name ≡ true → home_named (Word at text) ≡ Some (home_of text)
    by name k h = subst (λ (w : List ℕ). home_named (Word at w) ≡ Some (home_of w)) (sym ((bytes_decides text name).0 h)) k
