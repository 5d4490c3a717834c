-- The names before the sign of an equation are those of its left side, and those behind it of its right side.
use Rattle.std.proofs.Common.{◌≡◌, ◌∙◌, ap, subst, refl, ℕ, suc, ◌<◌, Bool, true, false, List, [], ◌∷◌, ◌++◌, cond, arith}
use Rattle.std.specs.Prelude.{filter, nat_lt}
use Rattle.std.specs.List.{AllByRecursion}
use Rattle.std.proofs.lemmas.Bool.{leb-true}
use Rattle.std.proofs.lemmas.List.{append-nil}
use Rattle.std.proofs.lemmas.List.Elements.{filter-append}
use Rattle.sc_term.proofs.SubstitutionLaws.{all_split, all_join}
use Rattle.sc_input_rules.specs.declared.token.Token.{Token}
use Rattle.sc_input_rules.specs.declared.token.Token.TheVariants.{Punctuation}
use Rattle.sc_input_rules.specs.declared.token.Sign.TheVariants.{Close}
use Rattle.sc_input_rules.specs.Token.{at_of}
use Rattle.sc_input_rules.specs.declared.written.Occurrence.{Occurrence}
use Rattle.sc_input_rules.specs.declared.written.WrittenLiteral.{WrittenLiteral}
use Rattle.sc_input_rules.specs.Demodulator.{left_side, right_side}
use Rattle.sc_input_rules.proofs.Spelling.{Head, Sides, Empty, Entry, in_brackets, behind_comma, tokens_of, side_tokens, occurrences, side_of}
use Rattle.sc_input_rules.proofs.ClauseSpelling.{Equated, Equation, equal_sign, atom_tokens, atom_written}
use Rattle.sc_input_rules.proofs.Tokenized.{Ascend, ascend_split}
use Rattle.sc_input_rules.proofs.SymbolNumbers.{less}

-- ---- what holds of the places of tokens holds of the places of names

module _ (P : ℕ → Type 0) where
  abbrev AtToken : Token → Type 0
  AtToken t = P (at_of t)

  abbrev AtName : Occurrence → Type 0
  AtName o = P o.at

  in_brackets-names : (h : Head) (args : Sides) → AllByRecursion AtToken (in_brackets h args (tokens_of args)) → (AllByRecursion AtToken (tokens_of args) → AllByRecursion AtName (occurrences args)) → AllByRecursion AtName (occurrences args)
  in_brackets-names h Empty k ih = tt
  in_brackets-names h (Entry g args comma others) k ih = ih (all_split AtToken (tokens_of (Entry g args comma others)) (Punctuation h.closing Close ∷ []) k.1).0

  behind_comma-names : (at : ℕ) (others : Sides) → AllByRecursion AtToken (behind_comma at others (tokens_of others)) → (AllByRecursion AtToken (tokens_of others) → AllByRecursion AtName (occurrences others)) → AllByRecursion AtName (occurrences others)
  behind_comma-names at Empty k ih = tt
  behind_comma-names at (Entry g args comma others) k ih = ih k.1

  names : (f : Sides) → AllByRecursion AtToken (tokens_of f) → AllByRecursion AtName (occurrences f)
  names Empty k = tt
  names (Entry h args comma others) k =
      let s = all_split AtToken (in_brackets h args (tokens_of args)) (behind_comma comma others (tokens_of others)) k.1 in
      (k.0, all_join AtName (occurrences args) (occurrences others) (in_brackets-names h args s.0 (names args)) (behind_comma-names comma others s.1 (names others)))

  side-names : (h : Head) (args : Sides) → AllByRecursion AtToken (side_tokens h args) → AllByRecursion AtName (side_of h args)
  side-names h args k = (k.0, in_brackets-names h args k.1 (names args))

-- ---- what is kept and what is left out

kept : (p : Occurrence → Bool) (os : List Occurrence) → AllByRecursion (λ o. p o ≡ true) os → filter p os ≡ os
kept p [] h = refl
kept p (o ∷ os) h = ap (λ (b : Bool). cond b (o ∷ filter p os) (filter p os)) h.0 ∙ ap (λ os. o ∷ os) (kept p os h.1)

left_out : (p : Occurrence → Bool) (os : List Occurrence) → AllByRecursion (λ o. p o ≡ false) os → filter p os ≡ []
left_out p [] h = refl
left_out p (o ∷ os) h = ap (λ (b : Bool). cond b (o ∷ filter p os) (filter p os)) h.0 ∙ left_out p os h.1

not_less : (m n : ℕ) → n < m → nat_lt m n ≡ false
not_less m n le = by (nat_lt m n) refl
  where
    by : (b : Bool) → nat_lt m n ≡ b → b ≡ false
    by true e = let k = leb-true (suc m) n e in absurd (omega arith)
    by false e = refl

each : {P Q : Occurrence → Type 0} → ((o : Occurrence) → P o → Q o) → (os : List Occurrence) → AllByRecursion P os → AllByRecursion Q os
each f [] h = tt
each f (o ∷ os) h = (f o h.0, each f os h.1)

-- ---- the sides

pub record AreSides (l : WrittenLiteral) (e : Equated) : Type 0 where
  pub left : left_side l ≡ side_of e.left_head e.left_args
  pub right : right_side l ≡ side_of e.right_head e.right_args

before_all : (n : ℕ) (xs ys : List Token) (t : Token) → at_of t ≡ n → AllByRecursion (λ x. AllByRecursion (λ y. at_of x < at_of y) (t ∷ ys)) xs → AllByRecursion (λ x. at_of x < n) xs
before_all n [] ys t e h = tt
before_all n (x ∷ xs) ys t e h = (subst (λ n. at_of x < n) e h.0.0, before_all n xs ys t e h.1)

pub sides_of_equation : (e : Equated) → Ascend (atom_tokens (Equation e)) → AreSides (atom_written (Equation e)) e
sides_of_equation e order =
    let left = side_of e.left_head e.left_args in
    let right = side_of e.right_head e.right_args in
    let sign = Punctuation e.at (equal_sign e.positive) in
    let s = ascend_split (side_tokens e.left_head e.left_args) (sign ∷ side_tokens e.right_head e.right_args) order in
    let below = side-names (λ n. n < e.at) e.left_head e.left_args (before_all e.at (side_tokens e.left_head e.left_args) (side_tokens e.right_head e.right_args) sign refl s.2) in
    let above = side-names (λ n. e.at < n) e.right_head e.right_args s.1.0 in
    let is_left = λ (o : Occurrence). nat_lt o.at e.at in
    let is_right = λ (o : Occurrence). nat_lt e.at o.at in
    record {
      left = filter-append is_left left right
          ∙ (λ i. kept is_left left (each (λ o le. less o.at e.at le) left below) i ++ left_out is_left right (each (λ o le. not_less o.at e.at le) right above) i)
          ∙ append-nil left;
      right = filter-append is_right left right
          ∙ (λ i. left_out is_right left (each (λ o le. not_less e.at o.at le) left below) i ++ kept is_right right (each (λ o le. less e.at o.at le) right above) i);
    }
