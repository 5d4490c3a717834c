-- The first tokens decide how the words, the numbers and the rows of a run text are read.
use Rattle.std.proofs.Common.{◌≡◌, refl, ℕ, zero, suc, ◌+◌, ◌≤◌, Bool, true, false, ◌&&◌, List, [], ◌∷◌, ◌++◌, length, Ok, Err, arith}
use Rattle.std.specs.Prelude.{◌==◌}
use Rattle.std.specs.List.{list_all}
use Rattle.std.specs.Str.Parse.{digits_value}
use Rattle.sc_interp.specs.declared.plain.Truth.TheVariants as truth
use Rattle.sc_core_rules.specs.declared.row.Cause.TheVariants as cause
use Rattle.sc_text_run_rules.specs.declared.run.FinderEnd.TheVariants as end
use Rattle.sc_input_rules.specs.declared.fault.InputKind.TheVariants.{OutOfRange}
use Rattle.sc_input_rules.specs.declared.token.Token.{Token}
use Rattle.sc_input_rules.specs.declared.token.Token.TheVariants.{Word, Punctuation, Refused}
use Rattle.sc_input_rules.specs.declared.token.Sign.TheVariants.{Stop}
use Rattle.sc_input_rules.specs.Token.{is_word}
use Rattle.sc_input_rules.specs.Tokens.{is_digit}
use Rattle.sc_input_rules.specs.Reader.{Read, unexpected, a_word, next_is, the_sign, the_word, repeated}
use Rattle.sc_input_rules.proofs.Shrinking.{LeavesAtMost, Shrinks, in_turn, either_way, within, a_word-shrinks, repeated-shrinks}
use Rattle.sc_input_rules.proofs.Prefix.{Agrees, Good, good_from, good_sign, taken, not_allowed, one_of_two}
use Rattle.sc_input_rules.proofs.PrefixInTurn.{Takes, OkBy, takes_none, bound, good_bind, good_pure, good_next}
use Rattle.sc_input_rules.proofs.PrefixOfClauses.{good_whole, good_map, good_then}
use Rattle.sc_input_rules.proofs.PrefixOfItems.{good_the_word}
use Rattle.sc_text_run_rules.specs.RunText.{cause_word, truth_word, end_word}
use Rattle.sc_text_run_rules.specs.RowWords.{is_in_range, ranged, a_number_in, a_number_from, a_row_number, the_row_number, no_digits, numbers, counted, rows_of, one_of, a_cause, a_truth, an_end, a_version_name}

-- ---- numbers

number_in-shrinks : (test : ℕ → Bool) (low high : ℕ) → Shrinks (a_number_in test low high)
number_in-shrinks test low high ts =
    in_turn (length ts) (a_word ts) _ (a_word-shrinks ts)
    (λ w le. either_way _ (list_all is_digit w.0.text && test (digits_value 10 w.0.text)) (ranged low high w.0.text w.1 ts) (unexpected ts)
    (either_way _ (is_in_range low high w.0.text) (Ok (digits_value 10 w.0.text, w.1)) (Err (record { left = ts; kind = OutOfRange })) le (omega arith)) (omega arith))

number_in_agrees : (test : ℕ → Bool) (low high : ℕ) (t : Token) (front more : List Token) → Agrees more (a_number_in test low high (t ∷ front)) (a_number_in test low high (t ∷ (front ++ more)))
number_in_agrees test low high (Word at text) front more =
    let n = digits_value 10 text in
    let here = Word at text ∷ front in
    let there = Word at text ∷ (front ++ more) in
    one_of_two more (list_all is_digit text && test n) (ranged low high text front here) (ranged low high text (front ++ more) there) (unexpected here) (unexpected there)
    (one_of_two more (is_in_range low high text) (Ok (n, front)) (Ok (n, front ++ more)) (Err (record { left = here; kind = OutOfRange })) (Err (record { left = there; kind = OutOfRange })) (taken n front more) refl) refl
number_in_agrees test low high (Punctuation at s) front more = refl
number_in_agrees test low high (Refused at kind) front more = refl

pub good_in : (n m : ℕ) (test : ℕ → Bool) (low high : ℕ) → Good n m (a_number_in test low high) (a_number_in test low high)
good_in n m test low high =
    good_from n m _ _ (number_in-shrinks test low high) (number_in-shrinks test low high) (λ t front more e e'. number_in_agrees test low high t front more)

pub good_from_to : (n m low high : ℕ) → Good n m (a_number_from low high) (a_number_from low high)
good_from_to n m low high = good_in n m (λ k. true) low high

pub good_row_number : (n m : ℕ) → Good n m a_row_number a_row_number
good_row_number n m = good_from_to n m 0 4294967295

pub good_the_row_number : (n m number : ℕ) → Good n m (the_row_number number) (the_row_number number)
good_the_row_number n m number = good_in n m (λ k. k == number) 0 4294967295

pub takes_in : (test : ℕ → Bool) (low high : ℕ) → Takes 1 (a_number_in test low high)
takes_in test low high [] = tt
takes_in test low high (Punctuation at s ∷ ts) = tt
takes_in test low high (Refused at kind ∷ ts) = tt
takes_in test low high (Word at text ∷ ts) = by (list_all is_digit text && test (digits_value 10 text)) (is_in_range low high text)
  where
    by : (b c : Bool) → OkBy {A = ℕ} 1 (length (Word at text ∷ ts)) (elim b [ true ↦ elim c [ true ↦ Ok (digits_value 10 text, ts) | false ↦ Err (record { left = Word at text ∷ ts; kind = OutOfRange }) ] | false ↦ unexpected (Word at text ∷ ts) ])
    by true true = omega arith
    by true false = tt
    by false c = tt

-- what begins with a production that takes a token takes one
pub takes_first : {A B : Type 0} (p : List Token → Read A) (k : A → List Token → Read B) → Takes 1 p → ((a : A) → Shrinks (k a)) → Takes 1 (λ ts. bound (p ts) k)
takes_first {A} {B} p k h g ts = by (p ts) (h ts)
  where
    less : (l j : ℕ) (r : Read B) → l + 1 ≤ j → LeavesAtMost l r → OkBy 1 j r
    less l j (Ok r) le e = omega (arith, le, e)
    less l j (Err f) le e = tt

    by : (r : Read A) → OkBy 1 (length ts) r → OkBy 1 (length ts) (bound r k)
    by (Ok r) e = less (length r.1) (length ts) (k r.0 r.1) e (g r.0 r.1)
    by (Err f) e = tt

pub takes_word : (name : List ℕ) → Takes 1 (the_word name)
takes_word name [] = tt
takes_word name (Punctuation at s ∷ ts) = tt
takes_word name (Refused at kind ∷ ts) = tt
takes_word name (Word at text ∷ ts) = by (is_word name (Word at text))
  where
    by : (b : Bool) → OkBy {A = Unit {0}} 1 (length (Word at text ∷ ts)) (elim b [ true ↦ Ok (tt, ts) | false ↦ unexpected (Word at text ∷ ts) ])
    by true = omega arith
    by false = tt

-- ---- several

two_numbers : {A : Type 0} (more : List Token) (b c : Bool) (x x' y y' : Read A) → b ≡ c → Agrees more x x' → Agrees more y y' → Agrees more (elim b [ true ↦ x | false ↦ y ]) (elim c [ true ↦ x' | false ↦ y' ])
two_numbers more true true x x' y y' e h k = h
two_numbers more true false x x' y y' e h k = absurd cc
two_numbers more false true x x' y y' e h k = absurd cc
two_numbers more false false x x' y y' e h k = k

same_digits : (t : Token) (ts us : List Token) → no_digits (t ∷ ts) ≡ no_digits (t ∷ us)
same_digits (Word at text) ts us = refl
same_digits (Punctuation at s) ts us = refl
same_digits (Refused at kind) ts us = refl

-- numbers up to a token that is none
abbrev some : ℕ → List Token → Read (List ℕ)
some n ts = repeated no_digits a_row_number n ts

some-shrinks : (n : ℕ) → Shrinks (some n)
some-shrinks n = repeated-shrinks no_digits a_row_number n (number_in-shrinks (λ k. true) 0 4294967295)

abbrev after_number : ℕ → ℕ → List Token → Read (List ℕ)
after_number n x ts = bound (some n ts) (λ xs ts. Ok (x ∷ xs, ts))

good_some : (n m : ℕ) → Good n m (some n) (some m)
good_some zero m = good_from zero m _ _ (some-shrinks zero) (some-shrinks m) (λ t front more e e'. absurd (omega (arith, e)))
good_some (suc n) zero = good_from (suc n) zero _ _ (some-shrinks (suc n)) (some-shrinks zero) (λ t front more e e'. absurd (omega (arith, e')))
good_some (suc n) (suc m) =
    let both = good_bind (suc n) (suc m) n m 1 a_row_number a_row_number (after_number n) (after_number m) (omega arith) (omega arith) (good_row_number (suc n) (suc m)) (takes_in (λ k. true) 0 4294967295) (λ x.
    good_bind n m n m 0 (some n) (some m) (λ xs ts. Ok (x ∷ xs, ts)) (λ xs ts. Ok (x ∷ xs, ts)) (omega arith) (omega arith) (good_some n m) (takes_none (some n) (some-shrinks n)) (λ xs. good_pure n m (x ∷ xs))) in
    good_from (suc n) (suc m) _ _ (some-shrinks (suc n)) (some-shrinks (suc m)) (λ t front more e e'.
    two_numbers more (no_digits (t ∷ front)) (no_digits (t ∷ (front ++ more))) (Ok ([], t ∷ front)) (Ok ([], t ∷ (front ++ more)))
    (bound (a_row_number (t ∷ front)) (after_number n)) (bound (a_row_number (t ∷ (front ++ more))) (after_number m))
    (same_digits t front (front ++ more)) (taken [] (t ∷ front) more) (both.agrees (t ∷ front) more e e'))

pub good_numbers : (n m : ℕ) → Good n m numbers numbers
good_numbers n m =
    good_then n m (λ ts. some (length ts) ts) (λ ns ts. bound (the_sign Stop ts) (λ u ts. Ok (ns, ts))) (good_whole some some-shrinks good_some n m) (λ ns.
    good_map n m (the_sign Stop) (λ u. ns) (good_sign n m Stop))

-- as many as counted
module _ {A : Type 0} (one : ℕ → List Token → Read A) (g : (k n m : ℕ) → Good n m (one k) (one k)) (takes : (k : ℕ) → Takes 1 (one k)) where
  abbrev after_counted : ℕ → ℕ → ℕ → A → List Token → Read (List A)
  after_counted n next k x ts = bound (counted one n next k ts) (λ xs ts. Ok (x ∷ xs, ts))

  pub counted-shrinks : (n first count : ℕ) → Shrinks (counted one n first count)
  counted-shrinks zero first zero ts = omega arith
  counted-shrinks zero first (suc k) ts = omega arith
  counted-shrinks (suc n) first zero ts = omega arith
  counted-shrinks (suc n) first (suc k) ts =
      in_turn (length ts) (one first ts) _ ((g first 0 0).short ts) (λ x le.
      in_turn (length ts) (counted one n (first + 1) k x.1) _ (within (counted one n (first + 1) k) _ x.1 (counted-shrinks n (first + 1) k) le) (λ xs le'. le'))

  pub good_counted : (n m first count : ℕ) → Good n m (counted one n first count) (counted one m first count)
  good_counted zero m first count = good_from zero m _ _ (counted-shrinks zero first count) (counted-shrinks m first count) (λ t front more e e'. absurd (omega (arith, e)))
  good_counted (suc n) zero first count = good_from (suc n) zero _ _ (counted-shrinks (suc n) first count) (counted-shrinks zero first count) (λ t front more e e'. absurd (omega (arith, e')))
  good_counted (suc n) (suc m) first zero = good_pure (suc n) (suc m) []
  good_counted (suc n) (suc m) first (suc k) =
      good_bind (suc n) (suc m) n m 1 (one first) (one first) (after_counted n (first + 1) k) (after_counted m (first + 1) k) (omega arith) (omega arith) (g first (suc n) (suc m)) (takes first) (λ x.
      good_bind n m n m 0 (counted one n (first + 1) k) (counted one m (first + 1) k) (λ xs ts. Ok (x ∷ xs, ts)) (λ xs ts. Ok (x ∷ xs, ts)) (omega arith) (omega arith)
      (good_counted n m (first + 1) k) (takes_none (counted one n (first + 1) k) (counted-shrinks n (first + 1) k)) (λ xs. good_pure n m (x ∷ xs)))

  pub good_all_counted : (n m first count : ℕ) → Good n m (λ ts. counted one (length ts) first count ts) (λ ts. counted one (length ts) first count ts)
  good_all_counted n m first count =
      good_whole (λ k. counted one k first count) (λ k. counted-shrinks k first count) (λ k l. good_counted k l first count) n m

-- rows of a kind
module _ {A S : Type 0} (word : List ℕ) (one : S → List Token → Read A) (moved : S → A → S) (g : (s : S) (n m : ℕ) → Good n m (one s) (one s)) (takes : (s : S) → Takes 1 (one s)) where
  abbrev after_row : ℕ → S → A → List Token → Read (List A)
  after_row n s x ts = bound (rows_of word one moved n (moved s x) ts) (λ xs ts. Ok (x ∷ xs, ts))

  pub rows-shrinks : (n : ℕ) (s : S) → Shrinks (rows_of word one moved n s)
  rows-shrinks zero s ts = omega arith
  rows-shrinks (suc n) s ts =
      either_way (length ts) (next_is (is_word word) ts) (bound (one s ts) (after_row n s)) (Ok ([], ts))
      (in_turn (length ts) (one s ts) _ ((g s 0 0).short ts) (λ x le.
      in_turn (length ts) (rows_of word one moved n (moved s x.0) x.1) _ (within (rows_of word one moved n (moved s x.0)) _ x.1 (rows-shrinks n (moved s x.0)) le) (λ xs le'. le'))) (omega arith)

  pub good_rows : (n m : ℕ) (s : S) → Good n m (rows_of word one moved n s) (rows_of word one moved m s)
  good_rows zero m s = good_from zero m _ _ (rows-shrinks zero s) (rows-shrinks m s) (λ t front more e e'. absurd (omega (arith, e)))
  good_rows (suc n) zero s = good_from (suc n) zero _ _ (rows-shrinks (suc n) s) (rows-shrinks zero s) (λ t front more e e'. absurd (omega (arith, e')))
  good_rows (suc n) (suc m) s =
      good_next (suc n) (suc m) (is_word word) (λ ts. bound (one s ts) (after_row n s)) (λ ts. bound (one s ts) (after_row m s)) (λ ts. Ok ([], ts)) (λ ts. Ok ([], ts))
      (good_bind (suc n) (suc m) n m 1 (one s) (one s) (after_row n s) (after_row m s) (omega arith) (omega arith) (g s (suc n) (suc m)) (takes s) (λ x.
      good_bind n m n m 0 (rows_of word one moved n (moved s x)) (rows_of word one moved m (moved s x)) (λ xs ts. Ok (x ∷ xs, ts)) (λ xs ts. Ok (x ∷ xs, ts)) (omega arith) (omega arith)
      (good_rows n m (moved s x)) (takes_none (rows_of word one moved n (moved s x)) (rows-shrinks n (moved s x))) (λ xs. good_pure n m (x ∷ xs)))) (good_pure (suc n) (suc m) [])

  pub good_all_rows : (n m : ℕ) (s : S) → Good n m (λ ts. rows_of word one moved (length ts) s ts) (λ ts. rows_of word one moved (length ts) s ts)
  good_all_rows n m s = good_whole (λ k. rows_of word one moved k s) (λ k. rows-shrinks k s) (λ k l. good_rows k l s) n m

-- ---- words

good_none : {A : Type 0} (n m : ℕ) → Good {A = A} n m unexpected unexpected
good_none n m = good_from n m unexpected unexpected (λ ts. omega arith) (λ ts. omega arith) (λ t front more e e'. not_allowed t front more)

pub good_one_of : {A : Type 0} (n m : ℕ) (word_of : A → List ℕ) (values : List A) → Good n m (one_of word_of values) (one_of word_of values)
good_one_of n m word_of [] = good_none n m
good_one_of n m word_of (a ∷ others) =
    good_next n m (is_word (word_of a)) (λ ts. bound (the_word (word_of a) ts) (λ u ts. Ok (a, ts))) (λ ts. bound (the_word (word_of a) ts) (λ u ts. Ok (a, ts))) (one_of word_of others) (one_of word_of others)
    (good_map n m (the_word (word_of a)) (λ u. a) (good_the_word n m (word_of a))) (good_one_of n m word_of others)

pub good_cause : (n m : ℕ) → Good n m a_cause a_cause
good_cause n m = good_one_of n m cause_word (cause.Age ∷ cause.False ∷ cause.Weight ∷ [])

pub good_truth : (n m : ℕ) → Good n m a_truth a_truth
good_truth n m = good_one_of n m truth_word (truth.True ∷ truth.False ∷ truth.Wide ∷ [])

pub good_an_end : (n m : ℕ) → Good n m an_end an_end
good_an_end n m = good_one_of n m end_word (end.Done ∷ end.Stopped ∷ end.Wide ∷ end.Memory ∷ [])

pub good_version_name : (n m : ℕ) → Good n m a_version_name a_version_name
good_version_name n m =
    good_then n m a_row_number (λ f ts. bound (a_row_number ts) (λ k ts. Ok (record { finder = f; place = k }, ts))) (good_row_number n m) (λ f.
    good_map n m a_row_number (λ k. record { finder = f; place = k }) (good_row_number n m))
