-- Numbers and words of rows are read back from their tokens.
use Rattle.std.proofs.Common.{◌≡◌, ◌∙◌, ap, refl, ℕ, zero, suc, ◌+◌, ◌<◌, ◌≤◌, ◌^◌, Bool, true, false, not, List, [], ◌∷◌, ◌++◌, length, map, Ok, Err, arith}
use Rattle.std.specs.Prelude.{◌&&◌, ◌==◌, nat_le, decimal}
use Rattle.std.specs.List.{AllByRecursion, list_all}
use Rattle.std.specs.Str.Parse.{digits_value}
use Rattle.std.specs.Cmp.Lexicographic.{bytes_decides}
use Rattle.std.proofs.lemmas.Bool.{le-leb, eq-eqb}
use Rattle.std.proofs.lemmas.List.{length-append}
use Rattle.sc_interp.specs.declared.plain.Truth.{Truth}
use Rattle.sc_interp.specs.declared.plain.Truth.TheVariants as truth
use Rattle.sc_interp.specs.declared.plain.VersionName.{VersionName}
use Rattle.sc_core_rules.specs.declared.row.Cause.{Cause}
use Rattle.sc_core_rules.specs.declared.row.Cause.TheVariants as cause
use Rattle.sc_text_run_rules.specs.declared.run.FinderEnd.{FinderEnd}
use Rattle.sc_text_run_rules.specs.declared.run.FinderEnd.TheVariants as end
use Rattle.sc_text_run_rules.specs.RunText.{cause_word, truth_word, end_word}
use Rattle.sc_input_rules.specs.declared.fault.InputKind.TheVariants.{OutOfRange}
use Rattle.sc_input_rules.specs.declared.token.Token.{Token}
use Rattle.sc_input_rules.specs.declared.token.Token.TheVariants.{Word, Punctuation}
use Rattle.sc_input_rules.specs.declared.token.Sign.TheVariants.{Stop}
use Rattle.sc_input_rules.specs.Tokens.{is_digit}
use Rattle.sc_input_rules.specs.Reader.{Read, ◌>>=◌, unexpected, the_sign, the_word, repeated}
use Rattle.sc_input_rules.proofs.Booleans.{both_hold}
use Rattle.sc_input_rules.proofs.Taken.{Gives}
use Rattle.sc_text_rules.specs.TextWords.{is_longer_or_above}
use Rattle.sc_text_run_rules.specs.RowWords.{is_in_range, ranged, a_number_in, a_number_from, a_row_number, the_row_number, no_digits, numbers, counted, a_cause, a_truth, an_end, a_version_name}
use Rattle.sc_text_laws.specs.Printable.{IsShort, AreShort}
use Rattle.sc_text_laws.proofs.NumberTexts.{all_digits, value_back}
use Rattle.sc_text_laws.proofs.KnownNames.{in_range}
use Rattle.sc_text_laws.proofs.WordTokens.{past}
use Rattle.sc_text_laws.proofs.WordRows.{word_tokens, fits}
use Rattle.sc_text_laws.specs.PrintableRun.{IsShortName}

-- ---- words

pub the_word_back : (name : List ℕ) (at : ℕ) (ts : List Token) → Gives (the_word name (Word at name ∷ ts)) tt ts
the_word_back name at ts =
    ap (λ (b : Bool). elim b as (λ _. Read (Unit {0})) [ true ↦ Ok (tt, ts) | false ↦ unexpected (Word at name ∷ ts) ]) ((bytes_decides name name).1 refl)

pub then_word : {B : Type 0} (more : Unit {0} × List Token → Read B) (name : List ℕ) (at : ℕ) (ts : List Token) → (the_word name (Word at name ∷ ts) >>= more) ≡ more (tt, ts)
then_word more name at ts = ap (λ (r : Read (Unit {0})). r >>= more) (the_word_back name at ts)

-- ---- numbers

pub number_in_back : (test : ℕ → Bool) (low high at n : ℕ) (ts : List Token) → test n ≡ true → low ≤ n → n ≤ high → IsShort n → Gives (a_number_in test low high (Word at (decimal n) ∷ ts)) n ts
number_in_back test low high at n ts may least most short =
    let whole = Word at (decimal n) ∷ ts in
    let digits = all_digits n (fits n short) in
    let value = value_back n (fits n short) in
    let allowed : (list_all is_digit (decimal n) && test (digits_value 10 (decimal n))) ≡ true =
    both_hold (list_all is_digit (decimal n)) (test (digits_value 10 (decimal n))) digits (ap test value ∙ may) in
    let ranges : is_in_range low high (decimal n) ≡ true =
    both_hold (nat_le low (digits_value 10 (decimal n))) (not (is_longer_or_above high (decimal n))) (ap (nat_le low) value ∙ le-leb low n least) (ap not (in_range high n most short)) in
    ap (λ (b : Bool). elim b as (λ _. Read ℕ) [ true ↦ ranged low high (decimal n) ts whole | false ↦ unexpected whole ]) allowed
    ∙ ap (λ (b : Bool). elim b as (λ _. Read ℕ) [ true ↦ Ok (digits_value 10 (decimal n), ts) | false ↦ Err (record { left = whole; kind = OutOfRange }) ]) ranges
    ∙ ap (λ (m : ℕ). Ok (m, ts)) value

pub then_in : {B : Type 0} (more : ℕ × List Token → Read B) (test : ℕ → Bool) (low high at n : ℕ) (ts : List Token) → test n ≡ true → low ≤ n → n ≤ high → IsShort n
    → (a_number_in test low high (Word at (decimal n) ∷ ts) >>= more) ≡ more (n, ts)
then_in more test low high at n ts may least most short = ap (λ (r : Read ℕ). r >>= more) (number_in_back test low high at n ts may least most short)

pub row_number_back : (at n : ℕ) (ts : List Token) → IsShort n → Gives (a_row_number (Word at (decimal n) ∷ ts)) n ts
row_number_back at n ts h = number_in_back (λ m. true) 0 4294967295 at n ts refl (omega arith) (omega (arith, h)) h

pub then_row_number : {B : Type 0} (more : ℕ × List Token → Read B) (at n : ℕ) (ts : List Token) → IsShort n → (a_row_number (Word at (decimal n) ∷ ts) >>= more) ≡ more (n, ts)
then_row_number more at n ts h = ap (λ (r : Read ℕ). r >>= more) (row_number_back at n ts h)

-- the number that is wanted
pub then_the_number : {B : Type 0} (more : ℕ × List Token → Read B) (wanted at n : ℕ) (ts : List Token) → n ≡ wanted → IsShort n → (the_row_number wanted (Word at (decimal n) ∷ ts) >>= more) ≡ more (n, ts)
then_the_number more wanted at n ts is h = then_in more (λ m. m == wanted) 0 4294967295 at n ts (eq-eqb n wanted is) (omega arith) (omega (arith, h)) h

-- ---- several numbers

no_digits_stop : (at : ℕ) (left : List Token) → no_digits (Punctuation at Stop ∷ left) ≡ true
no_digits_stop at left = refl

with_number : ℕ → Read (List ℕ) → Read (List ℕ)
with_number n r = r >>= λ others. Ok (n ∷ others.0, others.1)

after_number : ℕ → Read ℕ → Read (List ℕ)
after_number k r = r >>= λ first. repeated no_digits a_row_number k first.1 >>= λ others. Ok (first.0 ∷ others.0, others.1)

some_back : (k at : ℕ) (ns : List ℕ) (stop : ℕ) (left : List Token) → length ns ≤ k → AreShort ns
    → Gives (repeated no_digits a_row_number k (word_tokens at (map decimal ns) ++ Punctuation stop Stop ∷ left)) ns (Punctuation stop Stop ∷ left)
unfolding with_number after_number
some_back zero at [] stop left le h = refl
some_back zero at (n ∷ ns) stop left le h = absurd (omega (arith, le))
some_back (suc k) at [] stop left le h = refl
some_back (suc k) at (n ∷ ns) stop left le h =
    let next = past (decimal n) at + 1 in
    let behind = word_tokens next (map decimal ns) ++ Punctuation stop Stop ∷ left in
    let whole = Word at (decimal n) ∷ behind in
    ap (λ (b : Bool). elim (not b) as (λ _. Read (List ℕ)) [ true ↦ Ok ([], whole) | false ↦ after_number k (a_row_number whole) ]) (all_digits n (fits n h.0))
    ∙ ap (after_number k) (row_number_back at n behind h.0)
    ∙ ap (with_number n) (some_back k next ns stop left (omega (arith, le)) h.1)

words-length : (at : ℕ) (ws : List (List ℕ)) → length (word_tokens at ws) ≡ length ws
words-length at [] = refl
words-length at (w ∷ ws) = ap suc (words-length (past w at + 1) ws)

numbers-length : (ns : List ℕ) → length (map decimal ns) ≡ length ns
numbers-length [] = refl
numbers-length (n ∷ ns) = ap suc (numbers-length ns)

after_numbers : Read (List ℕ) → Read (List ℕ)
after_numbers r = r >>= λ ns. the_sign Stop ns.1 >>= λ stop. Ok (ns.0, stop.1)

-- as many numbers are at most as many tokens
pub few_words : (at : ℕ) (ns : List ℕ) (left : List Token) → length ns ≤ length (word_tokens at (map decimal ns) ++ left)
few_words at ns left =
    let sum = length-append (word_tokens at (map decimal ns)) left in
    let words = words-length at (map decimal ns) in
    let many = numbers-length ns in
    omega (arith, sum, words, many)

pub numbers_back : (at : ℕ) (ns : List ℕ) (stop : ℕ) (left : List Token) → AreShort ns → Gives (numbers (word_tokens at (map decimal ns) ++ Punctuation stop Stop ∷ left)) ns left
unfolding after_numbers
numbers_back at ns stop left h =
    let tail = Punctuation stop Stop ∷ left in
    let le = few_words at ns tail in
    ap after_numbers (some_back (length (word_tokens at (map decimal ns) ++ tail)) at ns stop left le h)

-- entries, as many as counted
with_entry : ℕ → Read (List ℕ) → Read (List ℕ)
with_entry n r = r >>= λ others. Ok (n ∷ others.0, others.1)

after_entry : (ℕ → List Token → Read ℕ) → ℕ → ℕ → ℕ → Read ℕ → Read (List ℕ)
after_entry one k first m r = r >>= λ x. counted one k (first + 1) m x.1 >>= λ xs. Ok (x.0 ∷ xs.0, xs.1)

pub entries_back : (high k first at : ℕ) (ns : List ℕ) (left : List Token) → length ns ≤ k → high < 2 ^ 32 → AllByRecursion (λ n. n ≤ high) ns
    → Gives (counted (λ i. a_number_from 0 high) k first (length ns) (word_tokens at (map decimal ns) ++ left)) ns left
unfolding with_entry after_entry
entries_back high zero first at [] left le small h = refl
entries_back high zero first at (n ∷ ns) left le small h = absurd (omega (arith, le))
entries_back high (suc k) first at [] left le small h = refl
entries_back high (suc k) first at (n ∷ ns) left le small h =
    let next = past (decimal n) at + 1 in
    let most = h.0 in
    ap (after_entry (λ i. a_number_from 0 high) k first (length ns)) (number_in_back (λ m. true) 0 high at n (word_tokens next (map decimal ns) ++ left) refl (omega arith) most (omega (arith, most, small)))
    ∙ ap (with_entry n) (entries_back high k (first + 1) next ns left (omega (arith, le)) small h.1)

-- ---- words of a table

pub cause_back : (c : Cause) (at : ℕ) (ts : List Token) → Gives (a_cause (Word at (cause_word c) ∷ ts)) c ts
cause_back cause.Age at ts = refl
cause_back cause.False at ts = refl
cause_back cause.Weight at ts = refl

pub truth_back : (t : Truth) (at : ℕ) (ts : List Token) → Gives (a_truth (Word at (truth_word t) ∷ ts)) t ts
truth_back truth.True at ts = refl
truth_back truth.False at ts = refl
truth_back truth.Wide at ts = refl

pub end_back : (e : FinderEnd) (at : ℕ) (ts : List Token) → Gives (an_end (Word at (end_word e) ∷ ts)) e ts
end_back end.Done at ts = refl
end_back end.Stopped at ts = refl
end_back end.Wide at ts = refl
end_back end.Memory at ts = refl

pub version_name_back : (name : VersionName) (at : ℕ) (ts : List Token) → IsShortName name
    → Gives (a_version_name (Word at (decimal name.finder) ∷ Word (past (decimal name.finder) at + 1) (decimal name.place) ∷ ts)) name ts
version_name_back name at ts h =
    let next = past (decimal name.finder) at + 1 in
    then_row_number (λ f. a_row_number f.1 >>= λ k. Ok (record { finder = f.0; place = k.0 }, k.1)) at name.finder (Word next (decimal name.place) ∷ ts) h.finder
    ∙ then_row_number (λ k. Ok (record { finder = name.finder; place = k.0 }, k.1)) next name.place ts h.place
