-- What a row of a run text spells: a sentence, in which no full stop stands, and its full stop.
use Rattle.std.proofs.Common.{◌≡◌, ◌∙◌, sym, ap, subst, refl, ℕ, zero, suc, ◌+◌, ◌-◌, ◌^◌, Bool, true, false, ◌&&◌, List, [], ◌∷◌, ◌++◌, append_assoc, length, Ok, Err}
use Rattle.std.specs.Prelude.{codes, ◌==◌, nat_le, if◌then◌else◌}
use Rattle.std.specs.List.{list_all}
use Rattle.std.specs.Str.Parse.{digits_value}
use Rattle.sc_term.proofs.SubstitutionLaws.{all_join}
use Rattle.sc_term.specs.declared.symbol.Symbol.{Symbol}
use Rattle.sc_interp.specs.Structure.{values_below, entry_count}
use Rattle.sc_interp.specs.declared.plain.Truth.{Truth}
use Rattle.sc_interp.specs.declared.plain.Truth.TheVariants as truth
use Rattle.sc_interp.specs.declared.plain.VersionName.{VersionName}
use Rattle.sc_core_rules.specs.declared.row.Cause.{Cause}
use Rattle.sc_core_rules.specs.declared.row.Cause.TheVariants as cause
use Rattle.sc_text_run_rules.specs.declared.run.FinderEnd.TheVariants as end
use Rattle.sc_text_run_rules.specs.ModelText.{role_word}
use Rattle.sc_text_run_rules.specs.RunText.{cause_word, truth_word, end_word}
use Rattle.sc_core_rules.specs.declared.row.GivenRow.{GivenRow}
use Rattle.sc_core_rules.specs.declared.row.Outcome.{Outcome}
use Rattle.sc_core_rules.specs.declared.row.Outcome.TheVariants as outcome
use Rattle.sc_text_run_rules.specs.declared.run.MarkRow.{MarkRow}
use Rattle.sc_input_rules.specs.declared.fault.InputKind.TheVariants.{OutOfRange, TooMany}
use Rattle.sc_input_rules.specs.declared.token.Token.{Token}
use Rattle.sc_input_rules.specs.declared.token.Token.TheVariants.{Word, Punctuation}
use Rattle.sc_input_rules.specs.declared.token.Sign.TheVariants.{Stop, Colon}
use Rattle.sc_input_rules.specs.Token.{is_sign, same_text}
use Rattle.sc_input_rules.specs.Tokens.{is_digit}
use Rattle.sc_input_rules.specs.Reader.{Read, Name, ◌>>=◌, unexpected, a_word, the_sign, the_word, repeated}
use Rattle.sc_input_rules.specs.ProblemGrammar.{next_is_word}
use Rattle.sc_input_rules.proofs.Standing.{HasNoStop}
use Rattle.sc_input_rules.proofs.Taken.{Gives, both, same, sign_taken, word_taken}
use Rattle.sc_text_rules.specs.ProofGrammar.{the_heading}
use Rattle.sc_text_run_rules.specs.RowWords.{is_in_range, ranged, a_number_in, a_number_from, a_row_number, the_row_number, no_digits, numbers, counted, one_of, a_cause, a_truth, an_end, a_version_name}
use Rattle.sc_text_run_rules.specs.VersionGrammar.{VersionRow, NextVersion, a_size, a_version_row, an_entry, a_table, claims}
use Rattle.sc_text_run_rules.specs.RowGrammar.{a_given_row, a_finder_row, with_number, outcome_named, an_outcome, an_end_row, a_mark_row}
use Rattle.sc_text_run_rules.specs.RunSection.{a_counted_row}

-- tokens among which is no full stop stand before those left
pub record Part (ts left : List Token) : Type 0 where
  pub part : List Token
  pub tokens : ts ≡ part ++ left
  pub stops : HasNoStop part

-- the same, and a full stop
pub record Sentence (ts left : List Token) : Type 0 where
  pub sentence : List Token
  pub at : ℕ
  pub tokens : ts ≡ sentence ++ Punctuation at Stop ∷ left
  pub stops : HasNoStop sentence

-- what the production reads is such a part
abbrev pub SpellsPart : {A : Type 0} → (List Token → Read A) → Type 0
SpellsPart {A} p = (ts : List Token) (v : A) (left : List Token) → Gives (p ts) v left → Part ts left

abbrev pub SpellsSentence : {A : Type 0} → (List Token → Read A) → Type 0
SpellsSentence {A} p = (ts : List Token) (v : A) (left : List Token) → Gives (p ts) v left → Sentence ts left

none : (ts us : List Token) → ts ≡ us → Part ts us
none ts us e = record { part = []; tokens = e; stops = tt }

join : (ts us vs : List Token) → Part ts us → Part us vs → Part ts vs
join ts us vs a b = record {
  part = a.part ++ b.part;
  tokens = a.tokens ∙ ap (λ (l : List Token). a.part ++ l) b.tokens ∙ sym (append_assoc a.part b.part vs);
  stops = all_join (λ t. is_sign Stop t ≡ false) a.part b.part a.stops b.stops;
}

-- one production, and a part behind it
in_parts : {A B : Type 0} (p : List Token → Read A) (f : A × List Token → Read B) (ts : List Token) (v : B) (left : List Token) → SpellsPart p → ((a : A) (us : List Token) → Gives (f (a, us)) v left → Part us left)
    → Gives (p ts >>= f) v left → Part ts left
in_parts p f ts v left h k e = let b = both (p ts) f v left e in join ts b.left left (h ts b.value b.left b.first) (k b.value b.left b.second)

in_sentence : {A B : Type 0} (p : List Token → Read A) (f : A × List Token → Read B) (ts : List Token) (v : B) (left : List Token) → SpellsPart p → ((a : A) (us : List Token) → Gives (f (a, us)) v left → Sentence us left)
    → Gives (p ts >>= f) v left → Sentence ts left
in_sentence p f ts v left h k e =
    let b = both (p ts) f v left e in
    let a = h ts b.value b.left b.first in
    let s = k b.value b.left b.second in
    record {
      sentence = a.part ++ s.sentence;
      at = s.at;
      tokens = a.tokens ∙ ap (λ (l : List Token). a.part ++ l) s.tokens ∙ sym (append_assoc a.part s.sentence (Punctuation s.at Stop ∷ left));
      stops = all_join (λ t. is_sign Stop t ≡ false) a.part s.sentence a.stops s.stops;
    }

-- the full stop, and a value
at_stop : {A : Type 0} (ts : List Token) (a v : A) (left : List Token) → Gives (the_sign Stop ts >>= λ stop. Ok (a, stop.1)) v left → Sentence ts left
at_stop ts a v left e =
    let b = both (the_sign Stop ts) (λ stop. Ok (a, stop.1)) v left e in
    let s = sign_taken Stop ts b.value b.left b.first in
    record { sentence = []; at = s.at; tokens = s.tokens ∙ ap (λ (l : List Token). Punctuation s.at Stop ∷ l) (same a v b.left left b.second).left; stops = tt }

-- ---- one token

one_word : (ts us left : List Token) (w : Name) → ts ≡ Word w.at w.text ∷ us → us ≡ left → Part ts left
one_word ts us left w e f = record { part = Word w.at w.text ∷ []; tokens = e ∙ ap (λ (l : List Token). Word w.at w.text ∷ l) f; stops = (refl, tt) }

word_part : (name : List ℕ) → SpellsPart (the_word name)
word_part name ts u left e =
    let b = both (a_word ts) (λ w. elim (same_text name w.0.text) [ true ↦ Ok (tt, w.1) | false ↦ unexpected ts ]) u left e in
    let t = word_taken ts b.value b.left b.first in
    by b.value b.left (same_text name b.value.text) t.tokens b.second
  where
    by : (w : Name) (us : List Token) (c : Bool) → ts ≡ Word w.at w.text ∷ us → Gives (elim c [ true ↦ Ok (tt {0}, us) | false ↦ unexpected ts ]) u left → Part ts left
    by w us true t e = one_word ts us left w t (same (tt {0}) u us left e).left
    by w us false t e = absurd cc

colon_part : SpellsPart (the_sign Colon)
colon_part ts u left e = let s = sign_taken Colon ts u left e in record { part = Punctuation s.at Colon ∷ []; tokens = s.tokens; stops = (refl, tt) }

number_part : (test : ℕ → Bool) (low high : ℕ) → SpellsPart (a_number_in test low high)
number_part test low high ts n left e =
    let f : Name × List Token → Read ℕ = λ w. elim (list_all is_digit w.0.text && test (digits_value 10 w.0.text)) [ true ↦ ranged low high w.0.text w.1 ts | false ↦ unexpected ts ] in
    let b = both (a_word ts) f n left e in
    let t = word_taken ts b.value b.left b.first in
    by b.value b.left (list_all is_digit b.value.text && test (digits_value 10 b.value.text)) (is_in_range low high b.value.text) t.tokens b.second
  where
    by : (w : Name) (us : List Token) (c d : Bool) → ts ≡ Word w.at w.text ∷ us
        → Gives (elim c [ true ↦ elim d [ true ↦ Ok (digits_value 10 w.text, us) | false ↦ Err (record { left = ts; kind = OutOfRange }) ] | false ↦ unexpected ts ]) n left → Part ts left
    by w us true true t e = one_word ts us left w t (same (digits_value 10 w.text) n us left e).left
    by w us true false t e = absurd cc
    by w us false d t e = absurd cc

from_part : (low high : ℕ) → SpellsPart (a_number_from low high)
from_part low high = number_part (λ n. true) low high

row_number_part : SpellsPart a_row_number
row_number_part = from_part 0 4294967295

this_part : (n : ℕ) → SpellsPart (the_row_number n)
this_part n = number_part (λ m. m == n) 0 4294967295

last_part : {A : Type 0} (a v : A) (us left : List Token) → Gives (Ok (a, us)) v left → Part us left
last_part a v us left e = none us left (same a v us left e).left

-- ---- several

some_part : (n : ℕ) → SpellsPart (repeated no_digits a_row_number n)
some_part zero ts ns left e = by (no_digits ts) e
  where
    by : (b : Bool) → Gives (elim b [ true ↦ Ok ([], ts) | false ↦ unexpected ts ]) ns left → Part ts left
    by true e = last_part [] ns ts left e
    by false e = absurd cc
some_part (suc n) ts ns left e = by (no_digits ts) (some_part n) e
  where
    by : (b : Bool) → SpellsPart (repeated no_digits a_row_number n)
        → Gives (elim b [ true ↦ Ok ([], ts) | false ↦ a_row_number ts >>= λ first. repeated no_digits a_row_number n first.1 >>= λ others. Ok (first.0 ∷ others.0, others.1) ]) ns left → Part ts left
    by true ih e = last_part [] ns ts left e
    by false ih e =
        in_parts a_row_number (λ first. repeated no_digits a_row_number n first.1 >>= λ others. Ok (first.0 ∷ others.0, others.1)) ts ns left row_number_part (λ k us e.
        in_parts (repeated no_digits a_row_number n) (λ others. Ok (k ∷ others.0, others.1)) us ns left ih (λ ks vs e. last_part (k ∷ ks) ns vs left e) e) e

pub numbers_sentence : SpellsSentence numbers
numbers_sentence ts ns left e =
    in_sentence (λ us. repeated no_digits a_row_number (length us) us) (λ ks. the_sign Stop ks.1 >>= λ stop. Ok (ks.0, stop.1)) ts ns left (λ us. some_part (length us) us) (λ ks us e. at_stop us ks ns left e) e

counted_part : {A : Type 0} (one : ℕ → List Token → Read A) → ((k : ℕ) → SpellsPart (one k)) → (n first count : ℕ) → SpellsPart (counted one n first count)
counted_part one h zero first zero ts xs left e = last_part [] xs ts left e
counted_part one h zero first (suc m) ts xs left e = absurd cc
counted_part one h (suc n) first zero ts xs left e = last_part [] xs ts left e
counted_part one h (suc n) first (suc m) ts xs left e =
    in_parts (one first) (λ x. counted one n (first + 1) m x.1 >>= λ xs. Ok (x.0 ∷ xs.0, xs.1)) ts xs left (h first) (λ x us e.
    in_parts (counted one n (first + 1) m) (λ xs. Ok (x ∷ xs.0, xs.1)) us xs left (counted_part one h n (first + 1) m) (λ ys vs e. last_part (x ∷ ys) xs vs left e) e) e

one_of_part : {A : Type 0} (word_of : A → List ℕ) (values : List A) → SpellsPart (one_of word_of values)
one_of_part word_of [] ts v left e = absurd cc
one_of_part {A} word_of (a ∷ others) ts v left e = by (next_is_word (word_of a) ts) (one_of_part word_of others) e
  where
    by : (b : Bool) → SpellsPart (one_of word_of others) → Gives (elim b [ true ↦ the_word (word_of a) ts >>= λ w. Ok (a, w.1) | false ↦ one_of word_of others ts ]) v left → Part ts left
    by true ih e = in_parts (the_word (word_of a)) (λ w. Ok (a, w.1)) ts v left (word_part (word_of a)) (λ w us e. last_part a v us left e) e
    by false ih e = ih ts v left e

cause_part : SpellsPart a_cause
cause_part = one_of_part cause_word (cause.Age ∷ cause.False ∷ cause.Weight ∷ [])

truth_part : SpellsPart a_truth
truth_part = one_of_part truth_word (truth.True ∷ truth.False ∷ truth.Wide ∷ [])

an_end_part : SpellsPart an_end
an_end_part = one_of_part end_word (end.Done ∷ end.Stopped ∷ end.Wide ∷ end.Memory ∷ [])

version_name_part : SpellsPart a_version_name
version_name_part ts v left e =
    in_parts a_row_number (λ f. a_row_number f.1 >>= λ k. Ok (record { finder = f.0; place = k.0 }, k.1)) ts v left row_number_part (λ f us e.
    in_parts a_row_number (λ k. Ok (record { finder = f; place = k.0 }, k.1)) us v left row_number_part (λ k vs e. last_part (record { finder = f; place = k }) v vs left e) e) e

-- ---- rows

pub counted_row_sentence : (name : List ℕ) (low high : ℕ) → SpellsSentence (a_counted_row name low high)
counted_row_sentence name low high ts v left e =
    in_sentence (the_word name) (λ w. a_number_from low high w.1 >>= λ n. the_sign Stop n.1 >>= λ stop. Ok (n.0, stop.1)) ts v left (word_part name) (λ w us e.
    in_sentence (a_number_from low high) (λ n. the_sign Stop n.1 >>= λ stop. Ok (n.0, stop.1)) us v left (from_part low high) (λ n vs e. at_stop vs n v left e) e) e

pub claims_sentence : SpellsSentence claims
claims_sentence ts v left e = in_sentence (the_word (codes "claims")) (λ w. numbers w.1) ts v left (word_part (codes "claims")) (λ w us e. numbers_sentence us v left e) e

abbrev after_entries : List ℕ × List Token → Read (List ℕ)
after_entries es = the_sign Stop es.1 >>= λ stop. Ok (es.0, stop.1)

abbrev after_colon : ℕ → Symbol → List Token → Read (List ℕ)
after_colon size s us = counted (λ i. an_entry s.role size) (length us) 0 (size ^ s.arity) us >>= after_entries

pub table_sentence : (size : ℕ) (s : Symbol) → SpellsSentence (a_table size s)
table_sentence size s ts v left e =
    in_sentence (the_word (role_word s.role)) (λ r. the_word s.name r.1 >>= λ w. the_row_number s.arity w.1 >>= λ a. the_sign Colon a.1 >>= λ c. after_colon size s c.1) ts v left (word_part (role_word s.role)) (λ r us e.
    in_sentence (the_word s.name) (λ w. the_row_number s.arity w.1 >>= λ a. the_sign Colon a.1 >>= λ c. after_colon size s c.1) us v left (word_part s.name) (λ w us e.
    in_sentence (the_row_number s.arity) (λ a. the_sign Colon a.1 >>= λ c. after_colon size s c.1) us v left (this_part s.arity) (λ a us e.
    in_sentence (the_sign Colon) (λ c. after_colon size s c.1) us v left colon_part (λ c us e.
    in_sentence (λ us. counted (λ i. an_entry s.role size) (length us) 0 (size ^ s.arity) us) after_entries us v left
    (λ us. counted_part (λ i. an_entry s.role size) (λ i. from_part 0 (values_below s.role size - 1)) (length us) 0 (size ^ s.arity) us) (λ es us e. at_stop us es v left e) e) e) e) e) e

pub finder_sentence : (finder : ℕ) → SpellsSentence (a_finder_row finder)
finder_sentence finder ts v left e =
    in_sentence (the_word (codes "finder")) (λ w. the_row_number finder w.1 >>= λ f. an_end f.1 >>= λ x. the_sign Stop x.1 >>= λ stop. Ok (x.0, stop.1)) ts v left (word_part (codes "finder")) (λ w us e.
    in_sentence (the_row_number finder) (λ f. an_end f.1 >>= λ x. the_sign Stop x.1 >>= λ stop. Ok (x.0, stop.1)) us v left (this_part finder) (λ f us e.
    in_sentence an_end (λ x. the_sign Stop x.1 >>= λ stop. Ok (x.0, stop.1)) us v left an_end_part (λ x us e. at_stop us x v left e) e) e) e

pub heading_sentence : (name : List ℕ) → SpellsSentence (the_heading name)
heading_sentence name ts u left e =
    in_sentence (the_word name) (λ w. the_sign Stop w.1) ts u left (word_part name)
    (λ w us e. let s = sign_taken Stop us u left e in record { sentence = []; at = s.at; tokens = s.tokens; stops = tt }) e

-- a sentence, and a value
after_sentence : {A B : Type 0} (p : List Token → Read A) (g : A → B) (ts : List Token) (v : B) (left : List Token) → SpellsSentence p → Gives (p ts >>= λ a. Ok (g a.0, a.1)) v left → Sentence ts left
after_sentence p g ts v left h e =
    let b = both (p ts) (λ a. Ok (g a.0, a.1)) v left e in
    subst (λ (l : List Token). Sentence ts l) (same (g b.value) v b.left left b.second).left (h ts b.value b.left b.first)

abbrev given_5 : ℕ → ℕ → Cause → VersionName → Truth × List Token → Read GivenRow
given_5 t n c name truth = numbers truth.1 >>= λ ls. Ok (record { turn = t; number = n; cause = c; name = name; truth = truth.0; lengths = ls.0 }, ls.1)

abbrev given_4 : ℕ → ℕ → Cause → VersionName × List Token → Read GivenRow
given_4 t n c name = a_truth name.1 >>= given_5 t n c name.0

abbrev given_3 : ℕ → ℕ → Cause × List Token → Read GivenRow
given_3 t n c = a_version_name c.1 >>= given_4 t n c.0

abbrev given_2 : ℕ → ℕ × List Token → Read GivenRow
given_2 t n = a_cause n.1 >>= given_3 t n.0

abbrev given_1 : ℕ × List Token → Read GivenRow
given_1 t = a_row_number t.1 >>= given_2 t.0

pub given_sentence : (turn : ℕ) → SpellsSentence (a_given_row turn)
given_sentence turn ts v left e =
    in_sentence (the_word (codes "given")) (λ w. the_row_number turn w.1 >>= given_1) ts v left (word_part (codes "given")) (λ w us e.
    in_sentence (the_row_number turn) given_1 us v left (this_part turn) (λ t us e.
    in_sentence a_row_number (given_2 t) us v left row_number_part (λ n us e.
    in_sentence a_cause (given_3 t n) us v left cause_part (λ c us e.
    in_sentence a_version_name (given_4 t n c) us v left version_name_part (λ name us e.
    in_sentence a_truth (given_5 t n c name) us v left truth_part (λ truth us e.
    after_sentence numbers (λ ls. record { turn = t; number = n; cause = c; name = name; truth = truth; lengths = ls }) us v left numbers_sentence e) e) e) e) e) e) e

abbrev mark_3 : ℕ → VersionName → Truth × List Token → Read MarkRow
mark_3 k name truth = the_sign Stop truth.1 >>= λ stop. Ok (record { line = k; name = name; truth = truth.0 }, stop.1)

abbrev mark_2 : ℕ → VersionName × List Token → Read MarkRow
mark_2 k name = a_truth name.1 >>= mark_3 k name.0

abbrev mark_1 : ℕ × List Token → Read MarkRow
mark_1 k = a_version_name k.1 >>= mark_2 k.0

pub mark_sentence : (line : ℕ) → SpellsSentence (a_mark_row line)
mark_sentence line ts v left e =
    in_sentence (the_word (codes "mark")) (λ w. the_row_number line w.1 >>= mark_1) ts v left (word_part (codes "mark")) (λ w us e.
    in_sentence (the_row_number line) mark_1 us v left (this_part line) (λ k us e.
    in_sentence a_version_name (mark_2 k) us v left version_name_part (λ name us e.
    in_sentence a_truth (mark_3 k name) us v left truth_part (λ truth us e. at_stop us (record { line = k; name = name; truth = truth }) v left e) e) e) e) e

size_part : (symbols : List Symbol) → SpellsPart (a_size symbols)
size_part symbols ts v left e =
    in_parts (a_number_from 1 8) (λ size. elim (nat_le (entry_count symbols size.0) 1048576) [ true ↦ Ok size | false ↦ Err (record { left = ts; kind = TooMany }) ]) ts v left (from_part 1 8)
    (λ size us e. by size us (nat_le (entry_count symbols size) 1048576) e) e
  where
    by : (size : ℕ) (us : List Token) (b : Bool) → Gives (elim b [ true ↦ Ok (size, us) | false ↦ Err (record { left = ts; kind = TooMany }) ]) v left → Part us left
    by size us true e = last_part size v us left e
    by size us false e = absurd cc

abbrev row_3 : ℕ → ℕ → ℕ × List Token → Read VersionRow
row_3 f k size = the_sign Stop size.1 >>= λ stop. Ok (record { finder = f; place = k; size = size.0 }, stop.1)

abbrev row_2 : List Symbol → ℕ → ℕ × List Token → Read VersionRow
row_2 symbols f k = a_size symbols k.1 >>= row_3 f k.0

abbrev row_1 : List Symbol → NextVersion → ℕ × List Token → Read VersionRow
row_1 symbols next f = the_row_number (if f.0 == next.finder then next.place else 0) f.1 >>= row_2 symbols f.0

pub version_row_sentence : (symbols : List Symbol) (lists : ℕ) (next : NextVersion) → SpellsSentence (a_version_row symbols lists next)
version_row_sentence symbols lists next ts v left e =
    let test : ℕ → Bool = λ n. nat_le next.finder n && nat_le n lists in
    in_sentence (the_word (codes "version")) (λ w. a_number_in test 0 4294967295 w.1 >>= row_1 symbols next) ts v left (word_part (codes "version")) (λ w us e.
    in_sentence (a_number_in test 0 4294967295) (row_1 symbols next) us v left (number_part test 0 4294967295) (λ f us e.
    in_sentence (the_row_number (if f == next.finder then next.place else 0)) (row_2 symbols f) us v left (this_part (if f == next.finder then next.place else 0)) (λ k us e.
    in_sentence (a_size symbols) (row_3 f k) us v left (size_part symbols) (λ size us e. at_stop us (record { finder = f; place = k; size = size }) v left e) e) e) e) e

-- ---- the outcome

limit_part : (make : ℕ → Outcome) → SpellsPart (with_number make)
limit_part make ts v left e = in_parts a_row_number (λ n. Ok (make n.0, n.1)) ts v left row_number_part (λ n us e. last_part (make n) v us left e) e

named_part : (name : List ℕ) (us ts : List Token) (v : Outcome) (left : List Token) → Gives (outcome_named name us ts) v left → Part us left
named_part name us ts v left e =
    by (same_text name (codes "proof")) (same_text name (codes "sos_empty")) (same_text name (codes "given_limit")) (same_text name (codes "kept_limit")) (same_text name (codes "work_limit")) e
  where
    by : (a b c d f : Bool) → Gives (elim a [
      | true ↦ Ok (outcome.Proof, us)
      | false ↦ elim b [
        | true ↦ Ok (outcome.SosEmpty, us)
        | false ↦ elim c [
          | true ↦ with_number (λ n. outcome.GivenLimit n) us
          | false ↦ elim d [ true ↦ with_number (λ n. outcome.KeptLimit n) us | false ↦ elim f [ true ↦ with_number (λ n. outcome.WorkLimit n) us | false ↦ unexpected ts ] ]
        ]
      ]
    ]) v left → Part us left
    by true b c d f e = last_part outcome.Proof v us left e
    by false true c d f e = last_part outcome.SosEmpty v us left e
    by false false true d f e = limit_part (λ n. outcome.GivenLimit n) us v left e
    by false false false true f e = limit_part (λ n. outcome.KeptLimit n) us v left e
    by false false false false true e = limit_part (λ n. outcome.WorkLimit n) us v left e
    by false false false false false e = absurd cc

outcome_part : SpellsPart an_outcome
outcome_part ts v left e =
    let b = both (a_word ts) (λ name. outcome_named name.0.text name.1 ts) v left e in
    let t = word_taken ts b.value b.left b.first in
    join ts b.left left (one_word ts b.left b.left b.value t.tokens refl) (named_part b.value.text b.left ts v left b.second)

pub end_row_sentence : SpellsSentence an_end_row
end_row_sentence ts v left e =
    in_sentence (the_word (codes "end")) (λ w. an_outcome w.1 >>= λ o. the_sign Stop o.1 >>= λ stop. Ok (o.0, stop.1)) ts v left (word_part (codes "end")) (λ w us e.
    in_sentence an_outcome (λ o. the_sign Stop o.1 >>= λ stop. Ok (o.0, stop.1)) us v left outcome_part (λ o us e. at_stop us o v left e) e) e
