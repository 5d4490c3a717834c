-- The rows of tables and of versions are read back.
use Rattle.std.proofs.Common.{◌≡◌, ◌∙◌, sym, ap, refl, ℕ, ◌+◌, ◌-◌, ◌<◌, ◌≤◌, ◌^◌, true, List, [], ◌∷◌, ◌++◌, map, length, append_assoc, None, Ok, arith}
use Rattle.std.specs.Prelude.{codes, decimal}
use Rattle.std.specs.List.{AllByRecursion}
use Rattle.sc_term.proofs.SubstitutionLaws.{all_join}
use Rattle.sc_term.specs.declared.symbol.Role.{Role}
use Rattle.sc_term.specs.declared.symbol.Role.TheVariants.{Function, Predicate}
use Rattle.sc_term.specs.declared.symbol.Symbol.{Symbol}
use Rattle.sc_interp.specs.Structure.{values_below}
use Rattle.sc_input_rules.specs.declared.token.Token.{Token}
use Rattle.sc_input_rules.specs.declared.token.Token.TheVariants.{Word, Punctuation}
use Rattle.sc_input_rules.specs.declared.token.Sign.TheVariants.{Stop, Colon}
use Rattle.sc_input_rules.specs.Reader.{Read, ◌>>=◌, the_sign, the_word}
use Rattle.sc_input_rules.proofs.Taken.{Gives}
use Rattle.sc_text_rules.specs.ProofText.{words}
use Rattle.sc_text_rules.specs.TextLimits.{large_number}
use Rattle.sc_text_print.proofs.LineText.{joined_by-append}
use Rattle.sc_text_run_rules.specs.ModelText.{role_word, table_row, table_rows}
use Rattle.sc_text_run_rules.specs.RowWords.{the_row_number, counted}
use Rattle.sc_text_run_rules.specs.VersionGrammar.{an_entry, a_table, tables}
use Rattle.sc_text_laws.specs.Printable.{is_name, IsShort, AreShort}
use Rattle.sc_text_laws.proofs.WordTokens.{tokens_at, past, space_token, colon_token, stop_token, line_feed_token}
use Rattle.sc_text_laws.proofs.WordRows.{word_tokens, words_end, words_spelt, fits}
use Rattle.sc_text_laws.proofs.NumberTexts.{number_is_name}
use Rattle.sc_text_laws.proofs.StepSpelling.{quiet}
use Rattle.sc_text_laws.specs.PrintableRun.{IsTableOf, AreTablesOf}
use Rattle.sc_text_laws.proofs.Sentences.{EndsSentence, Sentences, HasNoStop, one_sentence}
use Rattle.sc_text_laws.proofs.Parts.{Part, Anything, no_part, then_part, made_part}
use Rattle.sc_text_laws.proofs.NumbersBack.{then_word, then_the_number, few_words, entries_back}
use Rattle.sc_text_laws.proofs.RowsPass.{IsQuiet, quiet_words, words_no_stop, table_passes}
use Rattle.sc_text_laws.proofs.PlainRows.{numbers_named, numbers_quiet}

-- ---- entries

-- where the entries behind a colon end
abbrev entries_end : ℕ → List ℕ → ℕ
entries_end colon [] = colon + 1
entries_end colon (e ∷ es) = words_end (colon + 1 + 1) (map decimal (e ∷ es))

entries_spelt : (at : ℕ) (es rest : List ℕ) → AreShort es
    → tokens_at at (words (codes ":" ∷ map decimal es) ++ (46 ∷ rest)) ≡ Punctuation at Colon ∷ (word_tokens (at + 1 + 1) (map decimal es) ++ tokens_at (entries_end at es) (46 ∷ rest))
entries_spelt at [] rest h = colon_token at (46 ∷ rest)
entries_spelt at (e ∷ es) rest h =
    let others = words (map decimal (e ∷ es)) in
    colon_token at (32 ∷ (others ++ (46 ∷ rest)))
    ∙ ap (λ (us : List Token). Punctuation at Colon ∷ us) (space_token (at + 1) (others ++ (46 ∷ rest)) ∙ words_spelt (at + 1 + 1) (decimal e) (map decimal es) (46 ∷ rest) (numbers_named (e ∷ es) h) refl)

role_named : (r : Role) → is_name (role_word r) ≡ true
role_named Function = refl
role_named Predicate = refl

-- an entry that is below is at most one less
below_most : (size : ℕ) (r : Role) (es : List ℕ) → AllByRecursion (λ e. e < values_below r size) es → AllByRecursion (λ e. e ≤ values_below r size - 1) es
below_most size r [] h = tt
below_most size r (e ∷ es) h = let lt = h.0 in (omega (arith, lt), below_most size r es h.1)

few_values : (size : ℕ) (r : Role) → size ≤ 8 → values_below r size ≤ 8
few_values size Function h = h
few_values size Predicate h = omega arith

all_short : (most : ℕ) (es : List ℕ) → most ≤ 8 → AllByRecursion (λ e. e < most) es → AreShort es
all_short most [] le h = tt
all_short most (e ∷ es) le h = let lt = h.0 in (omega (arith, lt, le), all_short most es le h.1)

-- ---- one table

-- the pieces of a table's row, from its text on
table_pieces : (s : Symbol) (es rest : List ℕ) → table_row s es ++ rest
    ≡ words (role_word s.role ∷ s.name ∷ decimal s.arity ∷ []) ++ (32 ∷ (words (codes ":" ∷ map decimal es) ++ (46 ∷ 10 ∷ rest)))
table_pieces s es rest =
    let e = joined_by-append (codes " ") (role_word s.role) (s.name ∷ decimal s.arity ∷ []) (codes ":") (map decimal es) in
    rw e (simp append_assoc refl)

module _ (symbols : List Symbol) (size : ℕ) (s : Symbol) (es : List ℕ) (at : ℕ) where
  abbrev colon : ℕ
  colon = words_end at (role_word s.role ∷ s.name ∷ decimal s.arity ∷ []) + 1

  abbrev stop : ℕ
  stop = entries_end colon es

  abbrev before_colon : List Token
  before_colon = word_tokens at (role_word s.role ∷ s.name ∷ decimal s.arity ∷ [])

  abbrev before_stop : List Token
  before_stop = before_colon ++ (Punctuation colon Colon ∷ word_tokens (colon + 1 + 1) (map decimal es))

  abbrev row_tokens : List Token
  row_tokens = before_stop ++ Punctuation stop Stop ∷ []

  row_no_stop : HasNoStop before_stop
  row_no_stop = (refl, (refl, (refl, (refl, words_no_stop (colon + 1 + 1) (map decimal es)))))

  large_none : (ts : List Token) → AllByRecursion IsQuiet ts → AllByRecursion (λ t. large_number t ≡ None) ts
  large_none [] h = tt
  large_none (t ∷ ts) h = let q = h.0 in (q.number, large_none ts h.1)

  table_clear : (front : List Token) → EndsSentence front → IsShort s.arity → AreShort es → Sentences symbols front row_tokens
  table_clear front e arity short =
      let p = past (role_word s.role) at + 1 in
      let q = past s.name p + 1 in
      let number = large_none (word_tokens q (decimal s.arity ∷ [])) (quiet_words q (decimal s.arity ∷ []) (quiet s.arity arity, tt)) in
      let entries = large_none (word_tokens (colon + 1 + 1) (map decimal es)) (quiet_words (colon + 1 + 1) (map decimal es) (numbers_quiet es short)) in
      one_sentence symbols front before_stop stop e row_no_stop
      (table_passes symbols s.role at p s.name (Word q (decimal s.arity) ∷ Punctuation colon Colon ∷ (word_tokens (colon + 1 + 1) (map decimal es) ++ Punctuation stop Stop ∷ []))
      (number.0, (refl, all_join (λ t. large_number t ≡ None) (word_tokens (colon + 1 + 1) (map decimal es)) (Punctuation stop Stop ∷ []) entries (refl, tt))))

  after_entries : Read (List ℕ) → Read (List ℕ)
  after_entries r = r >>= λ es. the_sign Stop es.1 >>= λ stop. Ok (es.0, stop.1)

  table_back : (left : List Token) → IsShort s.arity → size ≤ 8 → IsTableOf size s es → Gives (a_table size s (row_tokens ++ left)) es left
  unfolding after_entries
  table_back left arity small h =
      let p = past (role_word s.role) at + 1 in
      let q = past s.name p + 1 in
      let most = values_below s.role size - 1 in
      let few = few_values size s.role small in
      let inside = word_tokens (colon + 1 + 1) (map decimal es) in
      let behind = inside ++ Punctuation stop Stop ∷ left in
      let three = Punctuation colon Colon ∷ behind in
      let two = Word q (decimal s.arity) ∷ three in
      let one = Word p s.name ∷ two in
      ap (a_table size s) (append_assoc before_stop (Punctuation stop Stop ∷ []) left ∙ append_assoc before_colon (Punctuation colon Colon ∷ inside) (Punctuation stop Stop ∷ left))
      ∙ then_word (λ r. the_word s.name r.1 >>= λ w. the_row_number s.arity w.1 >>= λ a. the_sign Colon a.1 >>= λ c. after_entries (counted (λ i. an_entry s.role size) (length c.1) 0 (size ^ s.arity) c.1)) (role_word s.role) at one
      ∙ then_word (λ w. the_row_number s.arity w.1 >>= λ a. the_sign Colon a.1 >>= λ c. after_entries (counted (λ i. an_entry s.role size) (length c.1) 0 (size ^ s.arity) c.1)) s.name p two
      ∙ then_the_number (λ a. the_sign Colon a.1 >>= λ c. after_entries (counted (λ i. an_entry s.role size) (length c.1) 0 (size ^ s.arity) c.1)) s.arity q s.arity three refl arity
      ∙ ap (λ (n : ℕ). after_entries (counted (λ i. an_entry s.role size) (length behind) 0 n behind)) (sym h.many)
      ∙ ap after_entries (entries_back most (length behind) 0 (colon + 1 + 1) es (Punctuation stop Stop ∷ left) (few_words (colon + 1 + 1) es (Punctuation stop Stop ∷ left)) (omega (arith, few)) (below_most size s.role es h.below))

  pub table_part : (rest : List ℕ) → is_name s.name ≡ true → s.arity ≤ 8 → size ≤ 8 → IsTableOf size s es → Part symbols Anything (a_table size s) es (table_row s es) at rest
  table_part rest name few small h =
      let arity : IsShort s.arity = omega (arith, few) in
      let short = all_short (values_below s.role size) es (few_values size s.role small) h.below in
      let inside = word_tokens (colon + 1 + 1) (map decimal es) in
      let tail = tokens_at (stop + 1 + 1) rest in
      let behind = words (codes ":" ∷ map decimal es) ++ (46 ∷ 10 ∷ rest) in
      record {
        tokens = row_tokens;
        next = stop + 1 + 1;
        spelt =
            ap (tokens_at at) (table_pieces s es rest)
            ∙ words_spelt at (role_word s.role) (s.name ∷ decimal s.arity ∷ []) (32 ∷ behind) (role_named s.role, (name, (number_is_name s.arity (fits s.arity arity), tt))) refl
            ∙ ap (λ (us : List Token). before_colon ++ us)
            (space_token (words_end at (role_word s.role ∷ s.name ∷ decimal s.arity ∷ [])) behind ∙ entries_spelt colon es (10 ∷ rest) short
            ∙ ap (λ (us : List Token). Punctuation colon Colon ∷ (inside ++ us)) (stop_token stop (10 ∷ rest) ∙ ap (λ (us : List Token). Punctuation stop Stop ∷ us) (line_feed_token (stop + 1) rest)))
            ∙ sym (append_assoc before_stop (Punctuation stop Stop ∷ []) tail ∙ append_assoc before_colon (Punctuation colon Colon ∷ inside) (Punctuation stop Stop ∷ tail));
        read = λ left m. table_back left arity small h;
        passes = λ front e. table_clear front e arity short;
      }

-- ---- tables

-- names and arities that a signature has
abbrev pub AreTableSymbols : List Symbol → Type 0
AreTableSymbols ss = AllByRecursion (λ (s : Symbol). (is_name s.name ≡ true) × (s.arity ≤ 8)) ss

pub tables_part : (symbols : List Symbol) (size : ℕ) (ss : List Symbol) (entries : List (List ℕ)) (at : ℕ) (rest : List ℕ) → AreTableSymbols ss → size ≤ 8 → AreTablesOf size ss entries
    → Part symbols Anything (tables size ss) entries (table_rows ss entries) at rest
tables_part symbols size [] [] at rest names small h = no_part symbols Anything [] at rest
tables_part symbols size [] (es ∷ entries) at rest names small h = absurd h
tables_part symbols size (s ∷ ss) [] at rest names small h = absurd h
tables_part symbols size (s ∷ ss) (es ∷ entries) at rest names small h =
    let others = table_rows ss entries in
    let one = table_part symbols size s es at (others ++ rest) names.0.0 names.0.1 small h.0 in
    then_part symbols Anything Anything (a_table size s) (λ e. tables size ss e.1 >>= λ others. Ok (e.0 ∷ others.0, others.1)) es (es ∷ entries) (table_row s es) (table_rows ss entries) at rest one
    (made_part symbols Anything (λ others. es ∷ others) (tables size ss) entries (table_rows ss entries) one.next rest (tables_part symbols size ss entries one.next rest names.1 small h.1)) (λ left m. tt)
