-- The rows of words and numbers are read back: headings, given rows, finder rows, the end and marks.
use Rattle.std.proofs.Common.{◌≡◌, ◌∙◌, ap, refl, ℕ, ◌+◌, ◌≤◌, false, true, List, [], ◌∷◌, ◌++◌, map, Ok, arith}
use Rattle.std.specs.Prelude.{codes, decimal}
use Rattle.sc_term.specs.declared.symbol.Symbol.{Symbol}
use Rattle.sc_interp.specs.declared.plain.Truth.{Truth}
use Rattle.sc_interp.specs.declared.plain.Truth.TheVariants as truth
use Rattle.sc_interp.specs.declared.plain.VersionName.{VersionName}
use Rattle.sc_core_rules.specs.declared.row.Cause.{Cause}
use Rattle.sc_core_rules.specs.declared.row.Cause.TheVariants as cause
use Rattle.sc_core_rules.specs.declared.row.GivenRow.{GivenRow}
use Rattle.sc_core_rules.specs.declared.row.Outcome.{Outcome}
use Rattle.sc_core_rules.specs.declared.row.Outcome.TheVariants as outcome
use Rattle.sc_text_run_rules.specs.declared.run.FinderEnd.{FinderEnd}
use Rattle.sc_text_run_rules.specs.declared.run.FinderEnd.TheVariants as end
use Rattle.sc_text_run_rules.specs.declared.run.MarkRow.{MarkRow}
use Rattle.sc_text_run_rules.specs.ModelText.{row}
use Rattle.sc_text_run_rules.specs.RunText.{cause_word, truth_word, end_word, outcome_words, given_row, mark_row}
use Rattle.sc_input_rules.specs.declared.token.Token.{Token}
use Rattle.sc_input_rules.specs.declared.token.Token.TheVariants.{Word, Punctuation}
use Rattle.sc_input_rules.specs.declared.token.Sign.TheVariants.{Stop}
use Rattle.sc_input_rules.specs.Token.{same_text}
use Rattle.sc_input_rules.specs.Reader.{Read, ◌>>=◌, the_sign}
use Rattle.sc_text_rules.specs.ProofGrammar.{the_heading}
use Rattle.sc_text_run_rules.specs.RowWords.{a_row_number, numbers, a_cause, a_truth, an_end, a_version_name}
use Rattle.sc_text_run_rules.specs.RowGrammar.{a_given_row, a_finder_row, an_end_row, a_mark_row}
use Rattle.sc_text_run_rules.specs.RunSection.{a_counted_row}
use Rattle.sc_text_laws.specs.Printable.{is_name, IsShort}
use Rattle.sc_text_laws.proofs.WordTokens.{past}
use Rattle.sc_text_laws.proofs.WordRows.{word_tokens, words_end, fits}
use Rattle.sc_text_laws.proofs.NumberTexts.{all_digits, number_is_name}
use Rattle.sc_text_laws.proofs.StepSpelling.{QuietWord, quiet}
use Rattle.sc_text_laws.specs.PrintableRun.{IsGivenRow, IsMarkRow, IsShortOutcome}
use Rattle.sc_text_laws.proofs.Parts.{Row}
use Rattle.sc_text_laws.proofs.NumbersBack.{then_in, row_number_back, then_row_number, then_the_number, numbers_back, cause_back, truth_back, end_back, version_name_back}
use Rattle.sc_text_laws.proofs.RowsPass.{number_no_step}
use Rattle.sc_text_laws.proofs.PlainRows.{IsPlainRow, numbers_named, numbers_quiet, plain_row}

-- ---- words

named : (n : ℕ) → IsShort n → is_name (decimal n) ≡ true
named n h = number_is_name n (fits n h)

no_step : (n : ℕ) → IsShort n → same_text (codes "instance") (decimal n) ≡ false
no_step n h = number_no_step n (all_digits n (fits n h))

cause_named : (c : Cause) → is_name (cause_word c) ≡ true
cause_named cause.Age = refl
cause_named cause.False = refl
cause_named cause.Weight = refl

cause_quiet : (c : Cause) → QuietWord (cause_word c)
cause_quiet cause.Age = refl
cause_quiet cause.False = refl
cause_quiet cause.Weight = refl

truth_named : (t : Truth) → is_name (truth_word t) ≡ true
truth_named truth.True = refl
truth_named truth.False = refl
truth_named truth.Wide = refl

truth_quiet : (t : Truth) → QuietWord (truth_word t)
truth_quiet truth.True = refl
truth_quiet truth.False = refl
truth_quiet truth.Wide = refl

end_named : (e : FinderEnd) → is_name (end_word e) ≡ true
end_named end.Done = refl
end_named end.Stopped = refl
end_named end.Wide = refl
end_named end.Memory = refl

end_quiet : (e : FinderEnd) → QuietWord (end_word e)
end_quiet end.Done = refl
end_quiet end.Stopped = refl
end_quiet end.Wide = refl
end_quiet end.Memory = refl

-- ---- headings

module _ (symbols : List Symbol) where
  pub run_heading : (at : ℕ) (rest : List ℕ) → Row symbols (codes "run") (the_heading (codes "run")) tt (row (codes "run" ∷ [])) at rest
  run_heading at rest =
      plain_row symbols (the_heading (codes "run")) tt (codes "run") [] at rest (record { names = (refl, tt); quiet = (refl, tt); table = λ at. refl; step = tt }) (λ left. refl)

  pub end_heading : (at : ℕ) (rest : List ℕ) → Row symbols (codes "end_of_run") (the_heading (codes "end_of_run")) tt (row (codes "end_of_run" ∷ [])) at rest
  end_heading at rest =
      plain_row symbols (the_heading (codes "end_of_run")) tt (codes "end_of_run") [] at rest (record { names = (refl, tt); quiet = (refl, tt); table = λ at. refl; step = tt }) (λ left. refl)

  after_count : ℕ × List Token → Read ℕ
  after_count n = the_sign Stop n.1 >>= λ stop. Ok (n.0, stop.1)

  pub lists_row : (n at : ℕ) (rest : List ℕ) → 1 ≤ n → n ≤ 8 → Row symbols (codes "lists") (a_counted_row (codes "lists") 1 8) n (row (codes "lists" ∷ decimal n ∷ [])) at rest
  unfolding after_count
  lists_row n at rest least most =
      let short : IsShort n = omega (arith, most) in
      plain_row symbols (a_counted_row (codes "lists") 1 8) n (codes "lists") (decimal n ∷ []) at rest
      (record { names = (refl, (named n short, tt)); quiet = (refl, (quiet n short, tt)); table = λ at. refl; step = no_step n short })
      (λ left. then_in after_count (λ n. true) 1 8 (past (codes "lists") at + 1) n (Punctuation (words_end at (codes "lists" ∷ decimal n ∷ [])) Stop ∷ left) refl least most short)

  pub ratio_row : (n at : ℕ) (rest : List ℕ) → 1 ≤ n → n ≤ 1001 → Row symbols (codes "ratio") (a_counted_row (codes "ratio") 1 1001) n (row (codes "ratio" ∷ decimal n ∷ [])) at rest
  unfolding after_count
  ratio_row n at rest least most =
      let short : IsShort n = omega (arith, most) in
      plain_row symbols (a_counted_row (codes "ratio") 1 1001) n (codes "ratio") (decimal n ∷ []) at rest
      (record { names = (refl, (named n short, tt)); quiet = (refl, (quiet n short, tt)); table = λ at. refl; step = no_step n short })
      (λ left. then_in after_count (λ n. true) 1 1001 (past (codes "ratio") at + 1) n (Punctuation (words_end at (codes "ratio" ∷ decimal n ∷ [])) Stop ∷ left) refl least most short)

  -- ---- given rows

  abbrev given_5 : ℕ → ℕ → Cause → VersionName → Truth × List Token → Read GivenRow
  given_5 t n c name truth = numbers truth.1 >>= λ ls. Ok (record { turn = t; number = n; cause = c; name = name; truth = truth.0; lengths = ls.0 }, ls.1)

  abbrev given_4 : ℕ → ℕ → Cause → VersionName × List Token → Read GivenRow
  given_4 t n c name = a_truth name.1 >>= given_5 t n c name.0

  abbrev given_3 : ℕ → ℕ → Cause × List Token → Read GivenRow
  given_3 t n c = a_version_name c.1 >>= given_4 t n c.0

  abbrev given_2 : ℕ → ℕ × List Token → Read GivenRow
  given_2 t n = a_cause n.1 >>= given_3 t n.0

  abbrev given_1 : ℕ × List Token → Read GivenRow
  given_1 t = a_row_number t.1 >>= given_2 t.0

  abbrev given_words : GivenRow → List (List ℕ)
  given_words g = decimal g.turn ∷ decimal g.number ∷ cause_word g.cause ∷ decimal g.name.finder ∷ decimal g.name.place ∷ truth_word g.truth ∷ map decimal g.lengths

  given_plain : (turn : ℕ) (g : GivenRow) → IsGivenRow turn g → IsPlainRow (codes "given") (given_words g)
  given_plain turn g h =
      let name = h.name in
      record {
        names = (
          refl,
          (named g.turn h.small, (named g.number h.number, (cause_named g.cause, (named g.name.finder name.finder, (named g.name.place name.place, (truth_named g.truth, numbers_named g.lengths h.lengths)))))),
        );
        quiet = (
          refl,
          (quiet g.turn h.small, (quiet g.number h.number, (cause_quiet g.cause, (quiet g.name.finder name.finder, (quiet g.name.place name.place, (truth_quiet g.truth, numbers_quiet g.lengths h.lengths)))))),
        );
        table = λ at. refl;
        step = no_step g.turn h.small;
      }

  pub given_spelt : (turn : ℕ) (g : GivenRow) (at : ℕ) (rest : List ℕ) → IsGivenRow turn g → Row symbols (codes "given") (a_given_row turn) g (given_row g) at rest
  given_spelt turn g at rest h =
      let p = past (codes "given") at + 1 in
      let q = past (decimal g.turn) p + 1 in
      let r = past (decimal g.number) q + 1 in
      let s = past (cause_word g.cause) r + 1 in
      let u = past (decimal g.name.finder) s + 1 in
      let v = past (decimal g.name.place) u + 1 in
      let w = past (truth_word g.truth) v + 1 in
      let e = words_end at (codes "given" ∷ given_words g) in
      plain_row symbols (a_given_row turn) g (codes "given") (given_words g) at rest (given_plain turn g h) (λ left.
      let six = word_tokens w (map decimal g.lengths) ++ Punctuation e Stop ∷ left in
      let five = Word v (truth_word g.truth) ∷ six in
      let four = Word s (decimal g.name.finder) ∷ Word u (decimal g.name.place) ∷ five in
      let three = Word r (cause_word g.cause) ∷ four in
      let two = Word q (decimal g.number) ∷ three in
      then_the_number given_1 turn p g.turn two h.turn h.small
      ∙ then_row_number (given_2 g.turn) q g.number three h.number
      ∙ ap (λ (x : Read Cause). x >>= given_3 g.turn g.number) (cause_back g.cause r four)
      ∙ ap (λ (x : Read VersionName). x >>= given_4 g.turn g.number g.cause) (version_name_back g.name s five h.name)
      ∙ ap (λ (x : Read Truth). x >>= given_5 g.turn g.number g.cause g.name) (truth_back g.truth v six)
      ∙ ap (λ (x : Read (List ℕ)). x >>= λ ls. Ok (record { turn = g.turn; number = g.number; cause = g.cause; name = g.name; truth = g.truth; lengths = ls.0 }, ls.1)) (numbers_back w g.lengths e left h.lengths))

  -- ---- finder rows

  abbrev end_2 : FinderEnd × List Token → Read FinderEnd
  end_2 x = the_sign Stop x.1 >>= λ stop. Ok (x.0, stop.1)

  pub finder_spelt : (finder : ℕ) (e : FinderEnd) (at : ℕ) (rest : List ℕ) → IsShort finder → Row symbols (codes "finder") (a_finder_row finder) e (row (codes "finder" ∷ decimal finder ∷ end_word e ∷ [])) at rest
  finder_spelt finder e at rest h =
      let p = past (codes "finder") at + 1 in
      let q = past (decimal finder) p + 1 in
      let ws = decimal finder ∷ end_word e ∷ [] in
      let stop = words_end at (codes "finder" ∷ decimal finder ∷ end_word e ∷ []) in
      plain_row symbols (a_finder_row finder) e (codes "finder") (decimal finder ∷ end_word e ∷ []) at rest
      (record { names = (refl, (named finder h, (end_named e, tt))); quiet = (refl, (quiet finder h, (end_quiet e, tt))); table = λ at. refl; step = no_step finder h }) (λ left.
      let one = Word q (end_word e) ∷ Punctuation stop Stop ∷ left in
      then_the_number (λ f. an_end f.1 >>= end_2) finder p finder one refl h
      ∙ ap (λ (x : Read FinderEnd). x >>= end_2) (end_back e q (Punctuation stop Stop ∷ left)))

  -- ---- marks

  abbrev mark_3 : ℕ → VersionName → Truth × List Token → Read MarkRow
  mark_3 k name truth = the_sign Stop truth.1 >>= λ stop. Ok (record { line = k; name = name; truth = truth.0 }, stop.1)

  abbrev mark_2 : ℕ → VersionName × List Token → Read MarkRow
  mark_2 k name = a_truth name.1 >>= mark_3 k name.0

  abbrev mark_1 : ℕ × List Token → Read MarkRow
  mark_1 k = a_version_name k.1 >>= mark_2 k.0

  abbrev mark_words : MarkRow → List (List ℕ)
  mark_words m = decimal m.line ∷ decimal m.name.finder ∷ decimal m.name.place ∷ truth_word m.truth ∷ []

  mark_plain : (line : ℕ) (m : MarkRow) → IsMarkRow line m → IsPlainRow (codes "mark") (mark_words m)
  mark_plain line m h =
      let name = h.name in
      record {
        names = (refl, (named m.line h.small, (named m.name.finder name.finder, (named m.name.place name.place, (truth_named m.truth, tt)))));
        quiet = (refl, (quiet m.line h.small, (quiet m.name.finder name.finder, (quiet m.name.place name.place, (truth_quiet m.truth, tt)))));
        table = λ at. refl;
        step = no_step m.line h.small;
      }

  pub mark_spelt : (line : ℕ) (m : MarkRow) (at : ℕ) (rest : List ℕ) → IsMarkRow line m → Row symbols (codes "mark") (a_mark_row line) m (mark_row m) at rest
  mark_spelt line m at rest h =
      let p = past (codes "mark") at + 1 in
      let q = past (decimal m.line) p + 1 in
      let r = past (decimal m.name.finder) q + 1 in
      let s = past (decimal m.name.place) r + 1 in
      let e = words_end at (codes "mark" ∷ mark_words m) in
      plain_row symbols (a_mark_row line) m (codes "mark") (mark_words m) at rest (mark_plain line m h) (λ left.
      let three = Punctuation e Stop ∷ left in
      let two = Word s (truth_word m.truth) ∷ three in
      let one = Word q (decimal m.name.finder) ∷ Word r (decimal m.name.place) ∷ two in
      then_the_number mark_1 line p m.line one h.line h.small
      ∙ ap (λ (x : Read VersionName). x >>= mark_2 m.line) (version_name_back m.name q two h.name)
      ∙ ap (λ (x : Read Truth). x >>= mark_3 m.line m.name) (truth_back m.truth s three))

  -- ---- the end

  with_limit : (ℕ → Outcome) → Read ℕ → Read Outcome
  with_limit ended r = (r >>= λ n. Ok (ended n.0, n.1)) >>= λ o. the_sign Stop o.1 >>= λ stop. Ok (o.0, stop.1)

  limit_plain : (word : List ℕ) (n : ℕ) → is_name word ≡ true → QuietWord word → same_text (codes "instance") word ≡ false → IsShort n → IsPlainRow (codes "end") (word ∷ decimal n ∷ [])
  limit_plain word n name silent step h =
      record { names = (refl, (name, (named n h, tt))); quiet = (refl, (silent, (quiet n h, tt))); table = λ at. refl; step = step }

  pub end_row_part : (o : Outcome) (at : ℕ) (rest : List ℕ) → IsShortOutcome o → Row symbols (codes "end") an_end_row o (row (codes "end" ∷ outcome_words o)) at rest
  unfolding with_limit
  end_row_part outcome.Proof at rest h =
      plain_row symbols an_end_row outcome.Proof (codes "end") (codes "proof" ∷ []) at rest (record { names = (refl, (refl, tt)); quiet = (refl, (refl, tt)); table = λ at. refl; step = refl }) (λ left. refl)
  end_row_part outcome.SosEmpty at rest h =
      plain_row symbols an_end_row outcome.SosEmpty (codes "end") (codes "sos_empty" ∷ []) at rest (record { names = (refl, (refl, tt)); quiet = (refl, (refl, tt)); table = λ at. refl; step = refl }) (λ left. refl)
  end_row_part (outcome.GivenLimit n) at rest h =
      let ws = codes "given_limit" ∷ decimal n ∷ [] in
      plain_row symbols an_end_row (outcome.GivenLimit n) (codes "end") ws at rest (limit_plain (codes "given_limit") n refl refl refl h) (λ left.
      ap (with_limit (λ n. outcome.GivenLimit n)) (row_number_back (past (codes "given_limit") (past (codes "end") at + 1) + 1) n (Punctuation (words_end at (codes "end" ∷ ws)) Stop ∷ left) h))
  end_row_part (outcome.KeptLimit n) at rest h =
      let ws = codes "kept_limit" ∷ decimal n ∷ [] in
      plain_row symbols an_end_row (outcome.KeptLimit n) (codes "end") ws at rest (limit_plain (codes "kept_limit") n refl refl refl h) (λ left.
      ap (with_limit (λ n. outcome.KeptLimit n)) (row_number_back (past (codes "kept_limit") (past (codes "end") at + 1) + 1) n (Punctuation (words_end at (codes "end" ∷ ws)) Stop ∷ left) h))
  end_row_part (outcome.WorkLimit n) at rest h =
      let ws = codes "work_limit" ∷ decimal n ∷ [] in
      plain_row symbols an_end_row (outcome.WorkLimit n) (codes "end") ws at rest (limit_plain (codes "work_limit") n refl refl refl h) (λ left.
      ap (with_limit (λ n. outcome.WorkLimit n)) (row_number_back (past (codes "work_limit") (past (codes "end") at + 1) + 1) n (Punctuation (words_end at (codes "end" ∷ ws)) Stop ∷ left) h))
