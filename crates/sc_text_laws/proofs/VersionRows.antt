-- Versions are read back.
use Rattle.std.proofs.Common.{◌≡◌, ◌∙◌, sym, ap, refl, ℕ, ◌+◌, ◌≤◌, Bool, true, false, ◌&&◌, List, [], ◌∷◌, ◌++◌, map, append_assoc, Ok, Err, arith}
use Rattle.std.specs.Prelude.{◌==◌, codes, decimal, nat_le, if◌then◌else◌}
use Rattle.std.proofs.lemmas.Bool.{le-leb}
use Rattle.sc_term.specs.declared.symbol.Symbol.{Symbol}
use Rattle.sc_interp.specs.Structure.{entry_count}
use Rattle.sc_input_rules.specs.declared.fault.InputKind.TheVariants.{TooMany}
use Rattle.sc_input_rules.specs.declared.token.Token.{Token}
use Rattle.sc_input_rules.specs.declared.token.Token.TheVariants.{Word, Punctuation}
use Rattle.sc_input_rules.specs.declared.token.Sign.TheVariants.{Stop}
use Rattle.sc_input_rules.specs.Reader.{Read, ◌>>=◌, the_sign}
use Rattle.sc_input_rules.proofs.Booleans.{both_hold}
use Rattle.sc_input_rules.proofs.Taken.{Gives}
use Rattle.sc_text_run_rules.specs.ModelText.{row, table_rows, without_equality}
use Rattle.sc_text_run_rules.specs.RunText.{version_rows}
use Rattle.sc_text_run_rules.specs.RunValue.{VersionValue}
use Rattle.sc_text_run_rules.specs.RowWords.{the_row_number}
use Rattle.sc_text_run_rules.specs.VersionGrammar.{VersionRow, NextVersion, PlacedVersion, a_size, a_version_row, tables, claims, version_behind, a_version}
use Rattle.sc_text_laws.specs.Printable.{IsShort, AreShort}
use Rattle.sc_text_laws.proofs.WordTokens.{past}
use Rattle.sc_text_laws.proofs.WordRows.{words_end, fits}
use Rattle.sc_text_laws.proofs.NumberTexts.{all_digits, number_is_name}
use Rattle.sc_text_laws.proofs.StepSpelling.{quiet}
use Rattle.sc_text_laws.specs.PrintableRun.{IsPrintableVersion}
use Rattle.sc_text_laws.proofs.Parts.{Part, Row, Anything, then_part, made_part, same_text_part}
use Rattle.sc_text_laws.proofs.NumbersBack.{number_in_back, then_in, then_the_number, numbers_back}
use Rattle.sc_text_laws.proofs.RowsPass.{number_no_step}
use Rattle.sc_text_laws.proofs.PlainRows.{IsPlainRow, IsNoStepWord, numbers_named, numbers_quiet, plain_row}
use Rattle.sc_text_laws.proofs.TableRows.{AreTableSymbols, tables_part}

-- a version that may stand there, among so many lists
pub record MayFollow (symbols : List Symbol) (lists : ℕ) (next : NextVersion) (v : PlacedVersion) : Type 0 where
  pub from : next.finder ≤ v.finder
  pub most : v.finder ≤ lists
  pub at : v.place ≡ (if v.finder == next.finder then next.place else 0)
  pub finder : IsShort v.finder
  pub place : IsShort v.place
  pub version : IsPrintableVersion symbols v.version

abbrev pub placed_text : List Symbol → PlacedVersion → List ℕ
placed_text symbols v = version_rows symbols v.finder v.place v.version

module _ (symbols : List Symbol) where
  size_back : (at n : ℕ) (ts : List Token) → 1 ≤ n → n ≤ 8 → entry_count symbols n ≤ 1048576 → Gives (a_size symbols (Word at (decimal n) ∷ ts)) n ts
  size_back at n ts least most few =
      let whole = Word at (decimal n) ∷ ts in
      ap (λ (r : Read ℕ). r >>= λ size. elim (nat_le (entry_count symbols size.0) 1048576) as (λ _. Read ℕ) [ true ↦ Ok size | false ↦ Err (record { left = whole; kind = TooMany }) ])
      (number_in_back (λ m. true) 1 8 at n ts refl least most (omega (arith, most)))
      ∙ ap (λ (b : Bool). elim b as (λ _. Read ℕ) [ true ↦ Ok (n, ts) | false ↦ Err (record { left = whole; kind = TooMany }) ]) (le-leb (entry_count symbols n) 1048576 few)

  -- ---- the row of a version

  abbrev row_3 : ℕ → ℕ → ℕ × List Token → Read VersionRow
  row_3 f k size = the_sign Stop size.1 >>= λ stop. Ok (record { finder = f; place = k; size = size.0 }, stop.1)

  abbrev row_2 : ℕ → ℕ × List Token → Read VersionRow
  row_2 f k = a_size symbols k.1 >>= row_3 f k.0

  abbrev row_1 : NextVersion → ℕ × List Token → Read VersionRow
  row_1 next f = the_row_number (if f.0 == next.finder then next.place else 0) f.1 >>= row_2 f.0

  abbrev row_words : PlacedVersion → List (List ℕ)
  row_words v = decimal v.finder ∷ decimal v.place ∷ decimal v.version.size ∷ []

  row_plain : (lists : ℕ) (next : NextVersion) (v : PlacedVersion) → MayFollow symbols lists next v → IsShort v.version.size → IsPlainRow (codes "version") (row_words v)
  row_plain lists next v h short =
      record {
        names = (refl, (number_is_name v.finder (fits v.finder h.finder), (number_is_name v.place (fits v.place h.place), (number_is_name v.version.size (fits v.version.size short), tt))));
        quiet = (refl, (quiet v.finder h.finder, (quiet v.place h.place, (quiet v.version.size short, tt))));
        table = λ at. refl;
        step = number_no_step v.finder (all_digits v.finder (fits v.finder h.finder));
      }

  abbrev the_row : PlacedVersion → VersionRow
  the_row v = record { finder = v.finder; place = v.place; size = v.version.size }

  row_part : (lists : ℕ) (next : NextVersion) (v : PlacedVersion) (at : ℕ) (rest : List ℕ) → MayFollow symbols lists next v → Row symbols (codes "version") (a_version_row symbols lists next) (the_row v) (row (codes "version" ∷ row_words v)) at rest
  row_part lists next v at rest h =
      let version = h.version in
      let small = version.small in
      let short : IsShort v.version.size = omega (arith, small) in
      let test : ℕ → Bool = λ n. nat_le next.finder n && nat_le n lists in
      let p = past (codes "version") at + 1 in
      let q = past (decimal v.finder) p + 1 in
      let r = past (decimal v.place) q + 1 in
      let e = words_end at (codes "version" ∷ row_words v) in
      plain_row symbols (a_version_row symbols lists next) (the_row v) (codes "version") (row_words v) at rest (row_plain lists next v h short) (λ left.
      let three = Punctuation e Stop ∷ left in
      let two = Word r (decimal v.version.size) ∷ three in
      let one = Word q (decimal v.place) ∷ two in
      let finder = h.finder in
      then_in (row_1 next) test 0 4294967295 p v.finder one (both_hold (nat_le next.finder v.finder) (nat_le v.finder lists) (le-leb next.finder v.finder h.from) (le-leb v.finder lists h.most)) (omega arith) (omega (arith, finder)) finder
      ∙ then_the_number (row_2 v.finder) (if v.finder == next.finder then next.place else 0) q v.place two h.at h.place
      ∙ ap (λ (x : Read ℕ). x >>= row_3 v.finder v.place) (size_back r v.version.size three version.some small version.few))

  -- ---- claims

  no_step : (ns : List ℕ) → AreShort ns → IsNoStepWord (map decimal ns)
  no_step [] h = tt
  no_step (n ∷ ns) h = number_no_step n (all_digits n (fits n h.0))

  claims_part : (ns : List ℕ) (at : ℕ) (rest : List ℕ) → AreShort ns → Part symbols Anything claims ns (row (codes "claims" ∷ map decimal ns)) at rest
  claims_part ns at rest h =
      let r = plain_row symbols claims ns (codes "claims") (map decimal ns) at rest (record { names = (refl, numbers_named ns h); quiet = (refl, numbers_quiet ns h); table = λ at. refl; step = no_step ns h })
      (λ left. numbers_back (past (codes "claims") at + 1) ns (words_end at (codes "claims" ∷ map decimal ns)) left h) in
      r.part

  -- ---- a version

  abbrev behind_text : VersionValue → List ℕ
  behind_text v = table_rows (without_equality symbols) v.entries ++ row (codes "claims" ∷ map decimal v.claims)

  behind_part : (v : VersionValue) (at : ℕ) (rest : List ℕ) → AreTableSymbols (without_equality symbols) → IsPrintableVersion symbols v → Part symbols Anything (version_behind symbols v.size) v (behind_text v) at rest
  behind_part v at rest names h =
      let last = row (codes "claims" ∷ map decimal v.claims) in
      let one = tables_part symbols v.size (without_equality symbols) v.entries at (last ++ rest) names h.small h.tables in
      then_part symbols Anything Anything (tables v.size (without_equality symbols)) (λ entries. claims entries.1 >>= λ ns. Ok (record { size = v.size; entries = entries.0; claims = ns.0 }, ns.1)) v.entries v
      (table_rows (without_equality symbols) v.entries) last at rest one
      (made_part symbols Anything (λ ns. record { size = v.size; entries = v.entries; claims = ns }) claims v.claims last one.next rest (claims_part v.claims one.next rest h.claims)) (λ left m. tt)

  pub version_spelt : AreTableSymbols (without_equality symbols) → (lists : ℕ) (next : NextVersion) (v : PlacedVersion) (at : ℕ) (rest : List ℕ) → MayFollow symbols lists next v
      → Row symbols (codes "version") (a_version symbols lists next) v (placed_text symbols v) at rest
  version_spelt names lists next v at rest h =
      let head = row (codes "version" ∷ row_words v) in
      let behind = behind_text v.version in
      let r = row_part lists next v at (behind ++ rest) h in
      let one = r.part in
      let whole = then_part symbols Anything Anything (a_version_row symbols lists next) (λ r. version_behind symbols r.0.size r.1 >>= λ w. Ok (record { finder = r.0.finder; place = r.0.place; version = w.0 }, w.1)) (the_row v) v head behind at rest one
      (made_part symbols Anything (λ w. record { finder = v.finder; place = v.place; version = w }) (version_behind symbols v.version.size) v.version behind one.next rest (behind_part v.version one.next rest names h.version)) (λ left m. tt) in
      let others = (behind_part v.version one.next rest names h.version).tokens in
      record {
        part = same_text_part symbols Anything (a_version symbols lists next) v (head ++ behind) (placed_text symbols v) at rest
            (sym (append_assoc head (table_rows (without_equality symbols) v.version.entries) (row (codes "claims" ∷ map decimal v.version.claims)))) whole;
        first = r.first;
        tail = r.tail ++ others;
        begins = ap (λ (us : List Token). us ++ others) r.begins;
      }
