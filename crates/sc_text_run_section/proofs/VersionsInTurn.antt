-- What reading versions gives, by what reading the first gives.
use Rattle.std.proofs.Common.{◌≡◌, ◌∙◌, sym, ap, subst, refl, ℕ, suc, ◌+◌, ◌-◌, ◌≤◌, true, false, List, [], ◌∷◌, length, replicate, Result, Ok, Err, arith}
use Rattle.std.specs.Prelude.{codes}
use Rattle.sc_term.specs.declared.symbol.Symbol.{Symbol}
use Rattle.sc_input_rules.specs.declared.token.Token.{Token}
use Rattle.sc_input_rules.specs.Reader.{Read, ◌>>=◌}
use Rattle.sc_input_rules.specs.ProblemGrammar.{next_is_word}
use Rattle.sc_input_scan.specs.declared.stop.Stop.{Stop}
use Rattle.sc_input_scan.specs.Told.{Fails, Gives}
use Rattle.sc_input_grammar.proofs.Lists.{gives_failure}
use Rattle.sc_text_run_rules.specs.RunValue.{VersionValue}
use Rattle.sc_text_run_rules.specs.RowWords.{rows_of}
use Rattle.sc_text_run_rules.specs.VersionGrammar.{PlacedVersion, NextVersion, a_version, behind_version, by_finder}
use Rattle.sc_text_run_rules.specs.RunSection.{version_lists}
use Rattle.sc_text_run_section.specs.Seen.{lists_behind, with_version}
use Rattle.sc_text_run_section.proofs.RowsInTurn.{rows_one, rows_none, rows_failed}
use Rattle.sc_text_run_section.proofs.VersionsByFinder.{none_behind, behind_empty, one_put}

abbrev Lists : Type 0
Lists = List (List VersionValue)

-- the lists with what is read behind theirs
abbrev pub placed : Lists → Read (List PlacedVersion) → Read Lists
placed ls r = r >>= λ vs. Ok (lists_behind 1 ls vs.0, vs.1)

one_placed : (ls : Lists) (v : PlacedVersion) (r : Read (List PlacedVersion)) → 1 ≤ v.finder → v.finder ≤ length ls
    → placed (with_version (v.finder - 1) v.version ls) r ≡ placed ls (r >>= λ others. Ok (v ∷ others.0, others.1))
one_placed ls v (Err e) first there = refl
one_placed ls v (Ok r) first there =
    ap (λ (ls : Lists). Ok (ls, r.1)) (one_put 1 ls (v.finder - 1) v r.0 (omega (arith, first)) (omega (arith, first, there)))

empties : (n : ℕ) (r : Read (List PlacedVersion)) → placed (replicate n []) r ≡ (r >>= λ vs. Ok (by_finder n 1 vs.0, vs.1))
empties n (Err e) = refl
empties n (Ok r) = ap (λ (ls : Lists). Ok (ls, r.1)) (behind_empty n 1 r.0)

module _ (symbols : List Symbol) (lists : ℕ) where
  abbrev pub rows : ℕ → NextVersion → List Token → Read (List PlacedVersion)
  rows = rows_of (codes "version") (a_version symbols lists) behind_version

  pub version_on : (most count : ℕ) (next later : NextVersion) (ls new : Lists) (v : PlacedVersion) (tokens after : List Token) → most - count ≡ suc (most - (count + 1))
      → next_is_word (codes "version") tokens ≡ true → a_version symbols lists next tokens ≡ Ok (v, after) → 1 ≤ v.finder → v.finder ≤ length ls
      → new ≡ with_version (v.finder - 1) v.version ls → later ≡ behind_version next v
      → placed new (rows (most - (count + 1)) later after) ≡ placed ls (rows (most - count) next tokens)
  version_on most count next later ls new v tokens after more b e first there put is =
      ap (λ (n : NextVersion). placed new (rows (most - (count + 1)) n after)) is
      ∙ ap (λ (ls : Lists). placed ls (rows (most - (count + 1)) (behind_version next v) after)) put
      ∙ one_placed ls v (rows (most - (count + 1)) (behind_version next v) after) first there
      ∙ sym (ap (placed ls) (rows_one (codes "version") (a_version symbols lists) behind_version most count next v tokens after more b e))

  pub version_end : (n : ℕ) (next : NextVersion) (ls : Lists) (tokens : List Token) → next_is_word (codes "version") tokens ≡ false → placed ls (rows n next tokens) ≡ Ok (ls, tokens)
  version_end n next ls tokens b =
      ap (placed ls) (rows_none (codes "version") (a_version symbols lists) behind_version n next tokens b) ∙ ap (λ (ls : Lists). Ok (ls, tokens)) (none_behind 1 ls)

  pub version_out : (n : ℕ) (next : NextVersion) (ls : Lists) (tokens : List Token) → n ≡ 0 → placed ls (rows n next tokens) ≡ Ok (ls, tokens)
  version_out n next ls tokens e = ap (λ (k : ℕ). placed ls (rows k next tokens)) e ∙ ap (λ (ls : Lists). Ok (ls, tokens)) (none_behind 1 ls)

  pub version_fail : {X : Type 0} (view : X → Lists × List Token) (result : Result X Stop) (e : Stop) (most count : ℕ) (next : NextVersion) (ls : Lists) (tokens : List Token) (whole : Read Lists)
      → most - count ≡ suc (most - (count + 1)) → next_is_word (codes "version") tokens ≡ true → result ≡ Err e → Fails e (a_version symbols lists next tokens)
      → placed ls (rows (most - count) next tokens) ≡ whole → Gives view result whole
  version_fail view result e most count next ls tokens whole more b is h all =
      subst (Gives view result) all
      (gives_failure view result e (rows (most - count) next tokens) (λ vs. Ok (lists_behind 1 ls vs.0, vs.1)) is
      (rows_failed (codes "version") (a_version symbols lists) behind_version e most count next tokens more b h))

  pub version_start : (ls : Lists) (tokens : List Token) → ls ≡ replicate lists [] → placed ls (rows (length tokens - 0) (record { finder = 1; place = 0 }) tokens) ≡ version_lists symbols lists tokens
  version_start ls tokens e =
      let all : length tokens - 0 ≡ length tokens = omega arith in
      let first : NextVersion = record { finder = 1; place = 0 } in
      ap (λ (k : ℕ). placed ls (rows k first tokens)) all ∙ ap (λ (ls : Lists). placed ls (rows (length tokens) first tokens)) e ∙ empties lists (rows (length tokens) first tokens)
