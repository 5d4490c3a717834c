-- The marks of lines, one after another.
use Rattle.std.proofs.Common.{◌≡◌, ◌∙◌, sym, subst, ℕ, zero, suc, ◌+◌, List, ◌∷◌, [], ◌++◌, length, inl, inr, slice_get, Some, arith}
use Rattle.sc_term.specs.declared.Line.{Line}
use Rattle.sc_term.specs.Numbering.{numbered}
use Rattle.sc_steps.proofs.LineLaws.{in_front_or_end}
use Rattle.sc_core_rules.proofs.NumberLaws.{numbered-suc}
use Rattle.sc_interp.specs.declared.plain.VersionName.{VersionName}
use Rattle.sc_interp.specs.Versions.{ClaimedStructure}
use Rattle.sc_text_run_rules.specs.declared.run.MarkRow.{MarkRow}
use Rattle.sc_world.specs.Recorded.{IsMarkOf, AreMarks}

module _ (name : VersionName) (v : ClaimedStructure) (lines : List Line) where
  -- each row is the mark of the line at its place
  abbrev pub AreOfLines : List MarkRow → Type 0
  AreOfLines rows = (k : ℕ) (line : Line) (row : MarkRow) → slice_get lines k ≡ Some line → slice_get rows k ≡ Some row → IsMarkOf name v (k + 1) line row

  pub one_mark_more : (rows : List MarkRow) (i : ℕ) (line : Line) (row : MarkRow) → length rows ≡ i → slice_get lines i ≡ Some line
      → IsMarkOf name v (i + 1) line row → AreOfLines rows → AreOfLines (rows ++ row ∷ [])
  one_mark_more rows i line row many here mark before k other next e f = elim (in_front_or_end rows row k next f) [
    | inl h ↦ before k other next e h
    | inr h ↦ last (h.0 ∙ many) h.1
  ]
    where
      last : k ≡ i → row ≡ next → IsMarkOf name v (k + 1) other next
      last at same =
          let line_is : Some line ≡ Some other = sym here ∙ subst (λ (n : ℕ). slice_get lines n ≡ Some other) at e in
          let line_same : line ≡ other = cc in
          subst (λ (r : MarkRow). IsMarkOf name v (k + 1) other r) same
          (subst (λ (l : Line). IsMarkOf name v (k + 1) l row) line_same (subst (λ (n : ℕ). IsMarkOf name v (n + 1) line row) (sym at) mark))

  pub all_marks : (rows : List MarkRow) → length rows ≡ length lines → AreOfLines rows → AreMarks name v lines rows
  all_marks rows many each = record { one_each = many; each = by_number }
    where
      by_number : (n : ℕ) (line : Line) (row : MarkRow) → numbered lines n ≡ Some line → numbered rows n ≡ Some row → IsMarkOf name v n line row
      by_number zero line row e f = cc
      by_number (suc k) line row e f =
          let one : k + 1 ≡ suc k = omega arith in
          subst (λ (m : ℕ). IsMarkOf name v m line row) one (each k line row (sym (numbered-suc lines k) ∙ e) (sym (numbered-suc rows k) ∙ f))
