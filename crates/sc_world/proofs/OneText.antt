-- Two texts that tell runs over the same versions, whose turns saw as many of them, are alike.
use Rattle.std.proofs.Common.{◌≡◌, ◌∙◌, sym, ap, subst, refl, ℕ, zero, suc, ◌+◌, List, [], ◌∷◌, length, map, Some, slice_get, arith}
use Rattle.std.specs.List.{AllZip}
use Rattle.sc_term.specs.declared.Clause.{Clause}
use Rattle.sc_term.specs.declared.Line.{Line}
use Rattle.sc_steps.specs.Splice.{IsSplice}
use Rattle.sc_steps.proofs.SpliceIsOne.{splice_is_one}
use Rattle.sc_input_rules.specs.Problem.{Stated}
use Rattle.sc_input_rules.specs.WellFormed.{IsProblem}
use Rattle.sc_interp.specs.declared.plain.Truth.{Truth}
use Rattle.sc_interp.specs.declared.plain.Truth.TheVariants.{True, False, Wide}
use Rattle.sc_interp.specs.declared.plain.VersionName.{VersionName}
use Rattle.sc_interp.specs.Structure.{Structure}
use Rattle.sc_interp.specs.Versions.{ClaimedStructure}
use Rattle.sc_interp.specs.Marks.{IsMark}
use Rattle.sc_core_rules.specs.declared.row.GivenRow.{GivenRow}
use Rattle.sc_core_rules.specs.declared.row.Outcome.{Outcome}
use Rattle.sc_core_rules.specs.Selection.{Seen}
use Rattle.sc_core_rules.specs.Turn.{Run}
use Rattle.sc_core_rules.specs.Run.{IsRun, prefixes, looks_after, looks_of}
use Rattle.sc_core_rules.proofs.NumberLaws.{numbered-suc}
use Rattle.sc_core_rules.proofs.ProcessLaws.{where_case}
use Rattle.sc_core_rules.proofs.RunLaws.{run_is_one}
use Rattle.sc_text_run_rules.specs.declared.run.MarkRow.{MarkRow}
use Rattle.sc_text_run_rules.specs.RunValue.{VersionValue, RunValue}
use Rattle.sc_world.specs.Recorded.{IsTold, IsMarkOf, AreMarks, TellsProof, TellsNoProof, TellsEnd, Tells}
use Rattle.sc_world.specs.OneText.{AreAlike, lengths_of, TextIsOne}
use Rattle.sc_core_rules.proofs.TurnLaws.{guide_one}

-- ---- rows with the same lengths tell the same looks

-- the looks of rows with these lengths
abbrev looks_by : Seen → List (List ℕ) → Seen → List Seen
looks_by last [] lists = last ∷ []
looks_by last (ns ∷ lengths) lists = prefixes ns lists ∷ looks_by (prefixes ns lists) lengths lists

by_lengths : (last : Seen) (rows : List GivenRow) (lists : Seen) → looks_after last rows lists ≡ looks_by last (lengths_of rows) lists
by_lengths last [] lists = refl
by_lengths last (row ∷ rows) lists = ap (λ (looks : List Seen). prefixes row.lengths lists ∷ looks) (by_lengths (prefixes row.lengths lists) rows lists)

same_looks_after : (last : Seen) (rows others : List GivenRow) (lists : Seen) → lengths_of rows ≡ lengths_of others → looks_after last rows lists ≡ looks_after last others lists
same_looks_after last rows others lists e =
    by_lengths last rows lists ∙ ap (λ (lengths : List (List ℕ)). looks_by last lengths lists) e ∙ sym (by_lengths last others lists)

same_looks : (rows others : List GivenRow) (lists : Seen) → lengths_of rows ≡ lengths_of others → looks_of rows lists ≡ looks_of others lists
same_looks rows others lists e = same_looks_after (map (λ (versions : List ClaimedStructure). []) lists) rows others lists e

-- ---- the same versions are told by the same rows

told_one : (problem : Stated) (rows others : VersionValue) (v : ClaimedStructure) → IsTold problem rows v → IsTold problem others v → rows ≡ others
told_one problem rows others v h k =
    let size : rows.size ≡ others.size = h.size ∙ sym k.size in
    let entries : rows.entries ≡ others.entries = h.entries ∙ sym k.entries in
    let claims : rows.claims ≡ others.claims = h.numbers ∙ sym k.numbers in
    λ j. record { size = size j; entries = entries j; claims = claims j }

-- where R tells x by y, lists of such are told by lists
list_told_one : {X Y : Type 0} (R : X → Y → Type 0) → ((x z : X) (y : Y) → R x y → R z y → x ≡ z) → (xs zs : List X) (ys : List Y) → AllZip R xs ys → AllZip R zs ys → xs ≡ zs
list_told_one R one [] [] ys h k = refl
list_told_one R one [] (z ∷ zs) [] h k = absurd k
list_told_one R one [] (z ∷ zs) (y ∷ ys) h k = absurd h
list_told_one R one (x ∷ xs) zs [] h k = absurd h
list_told_one R one (x ∷ xs) [] (y ∷ ys) h k = absurd k
list_told_one R one (x ∷ xs) (z ∷ zs) (y ∷ ys) h k =
    let first : x ≡ z = one x z y h.0 k.0 in
    let rest : xs ≡ zs = list_told_one R one xs zs ys h.1 k.1 in
    λ j. first j ∷ rest j

lists_told_one : (problem : Stated) (lists others : List (List VersionValue)) (versions : Seen)
    → AllZip (AllZip (IsTold problem)) lists versions → AllZip (AllZip (IsTold problem)) others versions → lists ≡ others
lists_told_one problem lists others versions =
    list_told_one (AllZip (IsTold problem)) (λ xs zs ys h k. list_told_one (IsTold problem) (told_one problem) xs zs ys h k) lists others versions

-- ---- lines have one list of marks

mark_is_one : (t : Structure) (c : Clause) (a b : Truth) → IsMark t c a → IsMark t c b → a ≡ b
mark_is_one t c True True h k = refl
mark_is_one t c True False h k = absurd (k.1 h.1)
mark_is_one t c True Wide h k = let le = h.0 in absurd (omega (arith, le, k))
mark_is_one t c False True h k = absurd (h.1 k.1)
mark_is_one t c False False h k = refl
mark_is_one t c False Wide h k = let le = h.0 in absurd (omega (arith, le, k))
mark_is_one t c Wide True h k = let le = k.0 in absurd (omega (arith, le, h))
mark_is_one t c Wide False h k = let le = k.0 in absurd (omega (arith, le, h))
mark_is_one t c Wide Wide h k = refl

module _ (name : VersionName) (v : ClaimedStructure) where
  one_row : (n : ℕ) (line : Line) (row other : MarkRow) → IsMarkOf name v n line row → IsMarkOf name v n line other → row ≡ other
  one_row n line row other h k =
      let number : row.line ≡ other.line = h.number ∙ sym k.number in
      let named : row.name ≡ other.name = h.named ∙ sym k.named in
      let truth : row.truth ≡ other.truth = mark_is_one v.tables line.clause row.truth other.truth h.truth k.truth in
      λ j. record { line = number j; name = named j; truth = truth j }

  -- the rows are the marks of lines whose numbers begin behind n
  abbrev From : ℕ → List Line → List MarkRow → Type 0
  From n lines rows = (length rows ≡ length lines) × ((k : ℕ) (line : Line) (row : MarkRow) → slice_get lines k ≡ Some line → slice_get rows k ≡ Some row → IsMarkOf name v (n + suc k) line row)

  behind : (n : ℕ) (line : Line) (lines : List Line) (row : MarkRow) (rows : List MarkRow) → From n (line ∷ lines) (row ∷ rows) → From (n + 1) lines rows
  behind n line lines row rows h =
      let many = h.0 in
      (omega (arith, many), λ k l r e f. let at : n + suc (suc k) ≡ n + 1 + suc k = omega arith in subst (λ (m : ℕ). IsMarkOf name v m l r) at (h.1 (suc k) l r e f))

  one_list : (n : ℕ) (lines : List Line) (rows others : List MarkRow) → From n lines rows → From n lines others → rows ≡ others
  one_list n [] [] [] h k = refl
  one_list n [] [] (other ∷ others) h k = let many = k.0 in absurd (omega (arith, many))
  one_list n [] (row ∷ rows) others h k = let many = h.0 in absurd (omega (arith, many))
  one_list n (line ∷ lines) [] others h k = let many = h.0 in absurd (omega (arith, many))
  one_list n (line ∷ lines) (row ∷ rows) [] h k = let many = k.0 in absurd (omega (arith, many))
  one_list n (line ∷ lines) (row ∷ rows) (other ∷ others) h k =
      let first : row ≡ other = one_row (n + suc zero) line row other (h.1 zero line row refl refl) (k.1 zero line other refl refl) in
      let rest : rows ≡ others = one_list (n + 1) lines rows others (behind n line lines row rows h) (behind n line lines other others k) in
      λ j. first j ∷ rest j

  from_marks : (lines : List Line) (rows : List MarkRow) → AreMarks name v lines rows → From 0 lines rows
  from_marks lines rows h = (
    h.one_each,
    λ k line row e f.
        let at : suc k ≡ 0 + suc k = omega arith in
        subst (λ (m : ℕ). IsMarkOf name v m line row) at (h.each (suc k) line row (numbered-suc lines k ∙ e) (numbered-suc rows k ∙ f)),
  )

  marks_are_one : (lines : List Line) (rows others : List MarkRow) → AreMarks name v lines rows → AreMarks name v lines others → rows ≡ others
  marks_are_one lines rows others h k = one_list 0 lines rows others (from_marks lines rows h) (from_marks lines others k)

-- ---- one run has one end

module _ (problem : Stated) (versions : Seen) (run : Run) (lines others : List Line) (rows marks : List MarkRow) where
  module _ (h : TellsProof problem versions run lines rows) (k : TellsProof problem versions run others marks) where
    same_goal : h.goal ≡ k.goal
    same_goal = let both : Some h.goal ≡ Some k.goal = sym h.found ∙ k.found in cc

    same_lines : lines ≡ others
    same_lines =
        splice_is_one problem.inputs run.book.derived k.goal lines others
        (subst (λ (goal : ℕ). IsSplice problem.inputs run.book.derived goal lines) same_goal h.splice) k.splice

    same_marks : rows ≡ marks
    same_marks =
        let guide = guide_one problem versions h.name k.name h.guide k.guide h.guides k.guides in
        marks_are_one k.name k.guide others rows marks
        (subst (λ (ls : List Line). AreMarks k.name k.guide ls rows) same_lines
        (subst (λ (v : ClaimedStructure). AreMarks k.name v lines rows) guide.1 (subst (λ (n : VersionName). AreMarks n h.guide lines rows) guide.0 h.marks)))
        k.marks

  same_proof : TellsProof problem versions run lines rows → TellsProof problem versions run others marks → (lines ≡ others) × (rows ≡ marks)
  same_proof h k = (same_lines h k, same_marks h k)

  no_proof : TellsNoProof lines rows → TellsNoProof others marks → (lines ≡ others) × (rows ≡ marks)
  no_proof h k = (h.no_line ∙ sym k.no_line, h.no_mark ∙ sym k.no_mark)

-- ---- one text

module _ (problem : Stated) (versions : Seen) (text other : RunValue) (such : IsProblem problem) (h : Tells problem versions text) (k : Tells problem versions other)
    (lengths : lengths_of text.given ≡ lengths_of other.given) where
  same_run : h.run ≡ k.run
  same_run =
      run_is_one problem (looks_of other.given versions) h.run k.run such
      (subst (λ (looks : List Seen). IsRun problem looks h.run) (same_looks text.given other.given versions lengths) h.is_run) k.is_run

  same_outcome : text.outcome ≡ other.outcome
  same_outcome =
      let both : Some text.outcome ≡ Some other.outcome = sym h.outcome ∙ ap (λ (run : Run). run.ended) same_run ∙ k.outcome in
      cc

  same_end : (text.proof ≡ other.proof) × (text.marks ≡ other.marks)
  same_end =
      where_case (same_proof problem versions k.run text.proof other.proof text.marks other.marks) (no_proof problem versions k.run text.proof other.proof text.marks other.marks)
      (subst (λ (run : Run). TellsEnd problem versions run other.outcome text.proof text.marks) same_run
      (subst (λ (o : Outcome). TellsEnd problem versions h.run o text.proof text.marks) same_outcome h.proof))
      k.proof

  alike : AreAlike text other
  alike = record {
    ratio = h.ratio ∙ sym k.ratio;
    lists = lists_told_one problem text.lists other.lists versions h.lists k.lists;
    given = h.given ∙ ap (λ (run : Run). run.given) same_run ∙ sym k.given;
    kept = h.kept ∙ ap (λ (run : Run). run.book.kept) same_run ∙ sym k.kept;
    outcome = same_outcome;
    proof = same_end.0;
    marks = same_end.1;
  }

pub one_text : TextIsOne
one_text problem versions text other such h k lengths = alike problem versions text other such h k lengths
