-- A proof that is put together from derivations is one.
use Rattle.std.proofs.Common.{◌≡◌, ◌∙◌, sym, ap, refl, subst, ℕ, ◌+◌, ◌-◌, Bool, true, false, if◌then◌else◌, List, [], ◌∷◌, ◌++◌, append_assoc, length, take, slice_index, Option, Some, None, arith, inl, inr, ◌⊎◌, length-append, fold, nat_eq}
use Rattle.std.proofs.lemmas.Bool.{eqb-false, eqb-true}
use Rattle.std.specs.List.{AllByRecursion}
use Rattle.std.proofs.lemmas.List.{append-nil}
use Rattle.std.proofs.Math.ListN.{get_or-append}
use Rattle.std.proofs.Math.Seq.{get_or-append_seam}
use Rattle.sc_term.specs.declared.Clause.{Clause}
use Rattle.sc_term.specs.declared.Line.{Line}
use Rattle.sc_term.specs.declared.Step.{Step}
use Rattle.sc_term.specs.declared.Step.TheVariants.{Input, Instance, Resolve, Merge, Para, Flip}
use Rattle.sc_term.specs.Numbering.{numbered}
use Rattle.sc_term.specs.Proof.{clause_of, Follows, IsStep, AreSteps}
use Rattle.sc_steps.specs.declared.derivations.derivation.Derived.{Derived}
use Rattle.sc_steps.specs.Derivation.{IsInputAt, IsDerivedFrom}
use Rattle.sc_steps.specs.Splice.{named_by, line_of, moved, Joined, join_named, join_line, join_lines, Spliced, with_last, input_line, join_derived}
use Rattle.sc_steps.proofs.ListLaws.{some_and, mapped}
use Rattle.sc_steps.proofs.LineLaws.{number_in_whole, number_of_end, number_in_front_or_end, number_within, number_in_front, some_so, map_some, clause_in_whole, clause_of_end, steps_push, StepsFrom, steps_from}

-- ---- one line

-- the clause of line j of the derivation so far is that of the line that it has become
abbrev pub Stands : List Line → List ℕ → List Line → Type 0
Stands done became lines = (j : ℕ) (c : Clause) → clause_of done j ≡ Some c → clause_of lines (line_of became j) ≡ Some c

-- the lines `done` of a derivation have joined the proof
pub record Joins (inputs : List Clause) (done : List Line) (so : Joined) : Type 0 where
  pub steps : AreSteps inputs so.lines
  pub long : length so.became ≡ length done
  pub stands : Stands done so.became so.lines

stands_more : (done lines more : List Line) (became : List ℕ) (l : Line) (x : ℕ) → length became ≡ length done → Stands done became lines
    → clause_of (lines ++ more) x ≡ Some l.clause → Stands (done ++ l ∷ []) (became ++ x ∷ []) (lines ++ more)
stands_more done lines more became l x long stands there j c e =
    let line = mapped (λ (one : Line). one.clause) (numbered (done ++ l ∷ []) j) c e in
    elim (number_in_front_or_end done l j line.0 line.1) [
      | inl h ↦
          let within = number_within done j line.0 h in
          let old : slice_index (became ++ x ∷ []) (j - 1) ≡ slice_index became (j - 1) = get_or-append became (x ∷ []) 0 (j - 1) (omega (arith, within.0, within.1)) in
          ap (clause_of (lines ++ more)) old ∙ clause_in_whole lines more (line_of became j) c
          (stands j c (map_some (λ (one : Line). one.clause) (numbered done j) line.0 h ∙ ap Some line.2))
      | inr h ↦
          let here : j - 1 ≡ length became = omega (arith, h.0) in
          let new : slice_index (became ++ x ∷ []) (j - 1) ≡ x = ap (slice_index (became ++ x ∷ [])) here ∙ get_or-append_seam became x [] 0 in
          ap (clause_of (lines ++ more)) new ∙ there ∙ ap (λ (one : Line). Some one.clause) h.1 ∙ ap Some line.2
    ]

-- a step stays one where its lines have become others
moved_follows : (clauses inputs : List Clause) (done lines : List Line) (became : List ℕ) (c : Clause) (step : Step) → named_by step ≡ None
    → Stands done became lines → Follows clauses done c step → Follows inputs lines c (moved became step)
moved_follows clauses inputs done lines became c (Input n) other stands h = cc
moved_follows clauses inputs done lines became c (Instance j terms) other stands h =
    let of = some_and _ _ h in some_so _ _ of.0 (stands j of.0 of.1) of.2
moved_follows clauses inputs done lines became c (Resolve j a k b) other stands h =
    let left = some_and _ _ h in
    let right = some_and _ _ left.2 in
    some_so _ _ left.0 (stands j left.0 left.1) (some_so _ _ right.0 (stands k right.0 right.1) right.2)
moved_follows clauses inputs done lines became c (Merge j a) other stands h =
    let of = some_and _ _ h in some_so _ _ of.0 (stands j of.0 of.1) of.2
moved_follows clauses inputs done lines became c (Para j a side k b path) other stands h =
    let from = some_and _ _ h in
    let into = some_and _ _ from.2 in
    some_so _ _ from.0 (stands j from.0 from.1) (some_so _ _ into.0 (stands k into.0 into.1) into.2)
moved_follows clauses inputs done lines became c (Flip j a) other stands h =
    let of = some_and _ _ h in some_so _ _ of.0 (stands j of.0 of.1) of.2

-- each clause that the line names has its last line in the proof
abbrev pub HasNamed : List Clause → (ℕ → ℕ) → List Line → Step → Type 0
HasNamed clauses last lines step = (n : ℕ) (c : Clause) → named_by step ≡ Some n → numbered clauses n ≡ Some c → clause_of lines (last n) ≡ Some c

pub named_step : (step : Step) (n : ℕ) → named_by step ≡ Some n → step ≡ Input n
named_step (Input m) n e = let same : m ≡ n = cc in ap Input same
named_step (Instance j terms) n e = cc
named_step (Resolve j a k b) n e = cc
named_step (Merge j a) n e = cc
named_step (Para j a side k b path) n e = cc
named_step (Flip j a) n e = cc

pub joins_more : (clauses inputs : List Clause) (last : ℕ → ℕ) (done : List Line) (so : Joined) (l : Line) → Joins inputs done so
    → HasNamed clauses last so.lines l.step → IsStep clauses done l → Joins inputs (done ++ l ∷ []) (join_line last so l)
joins_more clauses inputs last done so l joins has step = by (named_by l.step) refl
  where
    by : (o : Option ℕ) → named_by l.step ≡ o → Joins inputs (done ++ l ∷ []) (join_named last so l o)
    by (Some n) e =
        let follows : Follows clauses done l.clause (Input n) = subst (Follows clauses done l.clause) (named_step l.step n e) step in
        let there : clause_of so.lines (last n) ≡ Some l.clause = has n l.clause e follows in
        record {
          steps = joins.steps;
          long = omega (arith, joins.long, length-append so.became (last n ∷ []), length-append done (l ∷ []));
          stands = subst (Stands (done ++ l ∷ []) (so.became ++ last n ∷ [])) (append-nil so.lines)
              (stands_more done so.lines [] so.became l (last n) joins.long joins.stands (ap (λ ls. clause_of ls (last n)) (append-nil so.lines) ∙ there));
        }
    by None e =
        let new : Line = record { step = moved so.became l.step; clause = l.clause } in
        record {
          steps = steps_push inputs so.lines new joins.steps (moved_follows clauses inputs done so.lines so.became l.clause l.step e joins.stands step);
          long = omega (arith, joins.long, length-append so.became ((length so.lines + 1) ∷ []), length-append done (l ∷ []));
          stands = stands_more done so.lines (new ∷ []) so.became l (length so.lines + 1) joins.long joins.stands (clause_of_end so.lines new);
        }

-- ---- one derivation

-- what has a clause keeps it
abbrev pub Kept : List Line → List Line → Type 0
Kept lines more = (j : ℕ) (c : Clause) → clause_of lines j ≡ Some c → clause_of more j ≡ Some c

kept_line : (last : ℕ → ℕ) (so : Joined) (l : Line) → Kept so.lines (join_line last so l).lines
kept_line last so l = by (named_by l.step)
  where
    by : (o : Option ℕ) → Kept so.lines (join_named last so l o).lines
    by (Some n) j c e = e
    by None j c e = clause_in_whole so.lines (record { step = moved so.became l.step; clause = l.clause } ∷ []) j c e

-- each of the clauses has its last line in the proof
abbrev pub Lasts : List Clause → (ℕ → Type 0) → (ℕ → ℕ) → List Line → Type 0
Lasts clauses Done last lines = (m : ℕ) (c : Clause) → Done m → numbered clauses m ≡ Some c → clause_of lines (last m) ≡ Some c

-- the line names none but those
abbrev pub NamesOnly : (ℕ → Type 0) → Line → Type 0
NamesOnly Done l = (n : ℕ) → named_by l.step ≡ Some n → Done n

joins_all : (clauses inputs : List Clause) (last : ℕ → ℕ) (Done : ℕ → Type 0) (done rest : List Line) (so : Joined) → Joins inputs done so
    → Lasts clauses Done last so.lines → AllByRecursion (NamesOnly Done) rest → StepsFrom clauses done rest
    → Joins inputs (done ++ rest) (fold (join_line last) so rest) × Kept so.lines (fold (join_line last) so rest).lines
joins_all clauses inputs last Done done [] so joins lasts names steps =
    (subst (λ ls. Joins inputs ls so) (sym (append-nil done)) joins, λ j c e. e)
joins_all clauses inputs last Done done (l ∷ rest) so joins lasts names steps =
    let kept = kept_line last so l in
    let one = joins_more clauses inputs last done so l joins (λ n c e at. lasts n c (names.0 n e) at) steps.0 in
    let all = joins_all clauses inputs last Done (done ++ l ∷ []) rest (join_line last so l) one (λ m c d e. kept (last m) c (lasts m c d e)) names.1 steps.1 in (
      subst (λ ls. Joins inputs ls (fold (join_line last) (join_line last so l) rest)) (append_assoc done (l ∷ []) rest) all.0,
      λ j c e. all.1 j c (kept j c e),
    )

names_all : (Done : ℕ → Type 0) (done rest : List Line) → ((m k : ℕ) → IsInputAt (done ++ rest) m k → Done m) → AllByRecursion (NamesOnly Done) rest
names_all Done done [] h = tt
names_all Done done (l ∷ rest) h =
    let whole = append_assoc done (l ∷ []) rest in
    let here : numbered (done ++ l ∷ rest) (length done + 1) ≡ Some l = ap (λ ls. numbered ls (length done + 1)) (sym whole)
    ∙ number_in_whole (done ++ l ∷ []) rest (length done + 1) l (number_of_end done l) in (
      λ n e. h n (length done + 1) (some_so (numbered (done ++ l ∷ rest) (length done + 1)) (λ (one : Line). one.step ≡ Input n) l here (named_step l.step n e)),
      names_all Done (done ++ l ∷ []) rest (λ m k at. h m k (subst (λ ls. IsInputAt ls m k) whole at)),
    )

-- ---- the clauses one after another

-- the proof so far has a last line for each of the clauses
pub record Keeps (inputs clauses : List Clause) (Done : ℕ → Type 0) (so : Spliced) : Type 0 where
  pub steps : AreSteps inputs so.lines
  pub lasts : Lasts clauses Done so.last so.lines

pub keeps_less : (inputs clauses : List Clause) (P Q : ℕ → Type 0) (so : Spliced) → ((m : ℕ) → Q m → P m) → Keeps inputs clauses P so → Keeps inputs clauses Q so
keeps_less inputs clauses P Q so h keeps = record { steps = keeps.steps; lasts = λ m c q e. keeps.lasts m c (h m q) e }

lasts_more : (clauses : List Clause) (Done : ℕ → Type 0) (last : ℕ → ℕ) (lines : List Line) (n k : ℕ) (c : Clause) → Lasts clauses Done last lines
    → numbered clauses n ≡ Some c → clause_of lines k ≡ Some c → Lasts clauses (λ m. (n ≡ m) ⊎ Done m) (with_last last n k) lines
lasts_more clauses Done last lines n k c lasts at there m d either e = by (nat_eq n m) refl
  where
    by : (t : Bool) → nat_eq n m ≡ t → clause_of lines (if t then k else last m) ≡ Some d
    by true z = there ∙ sym at ∙ ap (numbered clauses) (eqb-true n m z) ∙ e
    by false z = elim either [ inl same ↦ absurd (eqb-false n m z same) | inr is ↦ lasts m d is e ]

pub adds_input : (inputs clauses : List Clause) (Done : ℕ → Type 0) (so : Spliced) (n : ℕ) (c : Clause) → Keeps inputs clauses Done so
    → numbered inputs n ≡ Some c → numbered clauses n ≡ Some c
    → Keeps inputs clauses (λ m. (n ≡ m) ⊎ Done m) (record { lines = so.lines ++ input_line n c ∷ []; last = with_last so.last n (length so.lines + 1) })
adds_input inputs clauses Done so n c keeps input at = record {
  steps = steps_push inputs so.lines (input_line n c) keeps.steps input;
  lasts = lasts_more clauses Done so.last (so.lines ++ input_line n c ∷ []) n (length so.lines + 1) c
      (λ m d is e. clause_in_whole so.lines (input_line n c ∷ []) (so.last m) d (keeps.lasts m d is e)) at (clause_of_end so.lines (input_line n c));
}

nothing_stands : (lines : List Line) → Stands [] [] lines
nothing_stands lines j c e =
    let line = mapped (λ (l : Line). l.clause) (numbered [] j) c e in
    let within = number_within [] j line.0 line.1 in
    absurd (omega (arith, within.0, within.1))

pub adds_derived : (inputs clauses : List Clause) (Done : ℕ → Type 0) (so : Spliced) (n : ℕ) (d : Derived) → Keeps inputs clauses Done so
    → IsDerivedFrom (take (n - 1) clauses) d → ((m k : ℕ) → IsInputAt d.lines m k → Done m) → numbered clauses n ≡ Some d.clause
    → Keeps inputs clauses (λ m. (n ≡ m) ⊎ Done m) (join_derived so n d.lines)
adds_derived inputs clauses Done so n d keeps from names at =
    let start : Joins inputs [] (record { lines = so.lines; became = [] }) = record { steps = keeps.steps; long = refl; stands = nothing_stands so.lines } in
    let smaller : Lasts (take (n - 1) clauses) Done so.last so.lines = λ m c is e. keeps.lasts m c is (number_in_front clauses (n - 1) m c e).1 in
    let all = joins_all (take (n - 1) clauses) inputs so.last Done [] d.lines (record { lines = so.lines; became = [] }) start smaller
    (names_all Done [] d.lines names) (steps_from (take (n - 1) clauses) [] d.lines from.steps) in
    let joined : Joined = join_lines so.last so.lines d.lines in
    record {
      steps = all.0.steps;
      lasts = lasts_more clauses Done so.last joined.lines n (line_of joined.became (length d.lines)) d.clause
          (λ m c is e. all.1 (so.last m) c (keeps.lasts m c is e)) at (all.0.stands (length d.lines) d.clause from.ends);
    }
