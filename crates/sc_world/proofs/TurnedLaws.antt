-- A turn of a run under way: the rows that it leaves, and how many more turns there may be.
use Rattle.std.proofs.Common.{◌≡◌, ◌∙◌, sym, ap, subst, refl, ℕ, ◌+◌, ◌-◌, ◌<◌, ◌≤◌, inl, inr, List, [], ◌∷◌, ◌++◌, length, length-append, map, take, Option, Some, None, arith}
use Rattle.std.specs.List.{AllByRecursion}
use Rattle.std.proofs.lemmas.List.{take_all, take-append-le}
use Rattle.sc_term.proofs.SubstitutionLaws.{all_join}
use Rattle.sc_input_rules.specs.Problem.{Stated}
use Rattle.sc_interp.specs.Versions.{ClaimedStructure}
use Rattle.sc_core_rules.specs.declared.row.GivenRow.{GivenRow}
use Rattle.sc_core_rules.specs.declared.row.Outcome.{Outcome}
use Rattle.sc_core_rules.specs.declared.row.Outcome.TheVariants as outcome
use Rattle.sc_core_rules.specs.Selection.{Seen}
use Rattle.sc_core_rules.specs.WorkList.{Finish, Done, Found, TooMany}
use Rattle.sc_core_rules.specs.Turn.{Run, Turns, Infer, outcome_of, with_end}
use Rattle.sc_worker.specs.FinderList.{versions_of}
use Rattle.sc_world.specs.Recorded.{SeesAll, turns_went}
use Rattle.sc_world.specs.Underway.{turns_left}

-- ---- rows

-- the row is of one of so many turns
abbrev pub IsBy : ℕ → GivenRow → Type 0
IsBy n row = row.turn ≤ n

later : (m n : ℕ) → m ≤ n → (rows : List GivenRow) → AllByRecursion (IsBy m) rows → AllByRecursion (IsBy n) rows
later m n le [] h = tt
later m n le (row ∷ rows) h = let first : row.turn ≤ m = h.0 in (omega (arith, le, first), later m n le rows h.1)

-- a row tells the same, where there is one answer more than the turns before it
pub still_sees : (answers : List (Option ClaimedStructure)) (a : Option ClaimedStructure) (n : ℕ) → n ≤ length answers + 1
    → (rows : List GivenRow) → AllByRecursion (IsBy n) rows → AllByRecursion (SeesAll answers) rows → AllByRecursion (SeesAll (answers ++ a ∷ [])) rows
still_sees answers a n le [] b h = tt
still_sees answers a n le (row ∷ rows) b h =
    let turn : row.turn ≤ n = b.0 in
    let same : take (row.turn - 1) (answers ++ a ∷ []) ≡ take (row.turn - 1) answers = take-append-le (row.turn - 1) answers (a ∷ []) (omega (arith, le, turn)) in
    (h.0 ∙ ap (λ (front : List (Option ClaimedStructure)). length (versions_of front) ∷ []) (sym same), still_sees answers a n le rows b.1 h.1)

-- ---- a turn

-- what a turn keeps of the rows, and that the run went on after as many turns as there were rows, if it has ended, and
-- after one more, if it goes on; fewer turns are left
pub record IsAfter (problem : Stated) (answers : List (Option ClaimedStructure)) (old new : Run) : Type 0 where
  pub looks : AllByRecursion (SeesAll answers) new.given
  pub turns : AllByRecursion (IsBy (length new.given)) new.given
  pub few : length new.given ≤ problem.params.max_given
  pub over : (o : Outcome) → new.ended ≡ Some o → turns_went o (length new.given) ≡ length old.given
  pub on : new.ended ≡ None → length new.given ≡ length old.given + 1
  pub left : turns_left problem.params.max_given new.ended (length new.given) < turns_left problem.params.max_given old.ended (length old.given)

module _ (problem : Stated) (answers : List (Option ClaimedStructure)) (seen : Seen) (sees : seen ≡ versions_of answers ∷ []) (old new : Run)
    (fewer : length answers ≤ length old.given) (going : old.ended ≡ None)
    (looks : AllByRecursion (SeesAll answers) old.given) (turns : AllByRecursion (IsBy (length old.given)) old.given) (few : length old.given ≤ problem.params.max_given) where
  left_at : (o : Option Outcome) → o ≡ None → turns_left problem.params.max_given o (length old.given) ≡ problem.params.max_given + 1 - length old.given
  left_at None e = refl
  left_at (Some o) e = cc

  some_left : 0 < turns_left problem.params.max_given old.ended (length old.given)
  some_left = let e = left_at old.ended going in omega (arith, few, e)

  ended_by : (o : Outcome) → turns_went o (length old.given) ≡ length old.given → IsAfter problem answers old (with_end old o)
  ended_by o rows = record {
    looks = looks;
    turns = turns;
    few = few;
    over = λ other e. let same : o ≡ other = cc in subst (λ (p : Outcome). turns_went p (length old.given) ≡ length old.given) same rows;
    on = λ e. absurd (cc);
    left = some_left;
  }

  module _ (i : Infer problem (length old.given + 1) old seen new) (below : ¬ (length old.given ≡ problem.params.max_given)) where
    abbrev row : GivenRow
    row = record { turn = length old.given + 1; number = i.given.number; cause = i.cause; name = i.name; truth = i.truth; lengths = map (λ (vs : List ClaimedStructure). length vs) seen }

    rows : new.given ≡ old.given ++ row ∷ []
    rows = ap (λ (run : Run). run.given) i.goes_to

    count : length new.given ≡ length old.given + 1
    count = ap (λ (l : List GivenRow). length l) rows ∙ length-append old.given (row ∷ [])

    row_sees : SeesAll answers row
    row_sees =
        let whole : take (length old.given + 1 - 1) answers ≡ answers = take_all (length old.given + 1 - 1) answers (omega (arith, fewer)) in
        ap (map (λ (vs : List ClaimedStructure). length vs)) sees ∙ ap (λ (front : List (Option ClaimedStructure)). length (versions_of front) ∷ []) (sym whole)

    -- after the turn the run has so ended, or goes on
    over_by : (finish : Finish) (o : Outcome) → outcome_of (length old.given + 1) finish ≡ Some o → turns_went o (length old.given + 1) ≡ length old.given
    over_by Done o e = absurd (cc)
    over_by (Found k) o e =
        let same : outcome.Proof ≡ o = cc in
        let less : length old.given + 1 - 1 ≡ length old.given = omega arith in
        subst (λ (p : Outcome). turns_went p (length old.given + 1) ≡ length old.given) same less
    over_by TooMany o e =
        let same : outcome.WorkLimit (length old.given + 1) ≡ o = cc in
        let less : length old.given + 1 - 1 ≡ length old.given = omega arith in
        subst (λ (p : Outcome). turns_went p (length old.given + 1) ≡ length old.given) same less

    left_by : (finish : Finish) (n : ℕ) → n ≡ length old.given + 1
        → turns_left problem.params.max_given (outcome_of (length old.given + 1) finish) n < turns_left problem.params.max_given old.ended (length old.given)
    left_by Done n e = let before = left_at old.ended going in omega (arith, few, before, e)
    left_by (Found k) n e = some_left
    left_by TooMany n e = some_left

    ends : new.ended ≡ outcome_of (length old.given + 1) i.finish
    ends = ap (λ (run : Run). run.ended) i.goes_to

    given_one : IsAfter problem answers old new
    given_one = record {
      looks = subst (AllByRecursion (SeesAll answers)) (sym rows) (all_join (SeesAll answers) old.given (row ∷ []) looks (row_sees, tt));
      turns =
          subst (λ (n : ℕ). AllByRecursion (IsBy n) new.given) (sym count)
          (subst (AllByRecursion (IsBy (length old.given + 1))) (sym rows)
          (all_join (IsBy (length old.given + 1)) old.given (row ∷ []) (later (length old.given) (length old.given + 1) (omega arith) old.given turns) (omega arith, tt)));
      few = omega (arith, few, below, count);
      over = λ o e. subst (λ (n : ℕ). turns_went o n ≡ length old.given) (sym count) (over_by i.finish o (sym ends ∙ e));
      on = λ e. count;
      left =
          subst (λ (o : Option Outcome). turns_left problem.params.max_given o (length new.given) < turns_left problem.params.max_given old.ended (length old.given)) (sym ends)
          (left_by i.finish (length new.given) count);
    }

  pub after_turn : Turns problem old seen new → IsAfter problem answers old new
  after_turn (inl k) = subst (IsAfter problem answers old) (sym k.1) (ended_by outcome.SosEmpty refl)
  after_turn (inr (some, inl k)) = subst (IsAfter problem answers old) (sym k.1) (ended_by (outcome.GivenLimit (length old.given)) refl)
  after_turn (inr (some, inr (below, inl k))) = subst (IsAfter problem answers old) (sym k.1) (ended_by (outcome.KeptLimit (length old.book.kept)) refl)
  after_turn (inr (some, inr (below, inr (less, i)))) = given_one i below
