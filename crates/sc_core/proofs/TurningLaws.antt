-- A turn of the program is one of the definitions.
use Rattle.std.proofs.Common.{◌≡◌, ◌∙◌, sym, ap, subst, ℕ, ◌+◌, inl, inr, List, [], ◌∷◌, ◌++◌, length, length-append, get_or, Option, Some, None, arith}
use Rattle.std.specs.Prelude.{MatchOption}
use Rattle.std.specs.List.{AllPairs, Contains}
use Rattle.std.proofs.Math.ListN.{get_or-append}
use Rattle.sc_term.specs.declared.Numbered.{Numbered}
use Rattle.sc_input_rules.specs.Problem.{Stated}
use Rattle.sc_core_rules.specs.declared.row.GivenRow.{GivenRow}
use Rattle.sc_core_rules.specs.declared.row.Outcome.{Outcome}
use Rattle.sc_core_rules.specs.Selection.{Seen, IsGuide}
use Rattle.sc_core_rules.specs.Book.{Book, IsSound}
use Rattle.sc_core_rules.specs.WorkList.{Finish}
use Rattle.sc_core_rules.specs.Turn.{Run, Infer, Turns, with_end, with_given, outcome_of, goal_of}
use Rattle.sc_term.proofs.ContainsLaws.{at_first}
use Rattle.sc_core_rules.proofs.FilterLaws.{in_first, in_second}
use Rattle.sc_core_rules.proofs.ProcessLaws.{live_tell}
use Rattle.sc_guide.specs.Guided.{Guided}
use Rattle.sc_core.specs.declared.choosing.GivenChoice.{GivenChoice}
use Rattle.sc_core.specs.Choice.{IsChosen}
use Rattle.sc_core.specs.Turning.{Stops, AreWorked, IsGiven}

-- the elements of a front are related as those of the whole
pub front_pairs : {X : Type 0} (R : X → X → Type 0) (xs ys : List X) → AllPairs R (xs ++ ys) → AllPairs R xs
front_pairs R xs ys h i j d below within =
    subst (λ x. R (get_or xs i d) x) (get_or-append xs ys d j within)
    (subst (λ x. R x (get_or (xs ++ ys) j d)) (get_or-append xs ys d i (omega (arith, below, within))) (h i j d below (omega (arith, within, length-append xs ys))))

-- of the clauses of sos each has a number of its own
same_in_sos : (problem : Stated) (book : Book) → IsSound problem book → (p q : Numbered) → Contains book.sos p → Contains book.sos q → p.number ≡ q.number → p ≡ q
same_in_sos problem book sound p q h k e = live_tell problem book sound p q (in_live p h) (in_live q k) e
  where
    in_live : (x : Numbered) → Contains book.sos x → Contains (book.usable ++ book.sos ++ book.passive) x
    in_live x there = in_first x (book.usable ++ book.sos) book.passive (in_second x book.usable book.sos there)

-- so the clause that moves by the number of the given one is the given one
pub moves : (problem : Stated) (old new : Book) (given : Numbered) → IsSound problem old → Contains old.sos given
    → (p : Numbered) × Contains old.sos p × (p.number ≡ given.number) × (new ≡ with_given old p) → new ≡ with_given old given
moves problem old new given sound there h = h.3 ∙ ap (with_given old) (same_in_sos problem old sound h.0 given h.1 there h.2)

-- the given clause is usable
pub moved_usable : (book new : Book) (given : Numbered) → new ≡ with_given book given → Contains new.usable given
moved_usable book new given e = subst (λ (b : Book). Contains b.usable given) (sym e) (in_second given book.usable (given ∷ []) (at_first given []))

-- what is worked in a book that is this one
pub worked_in : (problem other : Stated) (turn : ℕ) (given : Numbered) (old before new : Book) (finish : Finish) → other ≡ problem → before ≡ old
    → AreWorked other turn given before new finish → AreWorked problem turn given old new finish
worked_in problem other turn given old before new finish same e h =
    subst (λ (b : Book). AreWorked problem turn given b new finish) e (subst (λ (p : Stated). AreWorked p turn given before new finish) same h)

pub match_some : {X : Type 0} (o : Option X) (x : X) (A : Type 0) (P : X → Type 0) → o ≡ Some x → MatchOption o A P → P x
match_some o x A P e h = subst (λ z. MatchOption z A P) e h

pub match_none : {X : Type 0} (o : Option X) (A : Type 0) (P : X → Type 0) → o ≡ None → MatchOption o A P → A
match_none o A P e h = subst (λ z. MatchOption z A P) e h

module _ (problem : Stated) (run : Run) where
  -- the run ends before a clause is given
  pub stops_turns : (seen : Seen) (o : Outcome) → Stops problem run (Some o) → Turns problem run seen (with_end run o)
  stops_turns seen o (inl (empty, e)) = inl (empty, ap (with_end run) e)
  stops_turns seen o (inr (some, inl (many, e))) = inr (some, inl (many, ap (with_end run) e))
  stops_turns seen o (inr (some, inr (few, (many, e)))) = inr (some, inr (few, inl (many, ap (with_end run) e)))

  -- a clause is given
  goes_turns : (seen : Seen) (new : Run) → Stops problem run None → Infer problem (length run.given + 1) run seen new → Turns problem run seen new
  goes_turns seen new h infer = let room = h.2 in inr (h.0, inr (h.1, inr ((λ many. omega (arith, many, room)), infer)))

  module _ (guide : Guided) (choice : GivenChoice) (new : Run) (guides : IsGuide problem guide.seen guide.name guide.version)
      (chosen : IsChosen problem guide (length run.given + 1) run.book.sos choice) (given : IsGiven problem (length run.given + 1) choice run new) where
    infers : Infer problem (length run.given + 1) run guide.seen new
    infers = record {
      name = guide.name;
      guide = guide.version;
      guides = guides;
      given = choice.given;
      cause = choice.row.cause;
      selects = chosen.selects;
      truth = choice.row.truth;
      marked = chosen.row.marked;
      sites = given.worked.sites;
      are_sites = given.worked.are_sites;
      book = given.book;
      finish = given.finish;
      works = given.worked.works;
      goes_to = given.goes_to ∙ ap with_row chosen.row.row;
    }
      where
        with_row : GivenRow → Run
        with_row row = record {
          book = given.book;
          given = run.given ++ row ∷ [];
          ended = outcome_of (length run.given + 1) given.finish;
          goal = goal_of given.finish;
        }

  pub given_turns : (guide : Guided) (turn : ℕ) (choice : GivenChoice) (new : Run) → IsGuide problem guide.seen guide.name guide.version → turn ≡ length run.given + 1
      → Stops problem run None → IsChosen problem guide turn run.book.sos choice → IsGiven problem turn choice run new → Turns problem run guide.seen new
  given_turns guide turn choice new guides same_turn room chosen given =
      goes_turns guide.seen new room
      (infers guide choice new guides (subst (λ (t : ℕ). IsChosen problem guide t run.book.sos choice) same_turn chosen)
      (subst (λ (t : ℕ). IsGiven problem t choice run new) same_turn given))
