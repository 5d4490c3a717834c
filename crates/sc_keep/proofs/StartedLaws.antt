-- The start, put together.
use Rattle.std.proofs.Common.{◌≡◌, ◌∙◌, sym, ap, subst, ℕ, ◌+◌, ◌-◌, inl, inr, List, [], ◌∷◌, Option, Some, None, All, length}
use Rattle.std.proofs.lemmas.List.Elements.{All-nil, All-cons, All-head, All-tail}
use Rattle.sc_term.specs.declared.Clause.{Clause}
use Rattle.sc_term.specs.declared.Numbered.{Numbered}
use Rattle.sc_term.specs.Numbering.{numbered}
use Rattle.sc_input_rules.specs.declared.settings.Home.{Home}
use Rattle.sc_input_rules.specs.Problem.{Stated}
use Rattle.sc_core_rules.specs.Order.{IsFilter}
use Rattle.sc_steps.specs.declared.derivations.derivation.Derived.{Derived}
use Rattle.sc_core_rules.specs.Start.{numbered_from, input_clauses, AreAtHome, EndsWith, IsAtHome, OpensBook, Starts}
use Rattle.sc_keep.specs.Lists.{book_of}
use Rattle.sc_keep.specs.Rivals.{IsFit, IsFitClause}
use Rattle.sc_keep.specs.Start.{EndsBy, HasInput, IsFirstEnding}
use Rattle.sc_keep.specs.Started.{EndsIn, IsEndedBy}
use Rattle.sc_keep.specs.declared.start.Ending.{Ending}
use Rattle.sc_keep.specs.declared.start.Started.{Started}

fits : (n : ℕ) (cs : List Clause) → All IsFitClause cs → All IsFit (numbered_from n cs)
fits n [] h = All-nil IsFit
fits n (c ∷ cs) h =
    let here = All-head IsFitClause c cs h in
    All-cons IsFit (record { number = n; clause = c }) (numbered_from (n + 1) cs) (record { canonical = here.0; within = here.1 }) (fits (n + 1) cs (All-tail IsFitClause c cs h))

pub all_fit : (cs : List Clause) (all : List Numbered) → all ≡ numbered_from 1 cs → All IsFitClause cs → All IsFit all
all_fit cs all e h = subst (All IsFit) (sym e) (fits 1 cs h)

pub in_list : (problem : Stated) (homes : List Home) (all : List Numbered) → HasInput homes all problem → (home : Home) (ps : List Numbered) → IsFilter (λ (p : Numbered). numbered homes p.number ≡ Some home) all ps
    → AreAtHome problem home ps
in_list problem homes all has home ps h =
    subst (λ (xs : List Numbered). IsFilter (IsAtHome problem home) xs ps) (sym has.clauses_are) (subst (λ (hs : List Home). IsFilter (λ (p : Numbered). numbered hs p.number ≡ Some home) all ps) (sym has.homes_are) h)

pub has_input : (problem : Stated) (homes : List Home) (inputs : List Clause) (all seen : List Numbered) → all ≡ numbered_from 1 inputs → seen ≡ all → problem.inputs ≡ inputs → problem.homes ≡ homes → HasInput homes seen problem
has_input problem homes inputs all seen e same is homes_are = record { homes_are = homes_are; clauses_are = ap (numbered_from 1) is ∙ sym (same ∙ e) }

module _ (problem : Stated) (old new : Started) (next : ℕ) (opens : OpensBook problem (book_of old.lists)) (no_goal : old.goal ≡ None) (is : next ≡ length problem.inputs + 1) where
  ends_by : (n : Numbered) (k : ℕ) (made : Option Derived) → n.number ≡ k → EndsBy problem n made → EndsIn old k made next new → EndsWith problem (book_of old.lists) n (book_of new.lists) new.goal
  ends_by n k None e by h = inl (by, (h.0, h.1 ∙ ap (λ j. Some j) (sym e)))
  ends_by n k (Some made) e by h = inr (by.0, (by.1.0, made, by.1.1, by.1.2, h.0, h.1 ∙ ap (λ j. Some j) is))

  pub starts : (found : Option Ending) → IsFirstEnding problem (input_clauses problem) found → IsEndedBy old found next new → Starts problem (book_of new.lists) new.goal
  starts None never h = record { opened = book_of old.lists; opens = opens; ends = inr ((λ k. never k.0 k.1 k.2), (h.0, h.1 ∙ no_goal)) }
  starts (Some e) first h =
      record {
        opened = book_of old.lists;
        opens = opens;
        ends = inl ((first.0, first.1.listed, first.1.holds), (first.0, first.1, ends_by first.0 e.number e.made first.2 first.3 h));
      }
