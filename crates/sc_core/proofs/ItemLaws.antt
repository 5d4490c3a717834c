-- What one item gives, and what becomes of it.
use Rattle.std.proofs.Common.{◌≡◌, ◌≢◌, ◌∙◌, sym, ap, subst, ℕ, ◌-◌, ◌++◌, ◌∷◌, ◌⊎◌, [], inl, inr, List, All, Option, Some, None, arith}
use Rattle.std.specs.Prelude.{MatchOption}
use Rattle.std.specs.List.{Contains}
use Rattle.std.proofs.lemmas.Option.{slice_get_within, get_or_from_slice_get}
use Rattle.sc_term.specs.declared.Clause.{Clause}
use Rattle.sc_term.specs.declared.Line.{Line}
use Rattle.sc_term.specs.declared.Numbered.{Numbered}
use Rattle.sc_term.specs.declared.Step.TheVariants.{Input}
use Rattle.sc_term.specs.Numbering.{numbered}
use Rattle.sc_term.specs.Proof.{AreSteps}
use Rattle.sc_input_rules.specs.Problem.{Stated}
use Rattle.sc_steps.specs.declared.derivations.derivation.Derived.{Derived}
use Rattle.sc_steps.specs.declared.derivations.made.Made.{Made}
use Rattle.sc_steps.specs.Derivation.{last_clause}
use Rattle.sc_steps.proofs.ListLaws.{at_number}
use Rattle.sc_steps.proofs.LineLaws.{steps_push}
use Rattle.sc_core_rules.specs.declared.fate.Fate.TheVariants.{Empty}
use Rattle.sc_core_rules.specs.declared.fate.Processed.{Processed}
use Rattle.sc_core_rules.specs.Book.{Book, numbered_clauses}
use Rattle.sc_core_rules.specs.Inference.{derived_of}
use Rattle.sc_core_rules.specs.Processing.{Processes}
use Rattle.sc_core_rules.specs.WorkList.{Item, At, Again, Gives}
use Rattle.sc_core_rules.specs.Sites.{Site}
use Rattle.sc_core_rules.proofs.FilterLaws.{in_either}
use Rattle.sc_core_rules.proofs.SoundLaws.{at, each}
use Rattle.sc_core_sites.specs.Sites.{IsConclusion}
use Rattle.sc_core.specs.Items.{HasClause, IsWorked}

-- ---- an item is worked

module _ (problem : Stated) (turn : ℕ) (given : Numbered) (usable : List Numbered) (passed : Site → Type 0) (old : Book) (waiting : List ℕ) where
  pub nothing_given : (site : Site) → IsConclusion given usable site None → IsWorked problem turn given usable passed old waiting (At site) old waiting None
  nothing_given site none = inl (never, (λ i. old), (λ i. waiting))
    where
      never : (made : Derived) → ¬ Gives problem old given usable passed (At site) made
      never made (kept, gives) = none gives.0 made gives.1 gives.2

  pub made_processed : (item : Item) (made : Made) (new : Book) (out : Processed) (joined : List ℕ) → Gives problem old given usable passed item (derived_of made)
      → Processes problem old made.lines turn new out → joined ≡ waiting ++ out.again → (found : Option ℕ) → MatchOption found ((k : ℕ) → out.fate ≢ Empty k) (λ k. out.fate ≡ Empty k)
      → IsWorked problem turn given usable passed old waiting item new joined found
  made_processed item made new out joined gives processes join None fate =
      inr (out, record { made = derived_of made; gives = gives; processes = processes }, fate, join)
  made_processed item made new out joined gives processes join (Some k) fate =
      (out, record { made = derived_of made; gives = gives; processes = processes }, fate)

-- ---- numbers that wait

-- what is so of every clause is so of that of a number
pub at_its_number : {X : Type 0} (Q : X → Type 0) (xs : List X) (n : ℕ) (x : X) → All Q xs → numbered xs n ≡ Some x → Q x
at_its_number Q xs n x all e =
    let there = (at_number xs n x e).1 in
    subst Q (get_or_from_slice_get xs (n - 1) x x there) (all (n - 1) x (slice_get_within xs (n - 1) x there))

-- the numbers that join have clauses, as those that wait have still
pub all_have : (old new : List Clause) (waiting again joined : List ℕ) → ((n : ℕ) (c : Clause) → numbered old n ≡ Some c → numbered new n ≡ Some c)
    → All (HasClause old) waiting → ((n : ℕ) → Contains again n → HasClause new n) → joined ≡ waiting ++ again → All (HasClause new) joined
all_have old new waiting again joined grows were come e =
    each (HasClause new) joined (λ n there. by n (in_either n waiting again (subst (λ (ns : List ℕ). Contains ns n) e there)))
  where
    by : (n : ℕ) → Contains waiting n ⊎ Contains again n → HasClause new n
    by n (inl h) = let had = at (HasClause old) waiting n were h in (had.0, grows n had.0 had.1)
    by n (inr h) = come n h

-- ---- a clause that came back

abbrev input_line : ℕ → Clause → Line
input_line n c = record { step = Input n; clause = c }

-- the lines that are made are that line alone
pub input_lines : (n : ℕ) (c copy : Clause) (none lines : List Line) → none ≡ [] → lines ≡ none ++ input_line n copy ∷ [] → copy ≡ c → lines ≡ input_line n c ∷ []
input_lines n c copy none lines e f same = f ∙ (λ i. e i ++ input_line n (same i) ∷ [])

-- and end with the clause
pub ends_with : (n : ℕ) (c : Clause) (lines : List Line) → lines ≡ input_line n c ∷ [] → last_clause lines ≡ Some c
ends_with n c lines e = ap last_clause e

-- the clause by its `input` line
pub returned_gives : (problem : Stated) (book : Book) (given : Numbered) (usable : List Numbered) (passed : Site → Type 0) (n : ℕ) (made : Made)
    → numbered (numbered_clauses problem book) n ≡ Some made.clause → made.lines ≡ input_line n made.clause ∷ [] → Gives problem book given usable passed (Again n) (derived_of made)
returned_gives problem book given usable passed n made stands e = (made.clause, stands, (λ i. record { clause = made.clause; lines = e i }))

-- follows from the clauses
pub returned_steps : (problem : Stated) (book : Book) (given : Numbered) (usable : List Numbered) (passed : Site → Type 0) (n : ℕ) (made : Made)
    → Gives problem book given usable passed (Again n) (derived_of made) → AreSteps (numbered_clauses problem book) made.lines
returned_steps problem book given usable passed n made h =
    subst (AreSteps (numbered_clauses problem book)) (sym (ap (λ (d : Derived). d.lines) h.2))
    (steps_push (numbered_clauses problem book) [] (input_line n h.0) (λ k less. absurd (omega (arith, less))) h.1)
