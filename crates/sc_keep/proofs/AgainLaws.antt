-- The clauses that come again have numbers.
use Rattle.std.proofs.Common.{◌≡◌, ◌≢◌, sym, subst, ℕ, ◌⊎◌, inl, inr, Bool, true, false, List, [], ◌∷◌, ◌++◌, Some, arith}
use Rattle.std.specs.List.{Contains}
use Rattle.std.proofs.lemmas.List.Elements.{All-contains}
use Rattle.sc_term.specs.declared.Clause.{Clause}
use Rattle.sc_term.specs.declared.Line.{Line}
use Rattle.sc_term.specs.declared.Numbered.{Numbered}
use Rattle.sc_term.specs.Numbering.{numbered}
use Rattle.sc_input_rules.specs.Problem.{Stated}
use Rattle.sc_core_rules.specs.declared.fate.Fate.{Fate}
use Rattle.sc_core_rules.specs.declared.fate.Processed.{Processed}
use Rattle.sc_core_rules.specs.Order.{With}
use Rattle.sc_core_rules.specs.Rewriting.{HasRedex}
use Rattle.sc_core_rules.specs.Book.{Book, IsSound, next_number, numbered_clauses, with_deleted}
use Rattle.sc_core_rules.specs.Processing.{AreOthers, with_kept, Keeps, Sweeps, MeetsFate, Processes, only_fate}
use Rattle.sc_core_rules.proofs.DerivedBook.{all_stand}
use Rattle.sc_core_rules.proofs.FilterLaws.{in_first}
use Rattle.sc_term.proofs.ContainsLaws.{first_or_later, at_first, later}
use Rattle.sc_core_rules.proofs.ProcessLaws.{Becomes}
use Rattle.sc_core_rules.proofs.SoundLaws.{deleted_sound, kept_sound}
use Rattle.sc_core_rules.proofs.SoundProcessing.{where_either}
use Rattle.sc_keep.specs.Sweep.{numbers}

-- the number is that of a clause
abbrev pub HasNumber : Stated → Book → ℕ → Type 0
HasNumber problem book n = (c : Clause) × (numbered (numbered_clauses problem book) n ≡ Some c)

numbered_one : (ps : List Numbered) (n : ℕ) → Contains (numbers ps) n → (p : Numbered) × Contains ps p × (p.number ≡ n)
numbered_one [] n h = absurd (omega (arith, h.1))
numbered_one (p ∷ ps) n h = by (λ k. numbered_one ps n k) (first_or_later n p.number (numbers ps) h)
  where
    further : (q : Numbered) × Contains ps q × (q.number ≡ n) → (q : Numbered) × Contains (p ∷ ps) q × (q.number ≡ n)
    further k = (k.0, later k.0 p ps k.1, k.2)

    by : (Contains (numbers ps) n → (q : Numbered) × Contains ps q × (q.number ≡ n)) → (p.number ≡ n) ⊎ Contains (numbers ps) n → (q : Numbered) × Contains (p ∷ ps) q × (q.number ≡ n)
    by below (inl e) = (p, at_first p ps, e)
    by below (inr k) = further (below k)

none_again : (out : Processed) (fate : Fate) (n : ℕ) → out ≡ only_fate fate → ¬ Contains out.again n
none_again out fate n e h = let k = subst (λ (o : Processed). Contains o.again n) e h in omega (arith, k.1)

-- the clauses that are asked for are others
among : (asked : Bool) (book : Book) (n : Numbered) (P : Clause → Type 0) (ps : List Numbered) (p : Numbered) → With asked (AreOthers book n P ps) (ps ≡ []) → Contains ps p → Contains (book.usable ++ book.sos) p
among true book n P ps p h there = (All-contains (λ (q : Numbered). Contains (book.usable ++ book.sos) q × (q.number ≢ n.number) × P q.clause) ps p h.only there).0
among false book n P ps p h there = let k = subst (λ (qs : List Numbered). Contains qs p) h there in absurd (omega (arith, k.1))

module _ (problem : Stated) (old new : Book) (c : Clause) (lines : List Line) (turn : ℕ) (out : Processed) (sound : IsSound problem old) where
  abbrev it : Numbered
  it = record { number = next_number problem old; clause = c }

  abbrev with_it : Book
  with_it = with_kept problem old c lines turn

  swept : Sweeps problem with_it it new out → (n : ℕ) → Contains out.again n → HasNumber problem new n
  swept s n h = by s.becomes
    where
      is_sound : IsSound problem (with_deleted with_it s.subsumed)
      is_sound = deleted_sound problem with_it s.subsumed (kept_sound problem old c lines turn sound)

      found : (p : Numbered) × Contains s.rewritten p × (p.number ≡ n)
      found = numbered_one s.rewritten n (subst (λ (o : Processed). Contains o.again n) s.told h)

      stands : Contains ((with_deleted with_it s.subsumed).usable ++ (with_deleted with_it s.subsumed).sos) (found.0) → HasNumber problem with_it n
      stands k = (
        (found.0).clause,
        subst (λ m. numbered (numbered_clauses problem with_it) m ≡ Some (found.0).clause) found.2
            (all_stand problem (with_deleted with_it s.subsumed) is_sound found.0 (in_first found.0 ((with_deleted with_it s.subsumed).usable ++ (with_deleted with_it s.subsumed).sos) old.passive k)),
      )

      by : Becomes problem with_it it new s.subsumed s.rewritten → HasNumber problem new n
      by (inl k) =
          subst (λ (b : Book). HasNumber problem b n) (sym k.1.1)
          (stands (among problem.flags.back_demod (with_deleted with_it s.subsumed) it (λ d. HasRedex d it) s.rewritten found.0 k.1.0 found.1))
      by (inr k) = let none = subst (λ (ps : List Numbered). Contains ps found.0) k.1.0 found.1 in absurd (omega (arith, none.1))

  kept : Keeps problem with_it it new out → (n : ℕ) → Contains out.again n → HasNumber problem new n
  kept = where_either (λ k n h. absurd (none_again out _ n k.5 h)) swept

  met : MeetsFate problem old c lines turn new out → (n : ℕ) → Contains out.again n → HasNumber problem new n
  met = where_either (λ k n h. absurd (none_again out _ n k.1 h))
      (where_either (λ k n h. absurd (none_again out _ n k.1 h))
      (where_either (λ k n h. absurd (none_again out _ n k.1 h))
      (where_either (λ k n h. absurd (none_again out _ n k.1 h))
      (where_either (λ k n h. absurd (none_again out _ n k.2.1 h)) kept))))

pub again_numbered : (problem : Stated) (old new : Book) (lines : List Line) (turn : ℕ) (out : Processed) → IsSound problem old → Processes problem old lines turn new out
    → (n : ℕ) → Contains out.again n → HasNumber problem new n
again_numbered problem old new lines turn out sound p = met problem old new p.clause p.simplified turn out sound p.fated
