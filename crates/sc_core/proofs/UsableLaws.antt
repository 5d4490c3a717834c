-- The clauses that were usable when the turn began serve as parents, by their numbers.
use Rattle.std.proofs.Common.{◌≡◌, sym, subst, ℕ, ◌+◌, ◌<◌, ◌≤◌, ◌++◌, List, length, get_or, Some, Option}
use Rattle.std.specs.List.{All, Contains}
use Rattle.sc_term.specs.declared.Clause.{Clause}
use Rattle.sc_term.specs.declared.Numbered.{Numbered}
use Rattle.sc_term.specs.Numbering.{numbered}
use Rattle.sc_term.specs.Clause.{IsCanonical, IsWithinLimits}
use Rattle.sc_input_rules.specs.Problem.{Stated}
use Rattle.sc_term.specs.Proof.{AreSteps}
use Rattle.sc_resolve.specs.Kept.{IsKept}
use Rattle.sc_steps.specs.declared.derivations.made.Made.{Made}
use Rattle.sc_steps.proofs.LineLaws.{number_within}
use Rattle.sc_core_rules.specs.Book.{Book, IsSound, numbered_clauses}
use Rattle.sc_core_rules.specs.Inference.{Inference, derived_of}
use Rattle.sc_core_rules.specs.Sites.{Site, Infers}
use Rattle.sc_core_rules.proofs.CheckLaws.{Stands, conclusion_checks}
use Rattle.sc_core_rules.proofs.DerivedBook.{all_stand}
use Rattle.sc_core_rules.proofs.DerivedRun.{parents_usable}
use Rattle.sc_core_rules.proofs.FilterLaws.{in_first}
use Rattle.sc_core_rules.proofs.SoundLaws.{at, each}
use Rattle.sc_core_rules.proofs.StepLaws.{same_some}
use Rattle.sc_core_sites.specs.Sites.{named_numbers, IsConclusion}
use Rattle.sc_core_sites.proofs.NamedLaws.{AreThere, infers_there}
use Rattle.sc_core.specs.Items.{AreUsable, IsSiteOf}
use Rattle.sc_core.specs.Parents.{AreParents, HasNumber}
use Rattle.sc_core.proofs.OverParents.{site_has, same_conclusion}

module _ (clauses : List Clause) (given : Numbered) (usable : List Numbered) where
  -- a clause with the number of a usable clause is that one
  same_clause : AreUsable clauses given usable → (p q : Numbered) → Stands clauses p → Contains usable q → p.number ≡ q.number → p ≡ q
  same_clause are p q stands there e =
      let clause = same_some (numbered clauses q.number) p.clause q.clause (subst (λ (n : ℕ). numbered clauses n ≡ Some p.clause) e stands) (at (Stands clauses) usable q are.stand there) in
      λ j. record { number = e j; clause = clause j }

  module _ (site : Site) (is : IsSiteOf clauses given usable site) where
    abbrev numbers : List ℕ
    numbers = named_numbers site

    named_clause : (n : ℕ) → Contains numbers n → HasNumber usable n
    named_clause n there = site_has given usable site is.inference.0 is.inference.1 n there

    named_within : (n : ℕ) → Contains numbers n → (0 < n) × (n ≤ length clauses)
    named_within n there =
        let p = named_clause n there in
        number_within clauses n p.0.clause (subst (λ (m : ℕ). numbered clauses m ≡ Some p.0.clause) p.2 (at (Stands clauses) usable p.0 is.are_usable.stand p.1))

    pub all_positive : All (λ n. 0 < n) numbers
    all_positive = each (λ n. 0 < n) numbers (λ n there. (named_within n there).0)

    pub all_within : All (λ n. n ≤ length clauses) numbers
    all_within = each (λ n. n ≤ length clauses) numbers (λ n there. (named_within n there).1)

    module _ (parents : List Numbered) (are : AreParents clauses numbers parents) where
      parent_usable : (p : Numbered) → Contains parents p → Contains usable p
      parent_usable p there =
          let q = named_clause p.number (at (λ r. Contains numbers r.number) parents p are.named there) in
          subst (Contains usable) (sym (same_clause is.are_usable p q.0 (at (Stands clauses) parents p are.stand there) q.1 (sym q.2))) q.1

      to_parents : AreThere usable numbers parents
      to_parents p there named =
          let q = at (HasNumber parents) numbers p.number are.all named in
          subst (Contains parents) (same_clause is.are_usable q.0 p (at (Stands clauses) parents q.0 are.stand q.1) there q.2) q.1

      pub given_kept : IsKept given.clause
      given_kept = at (λ p. IsKept p.clause) usable given is.are_usable.kept is.are_usable.listed

      pub parents_kept : All (λ p. IsKept p.clause) parents
      parents_kept = each (λ p. IsKept p.clause) parents (λ p there. at (λ q. IsKept q.clause) usable p is.are_usable.kept (parent_usable p there))

      pub given_same : All (λ p. p.number ≡ given.number → p ≡ given) parents
      given_same = each (λ p. p.number ≡ given.number → p ≡ given) parents (λ p there e. same_clause is.are_usable p given (at (Stands clauses) parents p are.stand there) is.are_usable.listed e)

      pub parents_infer : (i : Inference) × Infers given parents site i
      parents_infer = (is.inference.0, infers_there given usable parents site to_parents is.inference.0 is.inference.1)

      pub usable_conclusion : (made : Option Made) → IsConclusion given parents site made → IsConclusion given usable site made
      usable_conclusion made h = same_conclusion given parents usable site made (λ p there named. parent_usable p there) to_parents h

    -- a conclusion follows from the clauses
    pub made_checks : (made : Made) → IsConclusion given usable site (Some made) → AreSteps clauses made.lines
    made_checks made h =
        (conclusion_checks clauses h.0 (derived_of made) (λ p there. at (Stands clauses) usable p is.are_usable.stand (parents_usable given usable is.are_usable.listed site h.0 h.1 p there)) h.2).steps

-- the usable clauses of a sound book serve
pub first_usable : (problem : Stated) (book : Book) (given : Numbered) → IsSound problem book → Contains book.usable given → All (λ p. IsCanonical p.clause) book.usable
    → All (λ p. IsWithinLimits p.clause) book.usable → AreUsable (numbered_clauses problem book) given book.usable
first_usable problem book given sound there canonical within = record {
  listed = there;
  kept = λ k d less. record { canonical = canonical k d less; within = within k d less };
  stand = each (Stands (numbered_clauses problem book)) book.usable
      (λ p k. all_stand problem book sound p (in_first p (book.usable ++ book.sos) book.passive (in_first p book.usable book.sos k)));
}

-- the clauses grow, and the usable ones serve still
pub still_usable : (old new : List Clause) (given : Numbered) (usable : List Numbered) → ((n : ℕ) (c : Clause) → numbered old n ≡ Some c → numbered new n ≡ Some c)
    → AreUsable old given usable → AreUsable new given usable
still_usable old new given usable grows are = record {
  listed = are.listed;
  kept = are.kept;
  stand = λ k d within. grows (get_or usable k d).number (get_or usable k d).clause (are.stand k d within);
}
