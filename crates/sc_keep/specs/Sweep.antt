-- The clauses that a new one subsumes or rewrites, lists without the clauses of given numbers, and what is deleted.
use Rattle.std.specs.Prelude.{◌≡◌, ◌≢◌, ℕ, Bool, true, List, [], map, filter, not, nat_eq}
use Rattle.std.specs.List.{list_any, IsDistinct}
use Rattle.sc_term.specs.declared.Clause.{Clause}
use Rattle.sc_term.specs.declared.Numbered.{Numbered}
use Rattle.sc_term.specs.Subsumption.{Subsumes}
use Rattle.sc_input_rules.specs.declared.settings.Flags.{Flags}
use Rattle.sc_core_rules.specs.Order.{Where, With}
use Rattle.sc_core_rules.specs.Rewriting.{HasRedex, BecomesDemodulator}
use Rattle.sc_core_rules.specs.Book.{Book, with_deleted}
use Rattle.sc_core_rules.specs.Processing.{AreOthers, with_demodulator}

-- p is another clause than n, which subsumes it
abbrev pub IsOtherSubsumed : Numbered → Numbered → Type 0
IsOtherSubsumed n p = (p.number ≢ n.number) × Subsumes n.clause p.clause

-- p is another clause than n, and has a redex by it
abbrev pub IsOtherReducible : Numbered → Numbered → Type 0
IsOtherReducible n p = (p.number ≢ n.number) × HasRedex p.clause n

abbrev pub numbers : List Numbered → List ℕ
numbers ps = map (λ (p : Numbered). p.number) ps

-- the clauses without those of the numbers
abbrev pub without_numbers : List ℕ → List Numbered → List Numbered
without_numbers gone ps = filter (λ (p : Numbered). not (list_any (nat_eq p.number) gone)) ps

-- no two of the clauses have one number
abbrev pub HaveDistinctNumbers : List Numbered → Type 0
HaveDistinctNumbers ps = IsDistinct nat_eq (numbers ps)

-- where it is asked for, the clauses of usable and sos other than n of which P holds are deleted; gone are their numbers,
-- in rising order
pub record Deletes (asked : Bool) (P : Clause → Type 0) (old : Book) (n : Numbered) (new : Book) (gone : List ℕ) : Type 0 where
  pub others : List Numbered
  pub are_others : With asked (AreOthers old n P others) (others ≡ [])
  pub told : gone ≡ numbers others
  pub deleted : new ≡ with_deleted old others

-- n joins the demodulators, where it becomes one, and the clauses that have a redex by it are deleted where that is asked
-- for; again are their numbers, in rising order
pub record Demodulates (flags : Flags) (old : Book) (n : Numbered) (new : Book) (again : List ℕ) : Type 0 where
  pub rewritten : List Numbered
  pub told : again ≡ numbers rewritten
  pub becomes :
      Where ((flags.dynamic_demod ≡ true) × BecomesDemodulator n.clause)
      (With flags.back_demod (AreOthers old n (λ c. HasRedex c n) rewritten) (rewritten ≡ []) × (new ≡ with_demodulator (with_deleted old rewritten) n))
      ((rewritten ≡ []) × (new ≡ old))
