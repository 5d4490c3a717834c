-- The lists as the book that they make.
use Rattle.std.specs.Prelude.{◌<◌, ℕ, All}
use Rattle.sc_term.specs.declared.Numbered.{Numbered}
use Rattle.sc_core_rules.specs.Book.{Book, live}
use Rattle.sc_keep.specs.declared.lists.Lists.{Lists}
use Rattle.sc_keep.specs.Rivals.{IsFit}
use Rattle.sc_keep.specs.Sweep.{HaveDistinctNumbers}

abbrev pub book_of : Lists → Book
book_of lists = record { derived = lists.derived; usable = lists.usable; sos = lists.sos; passive = lists.passive; demods = lists.demods; kept = lists.kept }

-- the lists are ready for a clause of number n: the live clauses are canonical and within the limits and have distinct
-- numbers, and these and those of the demodulators are below n
pub record AreReady (lists : Lists) (n : ℕ) : Type 0 where
  pub usable : All IsFit lists.usable
  pub sos : All IsFit lists.sos
  pub passive : All IsFit lists.passive
  pub distinct : HaveDistinctNumbers (live (book_of lists))
  pub below : All (λ (p : Numbered). p.number < n) (live (book_of lists))
  pub demods_below : All (λ (p : Numbered). p.number < n) lists.demods
