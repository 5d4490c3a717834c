-- What working a candidate does to a chooser.
use Rattle.std.proofs.Common.{◌≡◌, ◌∙◌, sym, ap, subst, refl, ℕ, ◌+◌, ◌-◌, ◌<◌, ◌≤◌, ◌⊎◌, inl, inr, Bool, true, false, List, [], ◌∷◌, length, take, get_or, Option, Some, slice_get, arith}
use Rattle.std.specs.Prelude.{◌↔◌, IsTrue}
use Rattle.std.proofs.lemmas.Bool.{cases_order}
use Rattle.std.proofs.lemmas.List.{length-append}
use Rattle.std.proofs.lemmas.Option.{slice_get_read}
use Rattle.sc_term.specs.declared.Clause.{Clause}
use Rattle.sc_term.specs.declared.Numbered.{Numbered}
use Rattle.sc_term.specs.Clause.{weight}
use Rattle.sc_input_rules.specs.Problem.{Stated}
use Rattle.sc_input_rules.specs.WellFormed.{IsOver, IsProblem}
use Rattle.sc_interp.specs.declared.plain.Claim.{Claim}
use Rattle.sc_interp.specs.Structure.{Structure}
use Rattle.sc_cells.specs.Cells.{cell_count}
use Rattle.sc_worker.specs.declared.worked.Worked.{Worked}
use Rattle.sc_worker.specs.declared.worked.Worked.TheVariants.{Joined, Skipped, Done, Wide}
use Rattle.sc_worker.specs.FinderList.{with_claim}
use Rattle.sc_worker.specs.Choosing.{IsWorked}
use Rattle.sc_worker.specs.Trying.{IsStep}
use Rattle.sc_worker.specs.Keeping.{light_from, choice_of, AreClaimsOver, IsChooser}
use Rattle.sc_worker.specs.Present.{IsPresent}
use Rattle.sc_worker.proofs.LightLaws.{next_of}
use Rattle.sc_worker.proofs.TryingLaws.{claims_over, input_over}

-- where there aren't too many cells, they fit
pub cells_fit : (wide : Bool) (count : ℕ) → (IsTrue wide ↔ (4096 < count)) → wide ≡ false → count ≤ 4096
cells_fit wide count tells narrow = by (cases_order count 4096)
  where
    by : (count ≡ 4096) ⊎ ((count < 4096) ⊎ (4096 < count)) → count ≤ 4096
    by (inl same) = omega (arith, same)
    by (inr (inl less)) = omega (arith, less)
    by (inr (inr more)) = let is : wide ≡ true = tells.1 more in absurd (cc (is, narrow))

module _ (problem : Stated) (size budget : ℕ) (old new : List Claim) (place next room : ℕ) (c : Clause) (some : 0 < room) (here : slice_get problem.inputs place ≡ Some c) where
  abbrev one : Numbered
  one = record { number = place + 1; clause = c }

  -- the candidate at the place is the next one
  pub step_works : (worked : Worked) → weight c ≤ 100 → cell_count problem.symbols size ≤ 4096 → light_from problem.inputs (place + 1) ≡ light_from problem.inputs next
      → IsStep problem size budget (record { number = place + 1; clause = c }) old new worked → IsWorked (choice_of problem size budget old place room) (choice_of problem size budget new next (room - 1)) worked
  step_works (Joined v) light fits same h = (
    λ wide. omega (arith, wide, fits),
    record {
      candidate = one;
      others = take (room - 1) (light_from problem.inputs (place + 1));
      next = next_of problem.inputs place room c here light some;
      tried = h.0.tried;
      tables = h.0.tables;
      structure = h.0.structure;
      first = h.0.first;
      version = h.0.version;
      goes_on = λ i. record { problem = problem; size = size; budget = budget; claims = h.1 i; left = take (room - 1) (sym same i) };
    },
  )
  step_works (Skipped reason) light fits same h = (
    λ wide. omega (arith, wide, fits),
    record {
      candidate = one;
      others = take (room - 1) (light_from problem.inputs (place + 1));
      next = next_of problem.inputs place room c here light some;
      reasons = h.0;
      goes_on = λ i. record { problem = problem; size = size; budget = budget; claims = h.1 i; left = take (room - 1) (sym same i) };
    },
  )
  step_works Done light fits same h = absurd h
  step_works Wide light fits same h = absurd h

  claims_now : (worked : Worked) → IsStep problem size budget (record { number = place + 1; clause = c }) old new worked → (new ≡ with_claim old one) ⊎ (new ≡ old)
  claims_now (Joined v) h = inl h.1
  claims_now (Skipped reason) h = inr h.1
  claims_now Done h = absurd h
  claims_now Wide h = absurd h

  pub step_keeps : (worked : Worked) (wide : Bool) (present now : Option Structure) → IsChooser problem size old present place room wide → IsPresent problem size new now → IsOver problem.symbols c → next ≤ length problem.inputs
      → ((d : Clause) → slice_get problem.inputs next ≡ Some d → weight d ≤ 100)
      → IsStep problem size budget (record { number = place + 1; clause = c }) old new worked → IsChooser problem size new now next (room - 1) wide
  step_keeps worked wide present now is kept over within light h = record {
    some = is.some;
    small = is.small;
    within = within;
    light = light;
    over = all (claims_now worked h);
    kept = kept;
    few = few (claims_now worked h);
    cells = is.cells;
  }
    where
      all : (new ≡ with_claim old one) ⊎ (new ≡ old) → AreClaimsOver problem.symbols new
      all (inl e) = claims_over problem.symbols old new one is.over over e
      all (inr e) = subst (AreClaimsOver problem.symbols) (sym e) is.over

      few : (new ≡ with_claim old one) ⊎ (new ≡ old) → length new + (room - 1) ≤ 128
      few (inl e) = let long = ap length e ∙ length-append old ((record { number = place + 1; clause = c }) ∷ []) in let was = is.few in omega (arith, long, was, some)
      few (inr e) = let long = ap length e in let was = is.few in omega (arith, long, was, some)

-- ---- the next candidate

-- a candidate stands at the place, as is told, and the one after it at the other place
pub record IsAt (xs : List Clause) (place next room : ℕ) (c : Clause) (left : Bool) : Type 0 where
  pub tells : IsTrue left ↔ ((0 < room) × (place < length xs))
  pub is_left : IsTrue left
  pub here : c ≡ get_or xs place c
  pub same : light_from xs (place + 1) ≡ light_from xs next
  pub within : next ≤ length xs
  pub light : (d : Clause) → slice_get xs next ≡ Some d → weight d ≤ 100

module _ (problem : Stated) (size budget : ℕ) (old new : List Claim) (place next room : ℕ) (c : Clause) (left wide : Bool) (at : IsAt problem.inputs place next room c left)
    (present : Option Structure) (is : IsChooser problem size old present place room wide) where
  some_room : 0 < room
  some_room = (at.tells.0 at.is_left).0

  stands : slice_get problem.inputs place ≡ Some c
  stands = slice_get_read problem.inputs (length problem.inputs) place c refl (at.tells.0 at.is_left).1 at.here

  pub next_works : (worked : Worked) → wide ≡ false → IsStep problem size budget (record { number = place + 1; clause = c }) old new worked
      → IsWorked (choice_of problem size budget old place room) (choice_of problem size budget new next (room - 1)) worked
  next_works worked narrow h =
      step_works problem size budget old new place next room c some_room stands worked (is.light c stands) (cells_fit wide (cell_count problem.symbols size) is.cells narrow) at.same h

  pub next_keeps : (worked : Worked) (now : Option Structure) → IsProblem problem → IsPresent problem size new now
      → IsStep problem size budget (record { number = place + 1; clause = c }) old new worked → IsChooser problem size new now next (room - 1) wide
  next_keeps worked now such kept h =
      step_keeps problem size budget old new place next room c some_room stands worked wide present now is kept (input_over problem place c such stands) at.within at.light h
