use Rattle.std.proofs.Common.{◌≡◌, ◌∙◌, sym, subst, List}
use Rattle.sc_steps.specs.declared.derivations.derivation.Derived.{Derived}
use Rattle.sc_steps.specs.Derivation.{AreDerived}
use Rattle.sc_steps.proofs.DerivedLaws.{none_derived}
use Rattle.sc_input_rules.specs.Problem.{Stated}
use Rattle.sc_input_rules.specs.WellFormed.{IsProblem}
use Rattle.sc_keep.specs.declared.lists.Lists.{Lists}
use Rattle.sc_keep.specs.Lists.{book_of}
use Rattle.sc_keep.specs.State.{empty_book}
use Rattle.sc_keep.proofs.BookLaws.{none_ready, none_sound}
use Rattle.sc_keep.proofs.StaysWithin.{none_within}
use Rattle.sc_keep.proofs.book.Book.new.Goals as goal

pub invariant_of-result : goal.invariant_of-result
invariant_of-result c =
    let problem : Stated = record { symbols = c.in_ok-symbols.symbols; inputs = c.in_ok-inputs.inputs; homes = c.in_ok-homes.homes; flags = c.flags.result; params = c.params.result } in
    let lists : Lists = record { derived = c.new.result; usable = c.new-2.result; sos = c.new-3.result; passive = c.new-4.result; demods = c.new-5.result; kept = c.new-6.result } in
    let symbols = c.in_ok-symbols.ensures ∙ c.sig.ensures in
    let inputs = c.in_ok-inputs.ensures ∙ c.as_slice.ensures ∙ c.inputs.ensures in
    let homes = c.in_ok-homes.ensures ∙ c.as_slice-2.ensures ∙ c.homes.ensures in
    let same : problem ≡ c.args.problem.now = λ i. record { symbols = symbols i; inputs = inputs i; homes = homes i; flags = c.flags.ensures i; params = c.params.ensures i } in
    let none : book_of lists ≡ empty_book =
    λ i. record { derived = c.new.ensures i; usable = c.new-2.ensures i; sos = c.new-3.ensures i; passive = c.new-4.ensures i; demods = c.new-5.ensures i; kept = c.new-6.ensures i } in
    record {
      problem = subst IsProblem (sym same) c.keeps.ensures;
      derived = λ _. subst (λ (ds : List Derived). AreDerived c.in_ok-inputs.inputs ds) (sym c.new.ensures) (none_derived c.in_ok-inputs.inputs);
      sound = λ _. none_sound problem (book_of lists) none;
      ready = λ _. none_ready problem lists none;
      within = λ _. none_within problem (book_of lists) none (subst IsProblem (sym same) c.keeps.ensures);
    }
