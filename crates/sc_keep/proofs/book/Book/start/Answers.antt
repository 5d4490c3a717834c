use Rattle.std.proofs.Common.{sym, subst, All, List, zip}
use Rattle.std.specs.List.{AllByRecursion}
use Rattle.sc_term.specs.declared.Clause.{Clause}
use Rattle.sc_input_rules.specs.declared.settings.Home.{Home}
use Rattle.sc_input_rules.specs.WellFormed.{FitsHome}
use Rattle.sc_keep.specs.Rivals.{IsFitClause}
use Rattle.sc_keep.specs.Lists.{book_of}
use Rattle.sc_keep.specs.State.{State, state_of}
use Rattle.sc_core_rules.specs.Start.{Starts}
use Rattle.sc_keep.proofs.BookLaws.{fits, starts_derived}
use Rattle.sc_core_rules.proofs.RunLaws.{starts_sound}
use Rattle.sc_keep.proofs.StartReady.{starts_ready}
use Rattle.sc_keep.proofs.StaysWithin.{starts_within}
use Rattle.sc_keep.proofs.book.Book.start.Goals as goal

pub start_lists-requires-clause-fit : goal.start_lists-requires-clause-fit
start_lists-requires-clause-fit c = subst (All IsFitClause) (sym c.as_slice.ensures) (fits c.self.inside.symbols c.self.inside.inputs c.self.invariant.problem.inputs)

pub start_lists-requires-clause-demodulators : goal.start_lists-requires-clause-demodulators
start_lists-requires-clause-demodulators c =
    let homes = sym c.as_slice-2.ensures in
    let inputs = sym c.as_slice.ensures in
    subst (λ (xs : List (Home × Clause)). AllByRecursion FitsHome xs) (λ i. zip (homes i) (inputs i)) c.self.invariant.problem.demodulators

pub invariant_of-self : goal.invariant_of-self
invariant_of-self c =
    let state = state_of c.self.inside.symbols c.self.inside.inputs c.self.inside.homes c.self.inside.flags c.self.inside.params c.self.inside.lists c.self.inside.whole in
    let such = c.self.invariant.problem in
    let lists = c.in-Ok.started.lists in
    let goal = c.in-Ok.started.goal in
    let starts : Starts state.problem (book_of lists) goal = c.in-Ok.ensures state.problem (sym c.as_slice.ensures) (sym c.as_slice-2.ensures) in
    record {
      problem = such;
      derived = λ _. starts_derived state.problem (book_of lists) goal such starts;
      sound = λ _. starts_sound state.problem (book_of lists) goal such starts;
      ready = λ _. starts_ready state.problem lists goal such starts;
      within = λ _. starts_within state.problem such (book_of lists) goal starts;
    }

pub returns-in-Ok-clause-starts : goal.returns-in-Ok-clause-starts
returns-in-Ok-clause-starts c =
    let state = state_of c.self.inside.symbols c.self.inside.inputs c.self.inside.homes c.self.inside.flags c.self.inside.params c.self.inside.lists c.self.inside.whole in
    subst (λ (s : State). Starts s.problem (book_of c.in-Ok.started.lists) c.in-Ok.started.goal) c.self.view_is
    (c.in-Ok.ensures state.problem (sym c.as_slice.ensures) (sym c.as_slice-2.ensures))
