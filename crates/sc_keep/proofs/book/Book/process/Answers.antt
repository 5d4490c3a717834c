use Rattle.std.proofs.Common.{◌∙◌, sym, ap, subst, refl, ◌+◌, ◌<◌, ◌^◌, length, length-append, map, arith}
use Rattle.std.proofs.lemmas.List.{length-map}
use Rattle.sc_steps.specs.declared.derivations.derivation.Derived.{Derived}
use Rattle.sc_term.specs.Proof.{AreSteps}
use Rattle.sc_core_rules.specs.Book.{numbered_clauses}
use Rattle.sc_core_rules.specs.Processing.{Processes}
use Rattle.sc_core_rules.proofs.DerivedBook.{processes_goes_on}
use Rattle.sc_core_rules.proofs.SoundProcessing.{processes_sound}
use Rattle.sc_keep.specs.Lists.{book_of}
use Rattle.sc_keep.specs.State.{State, state_of}
use Rattle.sc_keep.proofs.AgainLaws.{again_numbered}
use Rattle.sc_keep.proofs.BookLaws.{checks_with_lists}
use Rattle.sc_keep.proofs.book.Book.process.Goals as goal

pub process_lines-requires-clause-checks : goal.process_lines-requires-clause-checks
process_lines-requires-clause-checks c =
    let state = state_of c.self.inside.symbols c.self.inside.inputs c.self.inside.homes c.self.inside.flags c.self.inside.params c.self.inside.lists c.self.inside.whole in
    let whole = ap (λ (s : State). s.whole) c.self.view_is ∙ c.requires.whole in
    checks_with_lists state.problem c.self.inside.lists c.args.made.lines (c.self.invariant.sound whole)
    (subst (λ (s : State). AreSteps (numbered_clauses s.problem s.book) c.args.made.lines) (sym c.self.view_is) c.requires.steps)

pub invariant_of-self : goal.invariant_of-self
invariant_of-self c =
    let state = state_of c.self.inside.symbols c.self.inside.inputs c.self.inside.homes c.self.inside.flags c.self.inside.params c.self.inside.lists c.self.inside.whole in
    let old = book_of c.self.inside.lists in
    let new = book_of c.process_lines.new.lists in
    let few = subst (λ (s : State). length s.problem.inputs + length s.book.derived + 2 < 2 ^ 32) (sym c.self.view_is) c.requires.few in
    let long = length-append c.self.inside.inputs (map (λ (d : Derived). d.clause) c.self.inside.lists.derived) in
    let count = length-map c.self.inside.lists.derived (λ (d : Derived). d.clause) in
    let inputs_long = c.len.ensures in
    let derived_long = c.len-2.ensures in
    let steps = subst (λ (s : State). AreSteps (numbered_clauses s.problem s.book) c.args.made.lines) (sym c.self.view_is) c.requires.steps in
    let told = c.in-Ok.ensures in
    let processes : Processes state.problem old c.args.made.lines c.args.turn new c.in-Ok.out =
    told.processes state.problem (omega (arith, few, long, count, inputs_long, derived_long)) refl refl in
    record {
      problem = c.self.invariant.problem;
      derived = λ whole. (processes_goes_on state.problem old c.args.made.lines c.args.turn new c.in-Ok.out (c.self.invariant.sound whole) (c.self.invariant.derived whole) steps processes).derived;
      sound = λ whole. processes_sound state.problem old c.args.made.lines c.args.turn new c.in-Ok.out (c.self.invariant.sound whole) processes;
      ready = λ whole. told.ready state.problem (omega (arith, few, long, count, inputs_long, derived_long)) refl refl;
      within = λ whole. told.within state.problem (omega (arith, few, long, count, inputs_long, derived_long)) refl refl (c.self.invariant.sound whole) (c.self.invariant.within whole);
    }

pub returns-in-Ok-clause-processes : goal.returns-in-Ok-clause-processes
returns-in-Ok-clause-processes c =
    let state = state_of c.self.inside.symbols c.self.inside.inputs c.self.inside.homes c.self.inside.flags c.self.inside.params c.self.inside.lists c.self.inside.whole in
    let few = subst (λ (s : State). length s.problem.inputs + length s.book.derived + 2 < 2 ^ 32) (sym c.self.view_is) c.requires.few in
    let long = length-append c.self.inside.inputs (map (λ (d : Derived). d.clause) c.self.inside.lists.derived) in
    let count = length-map c.self.inside.lists.derived (λ (d : Derived). d.clause) in
    let inputs_long = c.len.ensures in
    let derived_long = c.len-2.ensures in
    subst (λ (s : State). Processes s.problem s.book c.args.made.lines c.args.turn (book_of c.process_lines.new.lists) c.in-Ok.out) c.self.view_is
    (c.in-Ok.ensures.processes state.problem (omega (arith, few, long, count, inputs_long, derived_long)) refl refl)

pub returns-in-Ok-clause-again : goal.returns-in-Ok-clause-again
returns-in-Ok-clause-again c =
    let state = state_of c.self.inside.symbols c.self.inside.inputs c.self.inside.homes c.self.inside.flags c.self.inside.params c.self.inside.lists c.self.inside.whole in
    let old = book_of c.self.inside.lists in
    let new = book_of c.process_lines.new.lists in
    let few = subst (λ (s : State). length s.problem.inputs + length s.book.derived + 2 < 2 ^ 32) (sym c.self.view_is) c.requires.few in
    let long = length-append c.self.inside.inputs (map (λ (d : Derived). d.clause) c.self.inside.lists.derived) in
    let count = length-map c.self.inside.lists.derived (λ (d : Derived). d.clause) in
    let inputs_long = c.len.ensures in
    let derived_long = c.len-2.ensures in
    let whole = ap (λ (s : State). s.whole) c.self.view_is ∙ c.requires.whole in
    again_numbered state.problem old new c.args.made.lines c.args.turn c.in-Ok.out (c.self.invariant.sound whole)
    (c.in-Ok.ensures.processes state.problem (omega (arith, few, long, count, inputs_long, derived_long)) refl refl)
