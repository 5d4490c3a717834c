use Rattle.std.proofs.Common.{sym, subst}
use Rattle.sc_core_rules.specs.Book.{IsDerived, IsSound}
use Rattle.sc_keep.specs.State.{AreAllWithin, state_of}
use Rattle.sc_core_rules.proofs.TurnLaws.{given_sound}
use Rattle.sc_keep.proofs.BookLaws.{give_ready}
use Rattle.sc_keep.proofs.book.Book.give.Goals as goal

pub invariant_of-self : goal.invariant_of-self
invariant_of-self c =
    let state = state_of c.self.inside.symbols c.self.inside.inputs c.self.inside.homes c.self.inside.flags c.self.inside.params c.self.inside.lists c.self.inside.whole in
    record {
      problem = c.self.invariant.problem;
      derived = λ whole. subst (IsDerived state.problem) (sym c.in-Ok.ensures.3) (c.self.invariant.derived whole);
      sound = λ whole. subst (IsSound state.problem) (sym c.in-Ok.ensures.3) (given_sound state.problem state.book c.in-Ok.ensures.0 c.in-Ok.ensures.1 (c.self.invariant.sound whole));
      ready = λ whole. give_ready state.problem c.self.inside.lists c.give.new.lists c.in-Ok.ensures.0 c.in-Ok.ensures.1 c.in-Ok.ensures.3 (c.self.invariant.ready whole);
      within = λ whole. subst (AreAllWithin state.problem) (sym c.in-Ok.ensures.3) (c.self.invariant.within whole);
    }
