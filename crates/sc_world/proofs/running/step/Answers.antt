use Rattle.std.proofs.Common.{sym, refl, inl, inr}
use Rattle.sc_world.proofs.running.step.Goals as goal

pub returns-in-Some : goal.returns-in-Some
returns-in-Some c = record {
  turned = c.turn.new.self;
  turn = record {
    turns = c.in_ok-turn.ensures.turns;
    same = c.in_ok-turn.ensures.problem;
    sees = c.in_ok-turn.ensures.seen;
    whole = c.in_ok-turn.ensures.whole;
  };
  works = inr ((λ none. let some = c.in-Some.ensures in cc), (refl, refl));
}

pub returns-in_ok-work_next-in-None : goal.returns-in_ok-work_next-in-None
returns-in_ok-work_next-in-None c = record {
  turned = c.turn.new.self;
  turn = record {
    turns = c.in_ok-turn.ensures.turns;
    same = c.in_ok-turn.ensures.problem;
    sees = c.in_ok-turn.ensures.seen;
    whole = c.in_ok-turn.ensures.whole;
  };
  works = inl (sym c.in-None.ensures, c.in_ok-work_next-in-None.ensures);
}
