use Rattle.sc_world.proofs.running.work_next.Goals as goal

pub returns : goal.returns
returns c = record {
  worked = c.in_ok-worked.worked;
  works = c.in_ok-worked.ensures.worked;
  sees = c.in_ok-see.ensures;
}
