use Rattle.std.proofs.Common.{◌∙◌, arith}
use Rattle.sc_world.proofs.AbreastLaws.{room_at_end}
use Rattle.sc_world.proofs.BesideLaws.{all_unclosed, on_shelves}
use Rattle.sc_world.proofs.beside.run_and_close.Goals as goal

pub run_side_by_side-requires-clause-small : goal.run_side_by_side-requires-clause-small
run_side_by_side-requires-clause-small g c κs within = let many = c.requires.alike in let few = c.requires.small in omega (arith, many, few)

pub close_all-requires-clause-many : goal.close_all-requires-clause-many
close_all-requires-clause-many g c = let many = c.requires.alike in omega (arith, many, c.run_side_by_side.auto.windows, c.run_side_by_side.auto.actors)

pub close_all-requires-clause-unclosed : goal.close_all-requires-clause-unclosed
close_all-requires-clause-unclosed g c = all_unclosed _ _ c.in_ok-outcome.ensures.acted

pub close_all-requires-clause-shelves : goal.close_all-requires-clause-shelves
close_all-requires-clause-shelves g c =
    let many = c.requires.alike in
    on_shelves _ _ c.in_ok-outcome.ensures.acted c.args.prover.now.problem _ c.requires.over c.in_ok-outcome.ensures.abreast.symbols (omega (arith, many, c.run_side_by_side.auto.windows, c.run_side_by_side.auto.actors))

pub close_all-requires-clause-room : goal.close_all-requires-clause-room
close_all-requires-clause-room g c =
    let few = (c.keeps.ensures.counted c.in_ok-outcome.ensures.abreast.whole).few_given in
    let most = c.keeps.ensures.problem.params.max_given.1 in
    room_at_end _ _ _ _ c.in_ok-outcome.ensures.outcome c.in_ok-outcome.ensures.abreast.looked (omega (arith, few, most))

pub returns : goal.returns
returns g c = let many = c.requires.alike in record {
  acting = c.run_side_by_side.new.actors;
  windows = c.run_side_by_side.new.windows;
  acted = c.in_ok-outcome.ensures.acted;
  abreast = c.in_ok-outcome.ensures.abreast;
  ended = c.in_ok-outcome.ensures.outcome;
  closed = c.in_ok-close_all.ensures;
  kept = c.close_all.auto.actors;
  many = omega (arith, many, c.run_side_by_side.auto.windows, c.run_side_by_side.auto.actors);
  wide = omega (arith, many, c.close_all.auto.windows, c.run_side_by_side.auto.windows, c.run_side_by_side.auto.actors);
}
