use Rattle.std.proofs.Common.{◌∙◌, ap, subst, sym}
use Rattle.std.specs.List.{AllZip}
use Rattle.sc_shelf.specs.Entries.{StartsWith}
use Rattle.sc_core_rules.specs.Selection.{Seen}
use Rattle.sc_core.specs.State.{ProverState}
use Rattle.sc_world.specs.Abreast.{seen_of}
use Rattle.sc_world.proofs.AbreastLaws.{grown_looked, all_few, turned_beside}
use Rattle.sc_world.proofs.turns.look_and_turn.Goals as goal

pub catch_up-requires-clause-grown : goal.catch_up-requires-clause-grown
catch_up-requires-clause-grown c =
    subst (λ (lists : Seen). AllZip StartsWith (seen_of c.look_all.new.windows) lists) (sym c.requires.sees) (grown_looked c.args.windows.now c.look_all.new.windows c.in_ok-look_all.ensures)

pub catch_up-requires-clause-few : goal.catch_up-requires-clause-few
catch_up-requires-clause-few c = all_few c.args.windows.now c.look_all.new.windows c.in_ok-look_all.ensures

pub turn-requires-clause-whole : goal.turn-requires-clause-whole
turn-requires-clause-whole c = ap (λ (p : ProverState). p.whole) c.in_ok-catch_up.ensures ∙ c.requires.whole

pub turn-requires-clause-going : goal.turn-requires-clause-going
turn-requires-clause-going c = ap (λ (p : ProverState). p.run.ended) c.in_ok-catch_up.ensures ∙ c.requires.going

pub returns : goal.returns
returns c =
    turned_beside c.args.prover.now c.catch_up.new.prover c.turn.new.self c.args.windows.now c.look_all.new.windows c.in_ok-catch_up.ensures c.in_ok-look_all.ensures
    c.in_ok-turn.ensures.turns c.in_ok-turn.ensures.problem c.in_ok-turn.ensures.seen c.in_ok-turn.ensures.whole
