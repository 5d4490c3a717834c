use Rattle.std.proofs.Common.{◌≡◌, sym, ap, subst, ℕ, ◌+◌, [], Option, None}
use Rattle.sc_core_rules.specs.declared.row.Outcome.{Outcome}
use Rattle.sc_core.specs.declared.choosing.GivenChoice.{GivenChoice}
use Rattle.sc_core_rules.specs.Turn.{Turns}
use Rattle.sc_core_rules.proofs.TurnLaws.{selected_there}
use Rattle.sc_core.specs.Choice.{IsChosen}
use Rattle.sc_core.specs.Turning.{run_of, Stops}
use Rattle.sc_core.proofs.MarkLaws.{dropped_right, turned_right}
use Rattle.sc_core.proofs.TurningLaws.{given_turns, match_some}
use Rattle.sc_core.proofs.turning.turn.Goals as goal

pub give-requires-clause-listed : goal.give-requires-clause-listed
give-requires-clause-listed c =
    let problem = c.args.running.now.book.problem in
    let sos = c.args.running.now.book.book.sos in
    let guide = c.args.guide.now in
    let turn = c.len.result + 1 in
    let choice = c.in-Some-2.choice in
    let chosen : IsChosen problem guide turn sos choice =
    match_some c.in_ok-choice.field-0 choice (sos ≡ []) (λ (x : GivenChoice). IsChosen problem guide turn sos x) c.in-Some-2.is c.in_ok-choice.ensures.chosen in
    selected_there problem sos turn guide.name guide.version choice.given choice.row.cause chosen.selects

pub returns-in_ok-give-in-Some-2-clause-turns : goal.returns-in_ok-give-in-Some-2-clause-turns
returns-in_ok-give-in-Some-2-clause-turns c =
    let running = c.args.running.now in
    let problem = running.book.problem in
    let guide = c.args.guide.now in
    let turn = c.len.result + 1 in
    let choice = c.in-Some-2.choice in
    let room : Stops problem (run_of running) None = subst (λ (o : Option Outcome). Stops problem (run_of running) o) c.in-None.is c.limit.ensures in
    let chosen : IsChosen problem guide turn running.book.book.sos choice =
    match_some c.in_ok-choice.field-0 choice (running.book.book.sos ≡ []) (λ (x : GivenChoice). IsChosen problem guide turn running.book.book.sos x) c.in-Some-2.is c.in_ok-choice.ensures.chosen in
    given_turns problem (run_of running) guide turn choice (run_of c.give.new.running) (chosen.row.guides problem (sym c.requires.opens))
    (ap (λ (n : ℕ). n + 1) c.len.ensures) room chosen c.in_ok-give-in-Some-2.ensures.given

pub returns-in_ok-give-in-Some-2-clause-right : goal.returns-in_ok-give-in-Some-2-clause-right
returns-in_ok-give-in-Some-2-clause-right c =
    let running = c.args.running.now in
    let problem = running.book.problem in
    let guide = c.args.guide.now in
    let turn = c.len.result + 1 in
    let choice = c.in-Some-2.choice in
    let room : Stops problem (run_of running) None = subst (λ (o : Option Outcome). Stops problem (run_of running) o) c.in-None.is c.limit.ensures in
    let chosen : IsChosen problem guide turn running.book.book.sos choice =
    match_some c.in_ok-choice.field-0 choice (running.book.book.sos ≡ []) (λ (x : GivenChoice). IsChosen problem guide turn running.book.book.sos x) c.in-Some-2.is c.in_ok-choice.ensures.chosen in
    let turns : Turns problem (run_of running) guide.seen (run_of c.give.new.running) =
    given_turns problem (run_of running) guide turn choice (run_of c.give.new.running) (chosen.row.guides problem (sym c.requires.opens))
    (ap (λ (n : ℕ). n + 1) c.len.ensures) room chosen c.in_ok-give-in-Some-2.ensures.given in
    turned_right problem guide.seen (run_of running) (run_of c.give.new.running) c.forget.new.self turns
    (dropped_right problem guide.seen running.book.book c.choose.new.marks c.forget.new.self choice.given.number c.forget.ensures c.in_ok-choice.ensures.right)
