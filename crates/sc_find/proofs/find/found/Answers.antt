use Rattle.std.proofs.Common.{subst}
use Rattle.sc_find.specs.Search.{HasEnded}
use Rattle.sc_find.proofs.PieceLaws.{first_model, no_model}
use Rattle.sc_find.proofs.find.found.Goals as goal

pub returns-in_ok-tables_with-in-Full : goal.returns-in_ok-tables_with-in-Full
returns-in_ok-tables_with-in-Full c =
    let first = subst (HasEnded c.args.job.now c.args.value c.args.budget c.args.given.now.cells c.search.new.given) c.in-Full.is c.in_ok-search.ensures in
    first_model c.args.job.now c.args.value c.args.given.now.cells c.search.new.given c.values.result.now c.in_ok-tables_with-in-Full.field-0 c.requires.cells first c.values.ensures
    c.in_ok-tables_with-in-Full.ensures

pub returns-in-Exhausted : goal.returns-in-Exhausted
returns-in-Exhausted c =
    let none = subst (HasEnded c.args.job.now c.args.value c.args.budget c.args.given.now.cells c.search.new.given) c.in-Exhausted.is c.in_ok-search.ensures in
    no_model c.args.job.now c.args.value c.args.given.now.cells c.requires.cells none
