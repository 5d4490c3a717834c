use Rattle.std.proofs.Common.{subst, refl, None}
use Rattle.sc_find.specs.Answers.{IsFound}
use Rattle.sc_worker.proofs.TryingLaws.{first_is_true}
use Rattle.sc_worker.proofs.trying.searched.Goals as goal

pub version_of-requires-clause-hold : goal.version_of-requires-clause-hold
version_of-requires-clause-hold c =
    first_is_true c.args.job.now c.in-Model.tables c.args.claims.now c.found_models_are_true.ensures c.requires.over c.requires.clauses
    (subst (IsFound c.args.job.now None c.args.budget) c.in-Model.is (c.in_ok-tables.ensures None refl))
