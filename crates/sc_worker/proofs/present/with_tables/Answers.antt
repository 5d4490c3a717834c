use Rattle.std.proofs.Common.{◌∙◌, sym, ap, subst, rules}
use Rattle.std.specs.Prelude.{IsTrue}
use Rattle.sc_interp.specs.Structure.{Structure, IsStructure}
use Rattle.sc_interp.specs.Versions.{AreTrue}
use Rattle.sc_worker.specs.FinderList.{version_with}
use Rattle.sc_worker.proofs.PresentLaws.{all_true, first_of_all}
use Rattle.sc_worker.proofs.present.with_tables.Goals as goal

pub version_of-requires-clause-hold : goal.version_of-requires-clause-hold
version_of-requires-clause-hold c =
    let holds : IsTrue c.in_ok-is_true_in.field-0 = search (rules, c.if-not-branch.false) in
    subst (λ (t : Structure). AreTrue t c.args.claims.now) (sym c.in_ok-copied.ensures)
    (all_true c.args.problem.now c.args.size c.args.claims.now c.args.clause.now c.args.tables.now c.requires.over c.requires.more c.found_models_are_true.ensures (c.in_ok-is_true_in.ensures holds))

pub returns-clause-kept : goal.returns-clause-kept
returns-clause-kept c =
    let holds : IsTrue c.in_ok-is_true_in.field-0 = search (rules, c.if-not-branch.false) in
    let all = all_true c.args.problem.now c.args.size c.args.claims.now c.args.clause.now c.args.tables.now c.requires.over c.requires.more c.found_models_are_true.ensures (c.in_ok-is_true_in.ensures holds) in
    first_of_all c.args.problem.now c.args.size c.args.claims.now c.args.clause.now c.args.tables.now c.requires.over c.requires.more all

pub returns-clause-version : goal.returns-clause-version
returns-clause-version c =
    let few : IsTrue c.may_be_tried.result = search (rules, c.if-not-may_be_tried.false) in
    let holds : IsTrue c.in_ok-is_true_in.field-0 = search (rules, c.if-not-branch.false) in
    let all = all_true c.args.problem.now c.args.size c.args.claims.now c.args.clause.now c.args.tables.now c.requires.over c.requires.more c.found_models_are_true.ensures (c.in_ok-is_true_in.ensures holds) in
    record {
      tried = c.may_be_tried.ensures few;
      tables = c.args.tables.now;
      structure = subst IsStructure c.in_ok-copied.ensures c.in_ok-version.ensures.structure;
      first = first_of_all c.args.problem.now c.args.size c.args.claims.now c.args.clause.now c.args.tables.now c.requires.over c.requires.more all;
      version = c.in_ok-version.ensures.value ∙ ap (λ (t : Structure). version_with t c.args.claims.now) c.in_ok-copied.ensures;
    }
