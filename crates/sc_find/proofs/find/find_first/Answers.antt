use Rattle.std.proofs.Common.{◌∙◌, ap, subst}
use Rattle.sc_find.specs.Answers.{IsFound, value_in}
use Rattle.sc_find.proofs.PieceLaws.{asked_is, none_at_all}
use Rattle.sc_find.proofs.find.find_first.Goals as goal

pub returns-then-not-branch : goal.returns-then-not-branch
returns-then-not-branch c value asked =
    none_at_all c.args.job.now value c.in_ok-given.given c.in_ok-given.ensures.cells c.in_ok-given.ensures.values (c.in_ok-watch.ensures.refused c.if-not-branch.true)

pub found-requires-clause-consistent : goal.found-requires-clause-consistent
found-requires-clause-consistent c = c.in_ok-watch.ensures.consistent c.if-not-branch.false

pub returns : goal.returns
returns c value asked =
    let is = c.value_of-value.ensures ∙ ap (value_in c.args.piece) c.cell_len-2.ensures.value
    ∙ asked_is c.args.job.now c.args.piece value c.in_ok-given.given.cells c.in_ok-given.ensures.cells asked in
    subst (λ v. IsFound c.args.job.now v c.args.budget c.in_ok-found.field-0) is c.in_ok-found.ensures
