use Rattle.std.proofs.Common.{◌∙◌, sym, ap, subst, List}
use Rattle.sc_cells.specs.declared.instances.GroundInstance.{GroundInstance}
use Rattle.sc_cells.specs.Ground.{AreInstances}
use Rattle.sc_cells.specs.Listing.{all_instances}
use Rattle.sc_cells.proofs.InstanceLaws.{instances_in_order}
use Rattle.sc_cells.proofs.listing.ground.Goals as goal

pub returns-in-Ok-clause-value : goal.returns-in-Ok-clause-value
returns-in-Ok-clause-value c =
    let same = c.in-Ok.ensures ∙ ap (λ l. all_instances l c.args.size) c.as_slice-2.ensures in
    subst (λ (l : List GroundInstance). AreInstances c.args.clauses.now c.args.size l) (sym same) (instances_in_order c.args.clauses.now c.args.size c.requires.not_empty)
