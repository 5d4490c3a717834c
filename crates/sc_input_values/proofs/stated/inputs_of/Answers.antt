use Rattle.sc_input_values.specs.Listed.{clauses_in}
use Rattle.sc_input_values.specs.Names.{HasFewVariables}
use Rattle.sc_input_values.proofs.ListingLaws.{all_at}
use Rattle.sc_input_values.proofs.stated.inputs_of.Goals as goal

pub push_inputs-requires : goal.push_inputs-requires
push_inputs-requires c = all_at HasFewVariables clauses_in c.args.items.now c.loop-item.item-index c.item-item.result c.requires c.loop-item-test.true c.item-item.is
