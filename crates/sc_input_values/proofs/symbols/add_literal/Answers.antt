use Rattle.sc_input_values.proofs.JoinLaws.{join_first}
use Rattle.sc_input_values.proofs.symbols.add_literal.Goals as goal

pub add_symbol-requires : goal.add_symbol-requires
add_symbol-requires c = join_first _ _ _ c.requires
