use Rattle.std.proofs.Common.{rules}
use Rattle.sc_input_values.proofs.JoinLaws.{not_full}
use Rattle.sc_input_values.proofs.symbols.add_symbol.Goals as goal

pub unreachable-requires : goal.unreachable-requires
unreachable-requires c = not_full _ _ _ (search rules) (c.in-Err-TooMany.ensures.full.0 c.in-Err-TooMany.field-0-is) c.requires
