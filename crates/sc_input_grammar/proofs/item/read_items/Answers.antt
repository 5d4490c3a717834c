use Rattle.std.proofs.Common.{subst, sym, length}
use Rattle.sc_input_rules.specs.ProblemGrammar.{at_proof_or_end}
use Rattle.sc_input_scan.specs.Told.{Gives}
use Rattle.sc_input_grammar.proofs.Items.{clipped_in_turn}
use Rattle.sc_input_grammar.proofs.item.read_items.Goals as goal

pub returns : goal.returns
returns c = subst (Gives _ c.items_until.result) (sym (clipped_in_turn at_proof_or_end (length c.args.tokens.now) c.args.tokens.now)) c.items_until.ensures
