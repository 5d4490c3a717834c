use Rattle.sc_text_laws.proofs.RoundTrip.{proof_back_behind}
use Rattle.sc_text_laws.proofs.ProblemNames.{items_symbols}
use Rattle.sc_text_laws.proofs.printed_lines_are_read_back.Goals as goal

pub returns : goal.returns
returns c = λ problem read front lines e few each.
    proof_back_behind read.problem.symbols lines front (record { named = items_symbols problem read e; few = few; each = each })
