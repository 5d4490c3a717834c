use Rattle.sc_text_laws.proofs.ProblemNames.{items_symbols}
use Rattle.sc_text_laws.proofs.RunBack.{run_back_behind}
use Rattle.sc_text_laws.proofs.printed_runs_are_read_back.Goals as goal

pub returns : goal.returns
returns c = λ problem read front run e may. run_back_behind read.problem.symbols run front (items_symbols problem read e) may
