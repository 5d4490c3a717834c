-- What a command asks for on threads of their own.
use Rattle.std.specs.Prelude.{◌≡◌, ◌≤◌}
use Rattle.sc_top_words.specs.declared.commands.Command.{Command}
use Rattle.sc_top_words.specs.declared.commands.Command.TheVariants as command
use Rattle.sc_top.specs.declared.threads.OnThreads.{OnThreads}
use Rattle.sc_top.specs.declared.threads.OnThreads.TheVariants.{Finders, Workers}

-- the command asks for finders beside the prover, or for workers, of which one would be the thread that asks
abbrev pub AsksOnThreads : Command → OnThreads → Type 0
AsksOnThreads k (Finders plan) = (k ≡ command.Prove plan) × (1 ≤ plan.finders)
AsksOnThreads k (Workers size upto nodes count) = (k ≡ command.Model size upto nodes count) × (2 ≤ count)
