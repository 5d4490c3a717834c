-- What is read behind a command's word.
use Rattle.std.specs.Prelude.{◌≡◌, ℕ, List, Option, MatchOption}
use Rattle.sc_worker.specs.declared.plan.Plan.{Plan}
use Rattle.sc_top_words.specs.declared.commands.Command.{Command}
use Rattle.sc_top_words.specs.declared.commands.Command.TheVariants.{Model}
use Rattle.sc_top_words.specs.declared.options.OptionName.TheVariants.{Finders, Size, Nodes, Candidates, Workers}
use Rattle.sc_top_words.specs.declared.taking.Taken.{Taken}
use Rattle.sc_top_words.specs.Taking.{chosen_for}
use Rattle.sc_top_words.specs.Words.{word_of, AskFor}

-- the word is the command's, and the words behind it ask for it
abbrev pub IsAskedBy : List ℕ → List (List ℕ) → Command → Type 0
IsAskedBy word words command = (word ≡ word_of command) × AskFor words command

-- the command is the one that the words ask for, and none is told exactly where they ask for none
abbrev pub IsReadOf : List ℕ → List (List ℕ) → Option Command → Type 0
IsReadOf word words result = MatchOption result ((command : Command) → ¬ IsAskedBy word words command) (IsAskedBy word words)

-- the plan that the numbers ask for
abbrev pub plan_of : Taken → Plan
plan_of taken =
    record { finders = chosen_for Finders taken; first_size = chosen_for Size taken; nodes = chosen_for Nodes taken; candidates = chosen_for Candidates taken }

-- the search for a model that the numbers ask for
abbrev pub model_of : Taken → Command
model_of taken = Model (chosen_for Size taken) taken.upto (chosen_for Nodes taken) (chosen_for Workers taken)
