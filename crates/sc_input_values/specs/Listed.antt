-- The clauses of the lists among items, and their homes.
use Rattle.std.specs.Prelude.{List, [], map}
use Rattle.sc_input_rules.specs.declared.settings.Home.{Home}
use Rattle.sc_input_rules.specs.Syntax.{WrittenClause}
use Rattle.sc_input_rules.specs.Problem.{home_of}
use Rattle.sc_input_grammar.specs.declared.item.Item.{Item}
use Rattle.sc_input_grammar.specs.declared.item.Item.TheVariants.{Setting, Assignment, Listing}

abbrev pub clauses_in : Item → List WrittenClause
clauses_in (Setting n positive) = []
clauses_in (Assignment n value) = []
clauses_in (Listing n clauses) = clauses

-- the home of each clause
abbrev pub homes_in : Item → List Home
homes_in (Setting n positive) = []
homes_in (Assignment n value) = []
homes_in (Listing n clauses) = map (λ c. home_of n.text) clauses
