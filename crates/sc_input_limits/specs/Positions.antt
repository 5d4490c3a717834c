-- Positions with one token more.
use Rattle.std.specs.Prelude.{true, false, List, [], ◌∷◌, ◌++◌, Option, Some, None, if◌then◌else◌}
use Rattle.sc_input_rules.specs.declared.settings.Home.{Home}
use Rattle.sc_input_rules.specs.declared.token.Token.{Token}
use Rattle.sc_input_rules.specs.Position.{Position, opened, closes}

-- behind a token that is no full stop
abbrev pub with_token : Token → Position → Position
with_token t p = record { clauses = p.clauses; home = p.home; sentence = p.sentence ++ t ∷ [] }

-- the list that is open behind a sentence
abbrev pub next_home : Option Home → List Token → Option Home
next_home None sentence = opened sentence
next_home (Some home) sentence = if closes sentence then None else Some home

-- the clause that the sentence is, if it is one
abbrev pub clause_ended : Option Home → List Token → List (Home × List Token)
clause_ended None sentence = []
clause_ended (Some home) sentence = elim (closes sentence) [ true ↦ [] | false ↦ (home, sentence) ∷ [] ]

-- behind a full stop
abbrev pub behind_stop : Position → Position
behind_stop p = record { clauses = p.clauses ++ clause_ended p.home p.sentence; home = next_home p.home p.sentence; sentence = [] }

-- behind the full stop of a clause
abbrev pub behind_clause : Position → Home → List Token → Position
behind_clause p home sentence = record { clauses = p.clauses ++ (home, sentence) ∷ []; home = Some home; sentence = [] }
