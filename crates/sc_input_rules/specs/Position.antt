-- Where a token stands: in which item or list, behind which clauses, and in which part of a clause.
use Rattle.std.specs.Prelude.{ℕ, Bool, true, false, List, [], ◌∷◌, Option, Some, None, codes, find, option_map, if◌then◌else◌}
use Rattle.sc_input_rules.specs.declared.settings.Home.{Home}
use Rattle.sc_input_rules.specs.declared.token.Token.{Token}
use Rattle.sc_input_rules.specs.declared.token.Sign.TheVariants.{Stop}
use Rattle.sc_input_rules.specs.Token.{is_sign, is_word}
use Rattle.sc_input_rules.specs.Settings.{homes}

-- ---- sentences

-- the tokens cut behind each full stop: the sentences that have one, without it, and what follows the last
abbrev pub with_token : Token → List (List Token) × List Token → List (List Token) × List Token
with_token t cut = elim cut.0 [ [] ↦ ([], t ∷ cut.1) | s ∷ ss ↦ ((t ∷ s) ∷ ss, cut.1) ]

abbrev pub sentences : List Token → List (List Token) × List Token
sentences [] = ([], [])
sentences (t ∷ tokens) =
    let later = sentences tokens in
    if is_sign Stop t then ([] ∷ later.0, later.1) else with_token t later

-- ---- lists

-- the list that a sentence names by its third word, if it begins with `list`
abbrev pub home_named : Token → Option Home
home_named t = option_map (λ h. h.1) (find (λ (h : List ℕ × Home). is_word h.0 t) homes)

abbrev pub opened : List Token → Option Home
opened (item ∷ bracket ∷ name ∷ tokens) = if is_word (codes "list") item then home_named name else None
opened tokens = None

abbrev pub closes : List Token → Bool
closes (t ∷ []) = is_word (codes "end_of_list") t
closes tokens = false

-- the clauses among the sentences, each with its list; the first sentence stands in the list given, if any
abbrev pub clauses_of : Option Home → List (List Token) → List (Home × List Token)
clauses_of home [] = []
clauses_of None (s ∷ ss) = clauses_of (opened s) ss
clauses_of (Some home) (s ∷ ss) = elim (closes s) [ true ↦ clauses_of None ss | false ↦ (home, s) ∷ clauses_of (Some home) ss ]

-- the list that is open behind the sentences
abbrev pub home_behind : Option Home → List (List Token) → Option Home
home_behind home [] = home
home_behind None (s ∷ ss) = home_behind (opened s) ss
home_behind (Some home) (s ∷ ss) = home_behind (if closes s then None else Some home) ss

-- Of the tokens up to one: the whole clauses, the list that is open, and the sentence so far.
pub record Position : Type 0 where
  pub clauses : List (Home × List Token)
  pub home : Option Home
  pub sentence : List Token

abbrev pub position : List Token → Position
position tokens =
    let cut = sentences tokens in
    record { clauses = clauses_of None cut.0; home = home_behind None cut.0; sentence = cut.1 }

-- the clause so far, if the last token stands in one
abbrev pub clause_so_far : Position → List Token
clause_so_far p = elim p.home [ None ↦ [] | Some home ↦ p.sentence ]
