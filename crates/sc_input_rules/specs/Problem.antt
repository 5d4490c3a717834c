-- What the items of a problem state.
use Rattle.std.specs.Prelude.{ℕ, Bool, false, List, [], ◌∷◌, map, Option, unwrap_or, codes, find, option_map, flat_map, nat_abs, if◌then◌else◌}
use Rattle.sc_term.specs.declared.Clause.{Clause}
use Rattle.sc_term.specs.declared.symbol.Symbol.{Symbol}
use Rattle.sc_input_rules.specs.declared.settings.Home.{Home}
use Rattle.sc_input_rules.specs.declared.settings.Home.TheVariants.{Sos}
use Rattle.sc_input_rules.specs.declared.settings.Flags.{Flags}
use Rattle.sc_input_rules.specs.declared.settings.Params.{Params}
use Rattle.sc_input_rules.specs.Token.{same_text}
use Rattle.sc_input_rules.specs.Syntax.{WrittenClause}
use Rattle.sc_input_rules.specs.Settings.{homes, effective_flags, effective_parameters}
use Rattle.sc_input_rules.specs.ProblemGrammar.{Item, Setting, Assignment, Listing}
use Rattle.sc_input_rules.specs.Numbering.{symbols_of, clause_of}

-- a problem as a value: a list of homes beside the list of clauses
pub record Stated : Type 0 where
  pub symbols : List Symbol
  pub inputs : List Clause
  pub homes : List Home
  pub flags : Flags
  pub params : Params

-- ---- the last item of a name holds

-- what a table has beside a name
abbrev pub default_of : {X : Type 0} → List ℕ → List (List ℕ × X) → Option X
default_of name table = option_map (λ e. e.1) (find (λ e. same_text name e.0) table)

abbrev pub parameter_defaults : List (List ℕ × ℕ)
parameter_defaults = map (λ p. (p.0, p.2)) effective_parameters

abbrev pub last_setting : List ℕ → Bool → List Item → Bool
last_setting name so_far [] = so_far
last_setting name so_far (Setting n positive ∷ items) = last_setting name (if same_text name n.text then positive else so_far) items
last_setting name so_far (Assignment n value ∷ items) = last_setting name so_far items
last_setting name so_far (Listing n clauses ∷ items) = last_setting name so_far items

abbrev pub last_value : List ℕ → ℕ → List Item → ℕ
last_value name so_far [] = so_far
last_value name so_far (Setting n positive ∷ items) = last_value name so_far items
last_value name so_far (Assignment n value ∷ items) = last_value name (if same_text name n.text then nat_abs value else so_far) items
last_value name so_far (Listing n clauses ∷ items) = last_value name so_far items

-- the default where none does
abbrev pub setting_of : List Item → List ℕ → Bool
setting_of items name = last_setting name (unwrap_or (default_of name effective_flags) false) items

abbrev pub value_of : List Item → List ℕ → ℕ
value_of items name = last_value name (unwrap_or (default_of name parameter_defaults) 0) items

abbrev pub flags_of : List Item → Flags
flags_of items =
    record {
      binary_res = setting_of items (codes "binary_res");
      factor = setting_of items (codes "factor");
      hyper_res = setting_of items (codes "hyper_res");
      ur_res = setting_of items (codes "ur_res");
      para_from = setting_of items (codes "para_from");
      para_into = setting_of items (codes "para_into");
      unit_deletion = setting_of items (codes "unit_deletion");
      dynamic_demod = setting_of items (codes "dynamic_demod");
      back_demod = setting_of items (codes "back_demod");
      for_sub = setting_of items (codes "for_sub");
      back_sub = setting_of items (codes "back_sub");
    }

abbrev pub params_of : List Item → Params
params_of items =
    record {
      pick_given_ratio = value_of items (codes "pick_given_ratio");
      max_weight = value_of items (codes "max_weight");
      max_literals = value_of items (codes "max_literals");
      max_given = value_of items (codes "max_given");
      max_kept = value_of items (codes "max_kept");
      demod_limit = value_of items (codes "demod_limit");
      max_proofs = value_of items (codes "max_proofs");
    }

-- ---- clauses

-- the written clauses of the lists in order, each with its list
abbrev pub home_of : List ℕ → Home
home_of name = unwrap_or (option_map (λ h. h.1) (find (λ (h : List ℕ × Home). same_text name h.0) homes)) Sos

abbrev pub listed : Item → List (Home × WrittenClause)
listed (Setting n positive) = []
listed (Assignment n value) = []
listed (Listing n clauses) = map (λ c. (home_of n.text, c)) clauses

abbrev pub listed_clauses : List Item → List (Home × WrittenClause)
listed_clauses items = flat_map listed items

-- ---- the problem

abbrev pub stated : List Item → Stated
stated items =
    let clauses = listed_clauses items in
    let symbols = symbols_of (map (λ c. c.1) clauses) in
    record {
      symbols = symbols;
      inputs = map (λ c. clause_of symbols c.1) clauses;
      homes = map (λ c. c.0) clauses;
      flags = flags_of items;
      params = params_of items;
    }
