-- The words of items, lists, flags and parameters.
use Rattle.std.specs.Prelude.{ℕ, Bool, true, false, List, [], ◌∷◌, ◌++◌, map, codes, ℤ, pos, negsuc}
use Rattle.sc_input_rules.specs.declared.settings.Home.{Home}
use Rattle.sc_input_rules.specs.declared.settings.Home.TheVariants.{Usable, Sos, Passive, Demodulators}

abbrev pub item_words : List (List ℕ)
item_words = codes "set" ∷ codes "clear" ∷ codes "assign" ∷ codes "list" ∷ []

abbrev pub unsupported_items : List (List ℕ)
unsupported_items =
    codes "formula_list" ∷ codes "weight_list" ∷ codes "op" ∷ codes "lex" ∷ codes "skolem" ∷ codes "include"
    ∷ codes "make_evaluable" ∷ codes "special_unary" ∷ []

-- ---- lists

abbrev pub homes : List (List ℕ × Home)
homes = (codes "usable", Usable) ∷ (codes "sos", Sos) ∷ (codes "passive", Passive) ∷ (codes "demodulators", Demodulators) ∷ []

abbrev pub list_words : List (List ℕ)
list_words = map (λ h. h.0) homes

abbrev pub unsupported_lists : List (List ℕ)
unsupported_lists = codes "hints" ∷ codes "hints2" ∷ codes "hot" ∷ []

-- ---- flags

-- with what holds where no item sets or clears it
abbrev pub effective_flags : List (List ℕ × Bool)
effective_flags =
    (codes "binary_res", false) ∷ (codes "factor", false) ∷ (codes "hyper_res", false) ∷ (codes "ur_res", false)
    ∷ (codes "para_from", false) ∷ (codes "para_into", false) ∷ (codes "unit_deletion", false)
    ∷ (codes "dynamic_demod", false) ∷ (codes "back_demod", false) ∷ (codes "for_sub", true) ∷ (codes "back_sub", true) ∷ []

abbrev pub flags_without_effect : List (List ℕ)
flags_without_effect =
    codes "print_given" ∷ codes "print_kept" ∷ codes "print_proofs" ∷ codes "print_lists_at_end" ∷ codes "print_back_sub"
    ∷ codes "print_back_demod" ∷ codes "print_new_demod" ∷ codes "very_verbose" ∷ []

abbrev pub flag_words : List (List ℕ)
flag_words = map (λ f. f.0) effective_flags ++ flags_without_effect

abbrev pub unsupported_flags : List (List ℕ)
unsupported_flags =
    codes "auto" ∷ codes "auto2" ∷ codes "knuth_bendix" ∷ codes "order_eq" ∷ codes "lrpo" ∷ codes "prolog_style_variables"
    ∷ codes "process_input" ∷ codes "sos_queue" ∷ codes "sos_stack" ∷ codes "input_sos_first" ∷ codes "interactive_given"
    ∷ codes "neg_hyper_res" ∷ codes "para_all" ∷ codes "para_from_left" ∷ codes "para_from_right" ∷ codes "para_from_vars"
    ∷ codes "para_into_left" ∷ codes "para_into_right" ∷ codes "para_into_vars" ∷ codes "dynamic_demod_all"
    ∷ codes "demod_out_in" ∷ codes "eq_units_both_ways" ∷ []

-- ---- parameters

pub record Range : Type 0 where
  pub low : ℤ
  pub high : ℤ

abbrev pub from_to : ℕ → ℕ → Range
from_to low high = record { low = pos low; high = pos high }

-- with its range, and what holds where no item assigns it
abbrev pub effective_parameters : List (List ℕ × Range × ℕ)
effective_parameters =
    (codes "pick_given_ratio", from_to 0 1000, 4) ∷ (codes "max_weight", from_to 1 1000, 100)
    ∷ (codes "max_literals", from_to 1 1000, 64) ∷ (codes "max_given", from_to 1 1000000, 10000)
    ∷ (codes "max_kept", from_to 1 100000, 20000) ∷ (codes "demod_limit", from_to 0 1000, 1000)
    ∷ (codes "max_proofs", from_to 1 1, 1) ∷ []

abbrev pub parameters_without_effect : List (List ℕ)
parameters_without_effect = codes "max_seconds" ∷ codes "max_mem" ∷ codes "stats_level" ∷ []

-- from -1 to 2147483647
abbrev pub range_without_effect : Range
range_without_effect = record { low = negsuc 0; high = pos 2147483647 }

-- the parameters and their ranges
abbrev pub ranges : List (List ℕ × Range)
ranges = map (λ p. (p.0, p.1)) effective_parameters ++ map (λ name. (name, range_without_effect)) parameters_without_effect

abbrev pub parameter_words : List (List ℕ)
parameter_words = map (λ r. r.0) ranges

abbrev pub unsupported_parameters : List (List ℕ)
unsupported_parameters = codes "max_distinct_vars" ∷ codes "change_limit_after" ∷ codes "new_max_weight" ∷ codes "neg_weight" ∷ []
