-- Where the parameters are in their ranges, clipping the numbers of items changes nothing of the problem.
use Rattle.std.proofs.Common.{◌≡◌, ◌∙◌, sym, ap, ℕ, ◌≤◌, false, List, map, arith}
use Rattle.std.specs.Prelude.{codes, unwrap_or}
use Rattle.std.proofs.Math.Nat.{min-eq_left}
use Rattle.sc_input_rules.specs.declared.settings.Home.{Home}
use Rattle.sc_input_rules.specs.declared.settings.Flags.{Flags}
use Rattle.sc_input_rules.specs.declared.settings.Params.{Params}
use Rattle.sc_input_rules.specs.Syntax.{WrittenClause}
use Rattle.sc_input_rules.specs.Settings.{effective_flags}
use Rattle.sc_input_rules.specs.ProblemGrammar.{Item}
use Rattle.sc_input_rules.specs.Numbering.{symbols_of, clause_of}
use Rattle.sc_input_rules.specs.Problem.{Stated, default_of, last_value, setting_of, flags_of, params_of, stated}
use Rattle.sc_input_rules.specs.WellFormed.{AreParams}
use Rattle.sc_input_grammar.specs.Items.{with_clipped}
use Rattle.sc_input_grammar.proofs.Clipping.{last_setting-clipped, last_value-clipped, listed_clauses-clipped}

value-clipped : (name : List ℕ) (so_far : ℕ) (items : List Item) → so_far ≤ 20000 → last_value name so_far items ≤ 1000000 → last_value name so_far (map with_clipped items) ≡ last_value name so_far items
value-clipped name so_far items low small =
    ap (λ (k : ℕ). last_value name k (map with_clipped items)) (sym (min-eq_left {n = so_far} (omega (arith, low))))
    ∙ last_value-clipped name so_far items ∙ min-eq_left {n = last_value name so_far items} (omega (arith, small))

params-clipped : (items : List Item) → AreParams (params_of items) → params_of (map with_clipped items) ≡ params_of items
params-clipped items h =
    let ratio : last_value (codes "pick_given_ratio") 4 items ≤ 1000 = h.pick_given_ratio in
    let weight : last_value (codes "max_weight") 100 items ≤ 1000 = h.max_weight.1 in
    let literals : last_value (codes "max_literals") 64 items ≤ 1000 = h.max_literals.1 in
    let given : last_value (codes "max_given") 10000 items ≤ 1000000 = h.max_given.1 in
    let kept : last_value (codes "max_kept") 20000 items ≤ 100000 = h.max_kept.1 in
    let demod : last_value (codes "demod_limit") 1000 items ≤ 1000 = h.demod_limit in
    let proofs : last_value (codes "max_proofs") 1 items ≡ 1 = h.max_proofs in
    let a = value-clipped (codes "pick_given_ratio") 4 items (omega arith) (omega (arith, ratio)) in
    let b = value-clipped (codes "max_weight") 100 items (omega arith) (omega (arith, weight)) in
    let c = value-clipped (codes "max_literals") 64 items (omega arith) (omega (arith, literals)) in
    let d = value-clipped (codes "max_given") 10000 items (omega arith) given in
    let e = value-clipped (codes "max_kept") 20000 items (omega arith) (omega (arith, kept)) in
    let f = value-clipped (codes "demod_limit") 1000 items (omega arith) (omega (arith, demod)) in
    let g = value-clipped (codes "max_proofs") 1 items (omega arith) (omega (arith, proofs)) in
    λ j. record { pick_given_ratio = a j; max_weight = b j; max_literals = c j; max_given = d j; max_kept = e j; demod_limit = f j; max_proofs = g j }

setting-clipped : (items : List Item) (name : List ℕ) → setting_of (map with_clipped items) name ≡ setting_of items name
setting-clipped items name = last_setting-clipped name (unwrap_or (default_of name effective_flags) false) items

flags-clipped : (items : List Item) → flags_of (map with_clipped items) ≡ flags_of items
flags-clipped items =
    λ j. record {
      binary_res = setting-clipped items (codes "binary_res") j;
      factor = setting-clipped items (codes "factor") j;
      hyper_res = setting-clipped items (codes "hyper_res") j;
      ur_res = setting-clipped items (codes "ur_res") j;
      para_from = setting-clipped items (codes "para_from") j;
      para_into = setting-clipped items (codes "para_into") j;
      unit_deletion = setting-clipped items (codes "unit_deletion") j;
      dynamic_demod = setting-clipped items (codes "dynamic_demod") j;
      back_demod = setting-clipped items (codes "back_demod") j;
      for_sub = setting-clipped items (codes "for_sub") j;
      back_sub = setting-clipped items (codes "back_sub") j;
    }

abbrev built : List (Home × WrittenClause) → Flags → Params → Stated
built clauses flags params =
    let symbols = symbols_of (map (λ c. c.1) clauses) in
    record {
      symbols = symbols;
      inputs = map (λ c. clause_of symbols c.1) clauses;
      homes = map (λ c. c.0) clauses;
      flags = flags;
      params = params;
    }

pub stated-clipped : (items : List Item) → AreParams (params_of items) → stated (map with_clipped items) ≡ stated items
stated-clipped items h = λ j. built (listed_clauses-clipped items j) (flags-clipped items j) (params-clipped items h j)
