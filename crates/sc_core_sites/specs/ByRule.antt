-- The sites of one rule, and the rules in their order.
use Rattle.std.specs.Prelude.{◌≡◌, ℕ, List}
use Rattle.sc_term.specs.declared.Numbered.{Numbered}
use Rattle.sc_input_rules.specs.declared.settings.Flags.{Flags}
use Rattle.sc_core_rules.specs.Sites.{Site, Binary, Factor, Hyper, Ur, ParaFrom, ParaInto, IsSite}

-- how many rules come before that of the site
abbrev pub rules_before : Site → ℕ
rules_before (Binary s) = 0
rules_before (Factor s) = 1
rules_before (Hyper s) = 2
rules_before (Ur s) = 3
rules_before (ParaFrom s) = 4
rules_before (ParaInto s) = 5

-- a site of the rule before which come that many
abbrev pub IsByRule : Flags → Numbered → List Numbered → ℕ → Site → Type 0
IsByRule flags given usable k site = (rules_before site ≡ k) × IsSite flags given usable site
