use Rattle.std.proofs.Common.{◌≡◌, ◌∙◌, sym, List, Bool, true, false, Some, None, Option}
use Rattle.std.specs.Prelude.{MatchOption, IsTrue, ◌↔◌}
use Rattle.std.specs.Option.{is_some}
use Rattle.sc_term.specs.declared.Pair.{Pair}
use Rattle.sc_term.specs.Substitution.{Unify, IsMostGeneralUnifier}
use Rattle.sc_unify.specs.declared.bound.Binding.{Binding}
use Rattle.sc_unify.specs.Unifiers.{substitution}
use Rattle.sc_hyper.proofs.choice.do_unify.Goals as goal

told : (found : Option (List Binding)) (pairs : List Pair) (b : Bool) → MatchOption found (¬ Unify pairs) (λ s. IsMostGeneralUnifier pairs (substitution s)) → b ≡ is_some found → IsTrue b ↔ Unify pairs
told None pairs b h e = (λ t. let bad : false ≡ true = sym e ∙ t in cc, λ u. absurd (h u))
told (Some s) pairs b h e = (λ t. (substitution s, h.unifies), λ u. e)

pub returns : goal.returns
returns c = told c.in_ok-unify_all.field-0 c.args.pairs.now c.is_some.result c.in_ok-unify_all.ensures c.is_some.ensures
