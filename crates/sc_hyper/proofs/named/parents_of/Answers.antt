use Rattle.std.proofs.Common.{◌≡◌, ◌∙◌, ap, subst, ℕ, List, [], ◌∷◌, ◌++◌, Some}
use Rattle.std.specs.Prelude.{IfOk}
use Rattle.sc_term.specs.declared.Numbered.{Numbered}
use Rattle.sc_core_rules.specs.Hyperresolution.{AreNamed}
use Rattle.sc_hyper.proofs.named.parents_of.Goals as goal

pub returns : goal.returns
returns c =
    let numbers : c.as_slice.result.now ≡ c.args.nucleus ∷ c.args.others =
    c.as_slice.ensures ∙ c.in_ok-append.ensures ∙ ap (λ (ns : List ℕ). ns ++ c.args.others) (c.in_ok-push.ensures.ok ∙ ap (λ (ns : List ℕ). ns ++ c.args.nucleus ∷ []) c.new-numbers.ensures) in
    subst (λ (ns : List ℕ). IfOk c.named.result (λ found. (ps : List Numbered) → AreNamed c.args.usable.now ns ps → found ≡ Some ps)) numbers c.named.ensures
