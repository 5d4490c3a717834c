use Rattle.std.proofs.Common.{◌≡◌, ◌∙◌, sym, ap, suc, List, [], ◌∷◌, ◌++◌, take, drop, append_assoc}
use Rattle.sc_term.specs.declared.Term.{Term}
use Rattle.sc_steps.proofs.ChangedElement.{back_range, set_parts}
use Rattle.sc_para.proofs.replacing.with_argument.Goals as goal

pub returns : goal.returns
returns c =
    let args = c.args.args.now in
    let at = c.args.at in
    let front : c.in_ok-all.all ≡ take at args = c.in_ok-all.ensures in
    let back : c.in_ok-copy_terms.field-0 ≡ drop (suc at) args = c.in_ok-copy_terms.ensures ∙ back_range args at in
    c.in_ok-append.ensures ∙ ap (λ (l : List Term). l ++ c.in_ok-copy_terms.field-0) c.in_ok-push.ensures.ok ∙ append_assoc c.in_ok-all.all (c.args.changed ∷ []) c.in_ok-copy_terms.field-0
    ∙ (λ i. front i ++ c.args.changed ∷ back i) ∙ sym (set_parts args at c.args.changed c.requires)
