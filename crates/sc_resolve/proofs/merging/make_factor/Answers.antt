use Rattle.std.proofs.Common.{◌≡◌, ◌∙◌, ap, sym, subst, List, Some, None, Option}
use Rattle.std.specs.Prelude.{IfOk}
use Rattle.sc_term.specs.declared.Literal.{Literal}
use Rattle.sc_term.specs.Numbering.{numbered}
use Rattle.sc_core_rules.specs.Inference.{Inference}
use Rattle.sc_resolve.specs.Made.{Makes}
use Rattle.sc_resolve.proofs.FactoringLaws.{is_this, both_there}
use Rattle.sc_resolve.proofs.merging.make_factor.Goals as goal

pub factored-requires-clause-factored : goal.factored-requires-clause-factored
factored-requires-clause-factored c =
    let left = ap (λ (ls : List Literal). numbered ls c.args.site.now.first) (sym c.as_slice-literals.ensures) ∙ sym c.in-Some.ensures in
    let right = ap (λ (ls : List Literal). numbered ls c.args.site.now.second) (sym c.as_slice-literals.ensures) ∙ sym c.in-Some-literal.ensures in
    (is_this c.args.given.now c.args.site.now c.requires.site.0 c.requires.site.1 c.in-Some.l.now c.in-Some-literal.m.now left right).factored

pub returns-in-None-literal : goal.returns-in-None-literal
returns-in-None-literal c = λ i h d k.
    let both = both_there c.args.given.now c.args.site.now i h in
    let bad : ◌≡◌ {A = Option Literal} None (Some both.1) = c.in-None-literal.ensures ∙ ap (λ (ls : List Literal). numbered ls c.args.site.now.second) c.as_slice-literals.ensures ∙ both.3 in cc

pub returns : goal.returns
returns c = λ i h.
    let left = ap (λ (ls : List Literal). numbered ls c.args.site.now.first) (sym c.as_slice-literals.ensures) ∙ sym c.in-Some.ensures in
    let right = ap (λ (ls : List Literal). numbered ls c.args.site.now.second) (sym c.as_slice-literals.ensures) ∙ sym c.in-Some-literal.ensures in
    subst (λ (j : Inference). IfOk c.factored.result (λ made. Makes j made)) (sym (is_this c.args.given.now c.args.site.now i h c.in-Some.l.now c.in-Some-literal.m.now left right).is) c.factored.ensures
