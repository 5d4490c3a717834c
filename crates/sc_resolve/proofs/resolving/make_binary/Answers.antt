use Rattle.std.proofs.Common.{◌≡◌, ◌∙◌, ap, sym, subst, List, Some, None, Option, arith}
use Rattle.std.specs.Prelude.{IfOk}
use Rattle.sc_term.specs.declared.Literal.{Literal}
use Rattle.sc_term.specs.declared.Clause.{Clause}
use Rattle.sc_term.specs.Numbering.{numbered}
use Rattle.sc_term.specs.JointInstance.{shift}
use Rattle.sc_core_rules.specs.Inference.{Inference}
use Rattle.sc_resolve.specs.Binary.{renamed}
use Rattle.sc_resolve.specs.Made.{Makes}
use Rattle.sc_resolve.proofs.KeptLaws.{kept_width}
use Rattle.sc_resolve.proofs.ResolvingLaws.{is_this, both_there}
use Rattle.sc_resolve.proofs.resolving.make_binary.Goals as goal

pub width-requires : goal.width-requires
width-requires c = omega (arith, kept_width c.args.given.now.clause c.requires.given)

pub shift-requires : goal.shift-requires
shift-requires c = omega (arith, kept_width c.args.given.now.clause c.requires.given, kept_width c.args.partner.now.clause c.requires.partner)

pub returns-in-None : goal.returns-in-None
returns-in-None c = λ i h d k.
    let both = both_there c.args.given.now c.args.partner.now c.args.site.now i h in
    let bad : ◌≡◌ {A = Option Literal} None (Some both.l) = c.in-None.ensures ∙ ap (λ (ls : List Literal). numbered ls c.args.site.now.given_lit) c.as_slice.ensures ∙ both.left_there in cc

pub resolved_on-requires-clause-resolved : goal.resolved_on-requires-clause-resolved
resolved_on-requires-clause-resolved c =
    let left = ap (λ (ls : List Literal). numbered ls c.args.site.now.given_lit) (sym c.as_slice.ensures) ∙ sym c.in-Some.ensures in
    let apart : c.as_slice-2.result.now ≡ renamed c.args.given.now c.args.partner.now =
    c.as_slice-2.ensures ∙ ap (λ (d : Clause). d.literals) c.in_ok-apart.ensures ∙ ap (λ n. (shift n c.args.partner.now.clause).literals) c.width.ensures in
    let right = ap (λ (ls : List Literal). numbered ls c.args.site.now.partner_lit) (sym apart) ∙ sym c.in-Some-literal.ensures in
    (is_this c.args.given.now c.args.partner.now c.args.site.now c.requires.site.0 c.requires.site.1 c.in-Some.l.now c.in-Some-literal.m.now left right).resolved

pub returns : goal.returns
returns c = λ i h.
    let left = ap (λ (ls : List Literal). numbered ls c.args.site.now.given_lit) (sym c.as_slice.ensures) ∙ sym c.in-Some.ensures in
    let apart : c.as_slice-2.result.now ≡ renamed c.args.given.now c.args.partner.now =
    c.as_slice-2.ensures ∙ ap (λ (d : Clause). d.literals) c.in_ok-apart.ensures ∙ ap (λ n. (shift n c.args.partner.now.clause).literals) c.width.ensures in
    let right = ap (λ (ls : List Literal). numbered ls c.args.site.now.partner_lit) (sym apart) ∙ sym c.in-Some-literal.ensures in
    subst (λ (j : Inference). IfOk c.resolved_on.result (λ made. Makes j made)) (sym (is_this c.args.given.now c.args.partner.now c.args.site.now i h c.in-Some.l.now c.in-Some-literal.m.now left right).is) c.resolved_on.ensures
