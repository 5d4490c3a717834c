use Rattle.std.proofs.Common.{◌≡◌, ◌∙◌, ap, sym, subst, List, ℕ, arith}
use Rattle.std.specs.Prelude.{IfOk}
use Rattle.sc_term.specs.declared.Term.{Term}
use Rattle.sc_term.specs.declared.Literal.{Literal}
use Rattle.sc_term.specs.declared.Clause.{Clause}
use Rattle.sc_term.specs.Numbering.{numbered}
use Rattle.sc_term.specs.Path.{IsSubtermAt}
use Rattle.sc_term.specs.Proof.{chosen, other}
use Rattle.sc_term.specs.JointInstance.{shift}
use Rattle.sc_core_rules.specs.Inference.{Inference}
use Rattle.sc_resolve.specs.Binary.{renamed}
use Rattle.sc_resolve.specs.Made.{Makes}
use Rattle.sc_resolve.proofs.KeptLaws.{kept_width}
use Rattle.sc_para.specs.Conclusion.{AreSidesOf}
use Rattle.sc_para.proofs.ParaLaws.{sides_there, is_replaced}
use Rattle.sc_para.proofs.making.make_para.Goals as goal

pub width-requires : goal.width-requires
width-requires c = omega (arith, kept_width c.args.from.now.clause c.requires.from)

pub shift-requires : goal.shift-requires
shift-requires c = omega (arith, kept_width c.args.from.now.clause c.requires.from, kept_width c.args.into.now.clause c.requires.into)

pub returns-in_default : goal.returns-in_default
returns-in_default c = λ i h d k.
    let site = c.args.site.now in
    c.in_default.ensures.none (chosen site.side h.left h.right) (other site.side h.left h.right)
    (subst (λ (ls : List Literal). AreSidesOf ls site.from_lit site.side (chosen site.side h.left h.right) (other site.side h.left h.right)) (sym c.as_slice-sources.ensures)
    (sides_there c.args.from.now c.args.into.now site i h))

pub replaced_on-requires-clause-replaced : goal.replaced_on-requires-clause-replaced
replaced_on-requires-clause-replaced c =
    let site = c.args.site.now in
    let apart : c.as_slice.result.now ≡ renamed c.args.from.now c.args.into.now =
    c.as_slice.ensures ∙ ap (λ (d : Clause). d.literals) c.in_ok-apart.ensures ∙ ap (λ n. (shift n c.args.into.now.clause).literals) c.width.ensures in
    let sides = subst (λ (ls : List Literal). AreSidesOf ls site.from_lit site.side c.in-Some.side.now c.in-Some.field-0-1.now) c.as_slice-sources.ensures c.in-Some.ensures.found in
    let there = ap (λ (ls : List Literal). numbered ls site.into_lit) (sym apart) ∙ sym c.in-Some-literal.ensures in
    let sub = subst (λ (ts : List Term). IsSubtermAt ts site.path c.in-Some-subterm_at.subterm.now) c.as_slice-2.ensures
    (subst (λ (p : List ℕ). IsSubtermAt c.as_slice-2.result.now p c.in-Some-subterm_at.subterm.now) c.as_slice-3.ensures c.in-Some-subterm_at.ensures.found) in
    (is_replaced c.args.from.now c.args.into.now site c.requires.site.0 c.requires.site.1 c.in-Some.side.now c.in-Some.field-0-1.now sides c.in-Some-literal.target.now there
    c.in-Some-subterm_at.subterm.now sub c.in_ok-l.l c.in_ok-m.m c.in_ok-l.ensures c.in_ok-m.ensures).0

pub returns : goal.returns
returns c = λ i h.
    let site = c.args.site.now in
    let apart : c.as_slice.result.now ≡ renamed c.args.from.now c.args.into.now =
    c.as_slice.ensures ∙ ap (λ (d : Clause). d.literals) c.in_ok-apart.ensures ∙ ap (λ n. (shift n c.args.into.now.clause).literals) c.width.ensures in
    let sides = subst (λ (ls : List Literal). AreSidesOf ls site.from_lit site.side c.in-Some.side.now c.in-Some.field-0-1.now) c.as_slice-sources.ensures c.in-Some.ensures.found in
    let there = ap (λ (ls : List Literal). numbered ls site.into_lit) (sym apart) ∙ sym c.in-Some-literal.ensures in
    let sub = subst (λ (ts : List Term). IsSubtermAt ts site.path c.in-Some-subterm_at.subterm.now) c.as_slice-2.ensures
    (subst (λ (p : List ℕ). IsSubtermAt c.as_slice-2.result.now p c.in-Some-subterm_at.subterm.now) c.as_slice-3.ensures c.in-Some-subterm_at.ensures.found) in
    subst (λ (j : Inference). IfOk c.replaced_on.result (λ made. Makes j made))
    (sym (is_replaced c.args.from.now c.args.into.now site i h c.in-Some.side.now c.in-Some.field-0-1.now sides c.in-Some-literal.target.now there
    c.in-Some-subterm_at.subterm.now sub c.in_ok-l.l c.in_ok-m.m c.in_ok-l.ensures c.in_ok-m.ensures).1) c.replaced_on.ensures
