use Rattle.std.proofs.Common.{◌∙◌, sym, ap, subst, ℕ, List, Option}
use Rattle.std.specs.Prelude.{MatchOption}
use Rattle.std.proofs.lemmas.Option.{MatchOption-at_some}
use Rattle.sc_term.specs.declared.Term.{Term}
use Rattle.sc_term.specs.declared.Literal.{Literal}
use Rattle.sc_term.specs.Numbering.{numbered}
use Rattle.sc_term.specs.Path.{IsReplaced}
use Rattle.sc_para.specs.Conclusion.{AreSidesOf}
use Rattle.sc_para.proofs.ConclusionLaws.{must_change, is_changed}
use Rattle.sc_para.proofs.conclusion.changed_literal.Goals as goal

pub returns-in_default : goal.returns-in_default
returns-in_default c =
    c.in_default.ensures.none c.requires.s c.requires.t
    (subst (λ (ls : List Literal). AreSidesOf ls c.args.site.now.from_lit c.args.site.now.side c.requires.s c.requires.t) (sym c.as_slice.ensures) c.requires.sides)

pub returns-in_default-2 : goal.returns-in_default-2
returns-in_default-2 c =
    let site = c.args.site.now in
    let other = c.in-Some.other.now in
    let target = c.in-Some-literal.target.now in
    let sides = subst (λ (ls : List Literal). AreSidesOf ls site.from_lit site.side c.in-Some.field-0-0.now other) c.as_slice.ensures c.in-Some.ensures.found in
    let there = ap (λ (ls : List Literal). numbered ls site.into_lit) (sym c.as_slice-2.ensures) ∙ sym c.in-Some-literal.ensures in
    let never = subst (λ (o : Option (List Term)). MatchOption o ((s : Term) (new : List Term) → ¬ IsReplaced c.as_slice-3.result.now c.as_slice-4.result.now s other new)
    (λ new. (s : Term) × IsReplaced c.as_slice-3.result.now c.as_slice-4.result.now s other new)) c.in_default-2.is c.in_ok-args.ensures in
    must_change c.args.left.now c.args.right.now site c.requires c.in-Some.field-0-0.now other sides target there
    (subst (λ (ts : List Term). (s : Term) (new : List Term) → ¬ IsReplaced ts site.path s other new) c.as_slice-3.ensures
    (subst (λ (p : List ℕ). (s : Term) (new : List Term) → ¬ IsReplaced c.as_slice-3.result.now p s other new) c.as_slice-4.ensures never))

pub returns : goal.returns
returns c =
    let site = c.args.site.now in
    let other = c.in-Some.other.now in
    let target = c.in-Some-literal.target.now in
    let sides = subst (λ (ls : List Literal). AreSidesOf ls site.from_lit site.side c.in-Some.field-0-0.now other) c.as_slice.ensures c.in-Some.ensures.found in
    let there = ap (λ (ls : List Literal). numbered ls site.into_lit) (sym c.as_slice-2.ensures) ∙ sym c.in-Some-literal.ensures in
    let made = MatchOption-at_some ((s : Term) (new : List Term) → ¬ IsReplaced c.as_slice-3.result.now c.as_slice-4.result.now s other new)
    (λ new. (s : Term) × IsReplaced c.as_slice-3.result.now c.as_slice-4.result.now s other new) c.in-Some-2.args c.in-Some-2.is c.in_ok-args.ensures in
    is_changed c.args.left.now c.args.right.now site c.requires c.in-Some.field-0-0.now other sides target there made.0 c.in-Some-2.args
    (subst (λ (ts : List Term). IsReplaced ts site.path made.0 other c.in-Some-2.args) c.as_slice-3.ensures
    (subst (λ (p : List ℕ). IsReplaced c.as_slice-3.result.now p made.0 other c.in-Some-2.args) c.as_slice-4.ensures made.1))
