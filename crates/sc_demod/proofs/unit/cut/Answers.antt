use Rattle.std.proofs.Common.{◌≡◌, ◌∙◌, sym, ap, subst, ℕ, ◌+◌, ◌++◌, ◌∷◌, [], List, length, get_or, arith}
use Rattle.sc_term.specs.declared.Clause.{Clause}
use Rattle.sc_term.specs.declared.Line.{Line}
use Rattle.sc_term.specs.declared.Literal.{Literal}
use Rattle.sc_term.specs.declared.Step.TheVariants.{Resolve}
use Rattle.sc_term.specs.Numbering.{numbered}
use Rattle.sc_steps.proofs.ListLaws.{some_and}
use Rattle.sc_core_rules.specs.Derivation.{AreTermsTo, AddsPart}
use Rattle.sc_demod.specs.Deleting.{IsRemoval}
use Rattle.sc_demod.proofs.WeightLaws.{few_literals}
use Rattle.sc_demod.proofs.CutLaws.{terms_of_removal, is_cut, named}
use Rattle.sc_demod.proofs.unit.cut.Goals as goal

pub add_part-requires-clause-terms : goal.add_part-requires-clause-terms
add_part-requires-clause-terms c =
    let ls = c.args.clause.literals in
    let l = c.index-as_slice-at.result in
    let u = c.args.u.now in
    let here : l ≡ get_or ls c.args.at l = c.index-as_slice-at.is ∙ ap (λ (ls : List Literal). get_or ls c.args.at l) c.as_slice.ensures in
    let there = some_and (numbered ls (c.args.at + 1)) (λ l. IsRemoval l u c.args.terms) c.requires.removes in
    let same = named ls c.args.at l there.0 c.requires.there here there.1 in
    subst (λ q. AreTermsTo u.clause q c.args.terms) (sym c.in_ok-part.ensures) (terms_of_removal l u c.args.terms (subst (λ l. IsRemoval l u c.args.terms) (sym same) there.2))

pub overflow_cast-left_lit : goal.overflow_cast-left_lit
overflow_cast-left_lit c = omega (arith, few_literals (c.args.clause).literals, c.requires.there, c.requires.light)

pub overflow_add-left_lit : goal.overflow_add-left_lit
overflow_add-left_lit c = omega (arith, few_literals (c.args.clause).literals, c.requires.there, c.requires.light)

pub returns : goal.returns
returns c =
    let ls = c.args.clause.literals in
    let at = c.args.at in
    let l = c.index-as_slice-at.result in
    let before = c.args.lines.now in
    let mid = c.add_part.new.lines in
    let k = c.in_ok-right.right in
    let cut : Clause = record { literals = c.remove.new.self } in
    let here : l ≡ get_or ls at l = c.index-as_slice-at.is ∙ ap (λ (ls : List Literal). get_or ls at l) c.as_slice.ensures in
    let shows = subst (λ q. AddsPart before c.args.u.now q mid k) c.in_ok-part.ensures c.in_ok-right.ensures.adds in
    let left : c.in_ok-left.left ≡ length before = c.in_ok-left.ensures.value.0 in
    let copied : c.in_ok-copied.copied ≡ cut = c.in_ok-copied.ensures in
    let line = λ (n : ℕ) (d : Clause). let one : Line = record { step = Resolve n (at + 1) k 1; clause = d } in one in
    let grows : c.add_line.new.lines ≡ mid ++ line (length before) cut ∷ [] = c.in_ok-add_line.ensures.grown ∙ (λ i. mid ++ line (left i) (copied i) ∷ []) in
    is_cut c.args.clause before at c.args.u.now l mid c.add_line.new.lines k cut c.requires.there here c.requires.ends c.requires.agrees shows c.remove.ensures.rest grows
