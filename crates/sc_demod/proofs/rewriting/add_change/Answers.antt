use Rattle.std.proofs.Common.{◌≡◌, ◌∙◌, ℕ, ◌++◌, ◌∷◌, [], List, length}
use Rattle.sc_term.specs.declared.Clause.{Clause}
use Rattle.sc_term.specs.declared.Line.{Line}
use Rattle.sc_term.specs.declared.Step.TheVariants.{Para}
use Rattle.sc_term.specs.declared.Side.TheVariants.{Left}
use Rattle.sc_demod.proofs.ChangeLaws.{terms_of_change, change_rewrites}
use Rattle.sc_demod.proofs.rewriting.add_change.Goals as goal

pub add_part-requires-clause-terms : goal.add_part-requires-clause-terms
add_part-requires-clause-terms c =
    let m = c.args.made in
    let r = m.found.redex in
    terms_of_change c.args.demods.now c.requires.are c.args.clause.now m.found.literal r.path.items r.place r.terms m.part m.after c.requires.change c.index-demods-redex.result c.index-demods-redex.is

pub returns : goal.returns
returns c =
    let m = c.args.made in
    let r = m.found.redex in
    let before = c.args.lines.now in
    let mid = c.add_part.new.lines in
    let k = c.in_ok-from.from in
    let into : c.in_ok-into.into ≡ length before = c.in_ok-into.ensures.value.0 in
    let line = λ (n : ℕ) (p : List ℕ) (d : Clause). let one : Line = record { step = Para k 1 Left n m.found.literal p; clause = d } in one in
    let grows : c.add_line.new.lines ≡ mid ++ line (length before) r.path.items m.after ∷ [] = c.in_ok-add_line.ensures.grown ∙ (λ i. mid ++ line (into i) (c.from_vec.ensures i) (c.in_ok-copied.ensures i) ∷ []) in
    change_rewrites c.args.demods.now c.requires.are c.args.clause.now m.found.literal r.path.items r.place r.terms m.part m.after c.requires.change c.index-demods-redex.result c.index-demods-redex.is
    before mid c.add_line.new.lines k c.requires.ends c.requires.agrees c.in_ok-from.ensures.adds grows
