use Rattle.std.proofs.Common.{◌∙◌, sym, ap, ◌+◌, List, ◌∷◌, [], ◌++◌, length, slice_get, arith}
use Rattle.std.proofs.lemmas.Option.{slice_get_read}
use Rattle.sc_term.specs.declared.Literal.{Literal}
use Rattle.sc_resolve.proofs.KeptLaws.{kept_width}
use Rattle.sc_hyper.specs.Candidates.{candidate_numbers, IsOfElectron}
use Rattle.sc_hyper.proofs.ExtendingLaws.{further}
use Rattle.sc_hyper.proofs.CandidateLaws.{candidate, of_electron_rise, added}
use Rattle.sc_hyper.proofs.candidates.add_of_electron.Goals as goal

pub width-wide-requires : goal.width-wide-requires
width-wide-requires c = omega (arith, kept_width c.args.electron.now.clause c.requires.kept)

pub loop-at-preserved : goal.loop-at-preserved
loop-at-preserved c =
    let e = c.args.electron.now in
    let all = c.as_slice-literals.result.now in
    let at = c.loop-at.at in
    let l = c.index-literals-at.result in
    let there = slice_get_read all (length all) at l (λ i. length all) c.loop-at-test.true c.index-literals-at.is in
    further candidate_numbers (IsOfElectron e) (of_electron_rise e) at c.args.found.now c.loop-at.found c.push.new.self c.loop-at.invariant
    (added e at l (ap (λ (ls : List Literal). slice_get ls at) (sym c.as_slice-literals.ensures) ∙ there) c.loop-at.found c.push.new.self
    (c.in_ok-push.ensures.ok ∙ (λ i. c.loop-at.found ++ candidate e.number (at + 1) (c.width-wide.ensures i) (c.in_ok-literal.ensures i) ∷ [])))
