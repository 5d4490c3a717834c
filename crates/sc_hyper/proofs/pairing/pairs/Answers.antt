use Rattle.std.proofs.Common.{◌∙◌, sym, ap, List, Some, get_or, arith}
use Rattle.std.proofs.lemmas.Option.{slice_get-get_or}
use Rattle.sc_term.specs.declared.Pair.{Pair}
use Rattle.sc_hyper.proofs.PairingLaws.{not_short, no_pair, pairs_next, pairs_whole}
use Rattle.sc_hyper.proofs.pairing.pairs.Goals as goal

pub returns-then-at-others : goal.returns-then-at-others
returns-then-at-others c = λ ps h.
    let lits = c.args.lits.now in
    let at = c.loop-at.at in
    absurd (not_short c.args.parents.now lits c.args.others.now ps h at (get_or lits at 0) (slice_get-get_or lits at 0 (omega arith)) (omega arith))

pub returns-in-None : goal.returns-in-None
returns-in-None c = λ ps h.
    let lits = c.args.lits.now in
    let others = c.args.others.now in
    let at = c.loop-at.at in
    absurd (no_pair c.args.parents.now lits others ps h at (get_or lits at 0) (slice_get-get_or lits at 0 (omega arith)) (get_or others at 0) (slice_get-get_or others at 0 (omega arith))
    (λ q left right. sym c.in-None.is ∙ c.in_ok-p.ensures q left right))

pub loop-at-preserved : goal.loop-at-preserved
loop-at-preserved c = λ ps h.
    let lits = c.args.lits.now in
    let others = c.args.others.now in
    let at = c.loop-at.at in
    c.in_ok-push-in-Some.ensures.ok
    ∙ pairs_next c.args.parents.now lits others ps h at (get_or lits at 0) (slice_get-get_or lits at 0 (omega arith)) (get_or others at 0) (slice_get-get_or others at 0 (omega arith)) c.in-Some.p c.loop-at.found
    (λ q left right. sym c.in-Some.is ∙ c.in_ok-p.ensures q left right) (c.loop-at.invariant ps h)

pub returns : goal.returns
returns c = λ ps h. ap (λ (xs : List Pair). Some xs) (pairs_whole c.args.parents.now c.args.lits.now c.args.others.now ps h c.loop-at.at c.loop-at.found (c.loop-at.invariant ps h) (omega arith))
