use Rattle.std.proofs.Common.{◌∙◌, ap, List, [], ◌∷◌, ◌++◌, Some, get_or, arith}
use Rattle.std.proofs.lemmas.Option.{slice_get-get_or}
use Rattle.sc_term.specs.declared.Numbered.{Numbered}
use Rattle.sc_hyper.proofs.NamedLaws.{not_named, named_next, named_whole}
use Rattle.sc_hyper.proofs.named.named.Goals as goal

pub returns-in-None : goal.returns-in-None
returns-in-None c = λ ps h.
    let numbers = c.args.numbers.now in
    let k = c.loop-n.n-index in
    absurd (not_named c.args.usable.now numbers ps h k (get_or numbers k 0) (slice_get-get_or numbers k 0 (omega arith)) c.in-None.ensures)

pub loop-n-preserved : goal.loop-n-preserved
loop-n-preserved c = λ ps h.
    let numbers = c.args.numbers.now in
    let k = c.loop-n.n-index in
    c.in_ok-push-in-Some.ensures.ok ∙ ap (λ (p : Numbered). c.loop-n.found ++ p ∷ []) c.in_ok-copy_numbered-in-Some.ensures
    ∙ named_next c.args.usable.now numbers ps h c.requires k (get_or numbers k 0) c.in-Some.p.now c.loop-n.found (slice_get-get_or numbers k 0 (omega arith)) c.in-Some.ensures.0 c.in-Some.ensures.1
    (c.loop-n.invariant ps h)

pub returns : goal.returns
returns c = λ ps h. ap (λ (xs : List Numbered). Some xs) (named_whole c.args.usable.now c.args.numbers.now ps h c.loop-n.n-index c.loop-n.found (c.loop-n.invariant ps h) (omega arith))
