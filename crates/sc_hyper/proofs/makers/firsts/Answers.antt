use Rattle.std.proofs.Common.{◌∙◌, sym, ap, ℕ, List, [], ◌∷◌, ◌++◌, map, take, get_or, arith}
use Rattle.std.proofs.lemmas.List.{map-append}
use Rattle.std.proofs.lemmas.Option.{slice_get-get_or}
use Rattle.sc_hyper.proofs.ListPieces.{take_next}
use Rattle.sc_hyper.proofs.makers.firsts.Goals as goal

abbrev one : ℕ → ℕ
one n = 1

pub loop-unit-preserved : goal.loop-unit-preserved
loop-unit-preserved c =
    let units = c.args.units.now in
    let k = c.loop-unit._unit-index in
    c.in_ok-push.ensures.ok ∙ ap (λ (ns : List ℕ). ns ++ 1 ∷ []) c.loop-unit.invariant ∙ sym (map-append one (take k units) (get_or units k 0 ∷ []))
    ∙ ap (λ (ns : List ℕ). map one ns) (sym (take_next units k (get_or units k 0) (slice_get-get_or units k 0 (omega arith))))
