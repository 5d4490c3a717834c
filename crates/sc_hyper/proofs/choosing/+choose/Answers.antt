use Rattle.std.proofs.Common.{◌≡◌, ◌∙◌, sym, ap, subst, ◌<◌, ◌+◌, ◌==◌, List, ◌∷◌, [], ◌++◌, length, Some, Option, slice_get, refl, arith}
use Rattle.std.specs.Prelude.{MatchOption}
use Rattle.std.proofs.lemmas.Option.{MatchOption-at_some, slice_get_read}
use Rattle.std.proofs.lemmas.Bool.{eqb-true}
use Rattle.sc_core_rules.specs.declared.site.HyperSite.{HyperSite}
use Rattle.sc_core_rules.specs.Hyperresolution.{hyper_numbers}
use Rattle.sc_resolve.specs.Extending.{Extends}
use Rattle.sc_resolve.proofs.Extending.{goes_on, stops}
use Rattle.sc_resolve.proofs.LiteralLaws.{contains_at}
use Rattle.sc_hyper.specs.declared.choice.PartialSite.{PartialSite}
use Rattle.sc_hyper.specs.Choosing.{IsNext, IsRefused, IsWithNext}
use Rattle.sc_hyper.proofs.ChoosingLaws.{as_many, chosen_next, refused, next_rise, all_next, with_next, without_next}
use Rattle.sc_hyper.proofs.choosing.+choose.Goals as goal
use Rattle.sc_hyper.proofs.choosing.+choose.Goals.{in-Some+in_ok-choose-in-Some, in-None}

pub returns-then-len-limit : goal.returns-then-len-limit
returns-then-len-limit t c = λ low cs chosen.
    let all = c.args.candidates.now in
    let ls = c.args.negatives.now in
    let short : length cs < length ls = omega (arith, as_many all low ls cs c.args.choice.now chosen, c.len-depth.ensures, c.if-depth-negatives.false) in
    all_next c.args.nucleus c.args.given all low ls cs c.args.limit (length all) c.args.sites.now c.loop-at.sites short refl
    (stops hyper_numbers c.args.limit (IsWithNext c.args.nucleus c.args.given all low ls cs) (next_rise c.args.nucleus c.args.given all low ls cs c.requires.rising)
    c.loop-at.at (length all) c.args.sites.now c.loop-at.sites (c.loop-at.invariant low cs chosen) (omega arith) (omega arith))

pub loop-at-preserved : goal.loop-at-preserved
loop-at-preserved t c = λ low cs chosen.
    let all = c.args.candidates.now in
    let ls = c.args.negatives.now in
    let choice = c.args.choice.now in
    let at = c.loop-at.at in
    let last = (c.len-depth.result + 1) == length ls in
    let l = c.index-negatives-depth.result in
    let next = c.index-candidates-at.result in
    let there = slice_get_read all (length all) at next (λ i. length all) c.loop-at-test.true c.index-candidates-at.is in
    let left : slice_get ls (length choice.picks) ≡ Some l =
    ap (slice_get ls) (sym c.len-depth.ensures) ∙ slice_get_read ls (length ls) c.len-depth.result l (λ i. length ls) c.if-depth-negatives.false c.index-negatives-depth.is in
    goes_on hyper_numbers c.args.limit (IsWithNext c.args.nucleus c.args.given all low ls cs) (next_rise c.args.nucleus c.args.given all low ls cs c.requires.rising)
    at c.args.sites.now c.loop-at.sites c.match-branch-2.sites (c.loop-at.invariant low cs chosen)
    (elim c.match-branch-2.branch [
      | in-Some+in_ok-choose-in-Some w ↦
          let longer = MatchOption-at_some (IsRefused c.args.nucleus c.args.given choice l next last) (λ longer. IsNext choice l next longer) w.in-Some.longer w.in-Some.is c.in_ok-longer.ensures in
          subst (λ (ss : List HyperSite). Extends hyper_numbers (IsWithNext c.args.nucleus c.args.given all low ls cs at) c.args.limit c.loop-at.sites ss) (sym w.sites-is)
          (with_next c.args.nucleus c.args.given all low ls cs at next there c.args.limit c.loop-at.sites w.choose.new.sites
          (w.in_ok-choose-in-Some.ensures low (cs ++ next ∷ []) (chosen_next all low ls cs choice chosen l next left w.in-Some.longer longer (contains_at all at next there))))
      | in-None w ↦
          let none = subst (λ (o : Option PartialSite). MatchOption o (IsRefused c.args.nucleus c.args.given choice l next last) (λ longer. IsNext choice l next longer)) w.in-None.is c.in_ok-longer.ensures in
          subst (λ (ss : List HyperSite). Extends hyper_numbers (IsWithNext c.args.nucleus c.args.given all low ls cs at) c.args.limit c.loop-at.sites ss) (sym w.sites-is)
          (without_next c.args.nucleus c.args.given all low ls cs at next there c.args.limit c.loop-at.sites (refused c.args.nucleus c.args.given all low ls cs choice chosen l next left last (λ e. omega (arith, eqb-true (c.len-depth.result + 1) (length ls) e, c.len-depth.ensures)) none))
    ])

pub returns : goal.returns
returns t c = λ low cs chosen.
    let all = c.args.candidates.now in
    let ls = c.args.negatives.now in
    let short : length cs < length ls = omega (arith, as_many all low ls cs c.args.choice.now chosen, c.len-depth.ensures, c.if-depth-negatives.false) in
    all_next c.args.nucleus c.args.given all low ls cs c.args.limit c.loop-at.at c.args.sites.now c.loop-at.sites short (omega (arith, c.loop-at.auto.at-end)) (c.loop-at.invariant low cs chosen)
