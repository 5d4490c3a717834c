use Rattle.std.proofs.Common.{sym, subst, refl, MatchOption, true≢false}
use Rattle.sc_subsume.specs.Search.{HasNoPlace, IsFirstPlace}
use Rattle.sc_subsume.proofs.SearchLaws.{found_one, none_of_one}
use Rattle.sc_subsume.proofs.search.one_goes_into.Goals as goal

pub returns-in-Some : goal.returns-in-Some
returns-in-Some c =
    let l = c.args.l.now in
    let d = c.args.d.now in
    let old = c.new-bound.result.items in
    let new = c.next_place.new.bound.items in
    let h = subst (λ o. MatchOption o (HasNoPlace l d 0 old new) (λ place. IsFirstPlace l d 0 place old new)) c.in-Some.is c.in_ok-next_place.ensures in
    (λ e. found_one l d _ old new c.new-bound.ensures.items h, λ g. refl)

pub returns : goal.returns
returns c =
    let l = c.args.l.now in
    let d = c.args.d.now in
    let old = c.new-bound.result.items in
    let new = c.next_place.new.bound.items in
    let h = subst (λ o. MatchOption o (HasNoPlace l d 0 old new) (λ place. IsFirstPlace l d 0 place old new)) c.in-None.is c.in_ok-next_place.ensures in
    (λ e. absurd (true≢false (sym e)), λ g. absurd (none_of_one l d old new c.new-bound.ensures.items h g))
