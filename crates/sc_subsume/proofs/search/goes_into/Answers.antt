use Rattle.std.proofs.Common.{◌≡◌, ◌∙◌, ℕ, sym, subst, ap, refl, ◌+◌, ◌<◌, List, [], length, get_or, MatchOption, arith, true≢false}
use Rattle.std.proofs.lemmas.List.{length-map, get_or-map}
use Rattle.sc_subsume.specs.declared.order.Asked.{Asked}
use Rattle.sc_subsume.specs.declared.search.Branch.{Branch}
use Rattle.sc_subsume.specs.Search.{literals, HasNoPlace, IsFirstPlace, IsSearch, left_to_try}
use Rattle.sc_subsume.proofs.SearchLaws as search_laws
use Rattle.sc_subsume.proofs.LeftLaws as left_laws
use Rattle.sc_subsume.proofs.search.goes_into.Goals as goal

length_literals : (all : List Asked) → length (literals all) ≡ length all
length_literals all = length-map all (λ (one : Asked). one.literal.now)

asked_at : (all : List Asked) (k n : ℕ) (d : Asked) → k < length all → k ≡ n → (get_or all k d).literal.now ≡ get_or (literals all) n (get_or all k d).literal.now
asked_at all k n d within same =
    sym (get_or-map (λ (o : Asked). o.literal.now) all k d (get_or all k d).literal.now within) ∙ ap (λ j. get_or (literals all) j (get_or all k d).literal.now) same

pub loop-bound-init : goal.loop-bound-init
loop-bound-init c =
    subst (λ bs. IsSearch (literals c.args.c.now) c.args.d.now bs c.new-choices.result 0) (sym c.new-bound.ensures.items)
    (subst (λ cs. IsSearch (literals c.args.c.now) c.args.d.now [] cs 0) (sym c.new-choices.ensures) (search_laws.at_first (literals c.args.c.now) c.args.d.now))

pub loop-bound-smaller-in-Some : goal.loop-bound-smaller-in-Some
loop-bound-smaller-in-Some c =
    let cs = literals c.args.c.now in
    let ds = c.args.d.now in
    let old = c.loop-bound.bound.items in
    let new = c.next_place.new.bound.items in
    let choices = c.loop-bound.choices in
    let next = c.loop-bound.next in
    let l = (get_or c.args.c.now c.len-in-loop-bound.result c.index-c-len.result).literal.now in
    let h = subst (λ o. MatchOption o (HasNoPlace l ds next old new) (λ place. IsFirstPlace l ds next place old new)) c.in-Some.is c.in_ok-place.ensures in
    let one : Branch = record { place = c.last_tried.result; bound = c.len-before.result } in
    let few : length choices < length cs = omega (arith, c.loop-bound-test.true, c.len.ensures, length_literals c.args.c.now) in
    let before : c.len-before.result ≡ length old = omega arith in
    let tried = search_laws.last_tried c.in-Some.place (length ds) c.last_tried.result old new h.within h.extends
    (λ less. c.last_tried.ensures.taken (omega arith)) (λ le. let end = c.last_tried.ensures.last (omega arith) in omega (arith, end)) in
    subst (λ now. left_to_try (length ds) (length cs) now 0 < left_to_try (length ds) (length cs) choices next) (sym c.in_ok-push-in-Some.ensures.ok)
    (left_laws.chosen (length ds) (length cs) choices one next few (omega (arith, h.least, tried.least)) tried.within)

pub loop-bound-preserved-in-Some : goal.loop-bound-preserved-in-Some
loop-bound-preserved-in-Some c =
    let cs = literals c.args.c.now in
    let ds = c.args.d.now in
    let old = c.loop-bound.bound.items in
    let new = c.next_place.new.bound.items in
    let choices = c.loop-bound.choices in
    let next = c.loop-bound.next in
    let l = (get_or c.args.c.now c.len-in-loop-bound.result c.index-c-len.result).literal.now in
    let h = subst (λ o. MatchOption o (HasNoPlace l ds next old new) (λ place. IsFirstPlace l ds next place old new)) c.in-Some.is c.in_ok-place.ensures in
    let one : Branch = record { place = c.last_tried.result; bound = c.len-before.result } in
    let few : length choices < length cs = omega (arith, c.loop-bound-test.true, c.len.ensures, length_literals c.args.c.now) in
    let at : l ≡ get_or cs (length choices) l = asked_at c.args.c.now c.len-in-loop-bound.result (length choices) c.index-c-len.result (omega (arith, few, c.len-in-loop-bound.ensures, length_literals c.args.c.now)) c.len-in-loop-bound.ensures in
    let before : c.len-before.result ≡ length old = omega arith in
    let tried = search_laws.last_tried c.in-Some.place (length ds) c.last_tried.result old new h.within h.extends
    (λ less. c.last_tried.ensures.taken (omega arith)) (λ le. let end = c.last_tried.ensures.last (omega arith) in omega (arith, end)) in
    search_laws.chosen cs ds old new choices c.push.new.self next c.in-Some.place l one c.loop-bound.invariant few at h tried before c.in_ok-push-in-Some.ensures.ok

pub overflow_add-next : goal.overflow_add-next
overflow_add-next c =
    let place = search_laws.last_place (literals c.args.c.now) c.args.d.now c.loop-bound.bound.items c.loop-bound.choices c.pop.new.self c.loop-bound.next c.in-Some-pop.last c.loop-bound.invariant c.in-Some-pop.ensures in
    omega (arith, place)

pub loop-bound-smaller : goal.loop-bound-smaller
loop-bound-smaller c =
    let cs = literals c.args.c.now in
    let ds = c.args.d.now in
    let choices = c.loop-bound.choices in
    let now = c.pop.new.self in
    let last = c.in-Some-pop.last in
    let next = c.loop-bound.next in
    let few : length choices < length cs = omega (arith, c.loop-bound-test.true, c.len.ensures, length_literals c.args.c.now) in
    let fewer : length now < length cs = omega (arith, few, ap length c.in-Some-pop.ensures, search_laws.fewer now last) in
    let place = search_laws.last_place cs ds c.loop-bound.bound.items choices now next last c.loop-bound.invariant c.in-Some-pop.ensures in
    subst (λ before. left_to_try (length ds) (length cs) now (last.place + 1) < left_to_try (length ds) (length cs) before next) (sym c.in-Some-pop.ensures)
    (left_laws.undone (length ds) (length cs) now last next fewer c.loop-bound.invariant.within place)

pub loop-bound-preserved : goal.loop-bound-preserved
loop-bound-preserved c =
    let cs = literals c.args.c.now in
    let ds = c.args.d.now in
    let old = c.loop-bound.bound.items in
    let mid = c.next_place.new.bound.items in
    let choices = c.loop-bound.choices in
    let next = c.loop-bound.next in
    let l = (get_or c.args.c.now c.len-in-loop-bound.result c.index-c-len.result).literal.now in
    let h = subst (λ o. MatchOption o (HasNoPlace l ds next old mid) (λ place. IsFirstPlace l ds next place old mid)) c.in-None.is c.in_ok-place.ensures in
    let few : length choices < length cs = omega (arith, c.loop-bound-test.true, c.len.ensures, length_literals c.args.c.now) in
    let at : l ≡ get_or cs (length choices) l = asked_at c.args.c.now c.len-in-loop-bound.result (length choices) c.index-c-len.result (omega (arith, few, c.len-in-loop-bound.ensures, length_literals c.args.c.now)) c.len-in-loop-bound.ensures in
    search_laws.undone cs ds old mid c.truncate.new.self.items choices c.pop.new.self next l c.in-Some-pop.last c.loop-bound.invariant few at h c.in-Some-pop.ensures c.truncate.ensures.items

pub returns-in-None-pop : goal.returns-in-None-pop
returns-in-None-pop c =
    let cs = literals c.args.c.now in
    let ds = c.args.d.now in
    let old = c.loop-bound.bound.items in
    let mid = c.next_place.new.bound.items in
    let choices = c.loop-bound.choices in
    let next = c.loop-bound.next in
    let l = (get_or c.args.c.now c.len-in-loop-bound.result c.index-c-len.result).literal.now in
    let h = subst (λ o. MatchOption o (HasNoPlace l ds next old mid) (λ place. IsFirstPlace l ds next place old mid)) c.in-None.is c.in_ok-place.ensures in
    let few : length choices < length cs = omega (arith, c.loop-bound-test.true, c.len.ensures, length_literals c.args.c.now) in
    let at : l ≡ get_or cs (length choices) l = asked_at c.args.c.now c.len-in-loop-bound.result (length choices) c.index-c-len.result (omega (arith, few, c.len-in-loop-bound.ensures, length_literals c.args.c.now)) c.len-in-loop-bound.ensures in (
      λ e. absurd (true≢false (sym e)),
      λ goes. absurd (search_laws.not_found cs ds old mid choices next l c.loop-bound.invariant c.in-None-pop.ensures.0 few at h goes),
    )

pub returns : goal.returns
returns c = (
  λ e. search_laws.found (literals c.args.c.now) c.args.d.now c.loop-bound.bound.items c.loop-bound.choices c.loop-bound.next c.loop-bound.invariant (omega (arith, c.loop-bound-test.false, c.len.ensures, length_literals c.args.c.now)),
  λ goes. refl,
)
