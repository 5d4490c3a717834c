use Rattle.std.proofs.Common.{[], ◌++◌, ap, sym, subst, rules}
use Rattle.std.specs.Borrow.{Bor}
use Rattle.std.proofs.lemmas.List.Sorted.{IsPermutation-map, IsNonDecreasingBy-from_sort_by_key}
use Rattle.sc_term.specs.declared.Numbered.{Numbered}
use Rattle.sc_core_rules.specs.Order.{IsFilter, none}
use Rattle.sc_resolve.specs.ByNumber.{seen}
use Rattle.sc_resolve.proofs.OrderLaws.{seen_up}
use Rattle.sc_keep.specs.LiveUnits.{HasOneLiteral}
use Rattle.sc_keep.proofs.SimplifyUnits.{units_sorted}
use Rattle.sc_keep.proofs.units_in_order.units_in_order.Goals as goal

pub returns : goal.returns
returns c =
    let us = c.args.live.usable.now in
    let ss = c.args.live.sos.now in
    let ps = c.args.live.passive.now in
    let now = c.sort_by_key.new.self.items in
    let start : IsFilter HasOneLiteral [] (seen c.new-units.result.items) = subst (IsFilter HasOneLiteral []) (sym (ap seen c.new-units.ensures.items)) none in
    let picked = c.in_ok-note_units-3.ensures (us ++ ss) (c.in_ok-note_units-2.ensures us (c.in_ok-note_units.ensures [] start)) in
    units_sorted (us ++ ss ++ ps) (seen c.note_units-3.new.units.items) (seen now) c.requires picked
    (IsPermutation-map (λ (p : Bor Numbered). p.now) c.note_units-3.new.units.items now c.sort_by_key.ensures.permutation)
    (seen_up now (IsNonDecreasingBy-from_sort_by_key (λ p. p.now.number) _ c.in_ok-sort_by_key.ensures.sorted (λ a r q k. search rules)))
