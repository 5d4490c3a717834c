use Rattle.std.proofs.Common.{◌≡◌, ◌∙◌, sym, ap, subst, ◌≤◌, ◌<◌, ◌-◌, ◌^◌, List, Some, length, slice_get, arith}
use Rattle.std.specs.Option.{IsSomeAnd}
use Rattle.std.proofs.lemmas.List.{with_items_is}
use Rattle.std.proofs.lemmas.Option.{slice_get-get_or}
use Rattle.sc_term.specs.Numbering.{numbered}
use Rattle.sc_interp.specs.Versions.{ClaimedStructure}
use Rattle.sc_core_rules.specs.Selection.{Seen}
use Rattle.sc_guide.specs.Guided.{Guided, grown, IsKept}
use Rattle.sc_guide.proofs.GuideLaws.{added_kept}
use Rattle.sc_guide.proofs.guide.Guide.receive.Goals as goal

pub invariant_of-self-2 : goal.invariant_of-self-2
invariant_of-self-2 c =
    let lists : Seen = c.self.inside.lists.items in
    let seen_is : lists ≡ c.args.self.now.seen = ap (λ (g : Guided). g.seen) c.self.view_is in
    let within : c.args.finder ≤ length lists = subst (λ (s : Seen). c.args.finder ≤ length s) (sym seen_is) c.requires.there in
    let get : slice_get lists (c.args.finder - 1) ≡ Some c.index.result.now =
    slice_get-get_or lists (c.args.finder - 1) c.index.result.now (omega (arith, within, c.requires.some)) ∙ ap Some (sym c.index.ensures) in
    let few = subst (λ (s : Seen). IsSomeAnd (numbered s c.args.finder) (λ (vs : List ClaimedStructure). length vs < 2 ^ 31)) (sym seen_is) c.requires.few in
    let pushed : c.push.new.lists ≡ grown c.as_mut_slice.result.now c.args.finder c.args.version = c.in_ok-push.ensures.seen in
    let after = pushed ∙ ap (λ (s : Seen). grown s c.args.finder c.args.version) c.as_mut_slice.ensures.value in
    subst (λ (s : Seen). IsKept c.self.inside.opening s c.next_name-name.result)
    (sym (with_items_is c.self.inside.lists c.push.new.lists (omega (arith, c.push.auto.lists, c.as_mut_slice.ensures.len))))
    (added_kept c.self.inside.opening lists c.as_slice.result.now c.push.new.lists c.args.finder c.len-place.result c.args.version c.index.result.now c.self.inside.name c.next_name-name.result
    c.requires.some get few c.len-place.ensures c.as_slice.ensures.value after c.self.invariant c.next_name-name.ensures)
