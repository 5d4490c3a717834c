use Rattle.std.proofs.Common.{◌∙◌, sym, subst, List}
use Rattle.std.proofs.lemmas.Map.Keys.{IsStrictlyIncreasing-dedup}
use Rattle.std.proofs.lemmas.List.Filters.{dedup_is}
use Rattle.std.specs.List.Sorted.{IsStrictlyIncreasing}
use Rattle.sc_index.specs.Entries.{IsWanted, AreNumbers, AreNumbersAt, stored_take, asked_take, present}
use Rattle.sc_index.specs.Flat.{literal_cells}
use Rattle.sc_index.specs.Walking.{FindsAll}
use Rattle.sc_index.proofs.EntryLaws.{all_wanted, sorted_once}
use Rattle.sc_index.proofs.asking.ask.Goals as goal

pub returns-clause-rising : goal.returns-clause-rising
returns-clause-rising c =
    subst IsStrictlyIncreasing (sym (c.from_vec.ensures ∙ dedup_is _ c.sort_unstable.new.self.items c.dedup.new.self.items c.dedup.ensures.filtered))
    (IsStrictlyIncreasing-dedup c.sort_unstable.new.self.items c.sort_unstable.ensures.sorted)

pub returns-clause-exact : goal.returns-clause-exact
returns-clause-exact c =
    let w = c.args.wanted in
    let l = c.args.lit.now in
    let P = IsWanted w l in
    let nodes = c.args.nodes.now in
    let slots = c.args.slots.now in
    let found = c.in_ok-found.found.items in
    let numbers = c.in_ok-numbers.numbers.items in
    let at = subst (λ f. AreNumbersAt P slots f numbers) c.as_slice-2.ensures.value c.in_ok-numbers.ensures in
    let row = c.as_slice.ensures.value ∙ c.in_ok-cells.ensures in
    let walked = subst (λ b. FindsAll b c.sides_of.result.asked nodes c.as_slice.result.now found) c.sides_of.ensures.stored c.in_ok-found.ensures in
    let sided = subst (λ b. FindsAll (stored_take w) b nodes c.as_slice.result.now found) c.sides_of.ensures.asked walked in
    let finds = subst (λ cells. FindsAll (stored_take w) (asked_take w) nodes cells found) row sided in
    let all = all_wanted nodes slots w l found numbers c.requires finds at in
    subst (λ (ns : List _). AreNumbers P (present slots) ns) (sym c.from_vec.ensures)
    (sorted_once P (present slots) numbers c.sort_unstable.new.self.items c.dedup.new.self.items c.sort_unstable.ensures.permutation
    (dedup_is _ c.sort_unstable.new.self.items c.dedup.new.self.items c.dedup.ensures.filtered) all)
