use Rattle.std.proofs.Common.{subst, sym, ap, ◌∙◌, ◌≡◌, take, length, List}
use Rattle.sc_shelf.specs.declared.entry.Entry.{Entry}
use Rattle.sc_shelf.specs.Entries.{versions, StartsWith}
use Rattle.sc_shelf.proofs.EntryLaws.{front_seen, versions_start}
use Rattle.sc_shelf.proofs.Fronts.{starts_trans}
use Rattle.sc_shelf.proofs.Steps.{stays}
use Rattle.sc_shelf.proofs.sight.look_once.Goals as goal

pub enter_as-requires : goal.enter_as-requires
enter_as-requires c x = stays _ _ x

pub catch_up-done-requires : goal.catch_up-done-requires
catch_up-done-requires c =
    let told = c.in-Ok.ensures.1 in
    let s = c.in-Ok.reading.part.value in
    let e : c.as_slice.result.now ≡ s.entries = c.as_slice.ensures ∙ ap (λ x. x.entries) c.get.ensures in
    let seen = c.sight.inside.seen in
    let front : StartsWith (versions s.entries) seen = starts_trans _ _ _ (versions_start s.entries _ told.before.met) c.sight.invariant.front in
    subst (λ (l : List Entry). versions (take (length seen) l) ≡ seen) (sym e) (front_seen s.entries seen told.entries.last front)
