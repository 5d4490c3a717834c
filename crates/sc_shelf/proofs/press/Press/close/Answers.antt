use Rattle.std.proofs.Common.{◌≡◌, false, length, ap, subst, sym, ◌∙◌}
use Rattle.sc_shelf.specs.declared.store.Store.{Store}
use Rattle.sc_shelf.specs.Entries.{versions, has_close, AreEntries}
use Rattle.sc_shelf.specs.State.{PressState, listed, is_closed}
use Rattle.sc_shelf.proofs.EntryLaws.{close_entries, versions_closed, closed_by}
use Rattle.sc_shelf.proofs.press.Press.close.Goals as goal

pub publish_entry-requires-clause-fits : goal.publish_entry-requires-clause-fits
publish_entry-requires-clause-fits g c =
    let now = c.self.inside.writer.desk.shown.value in
    let before : has_close now.entries ≡ false = subst (λ (p : PressState). is_closed p ≡ false) (sym c.self.view_is) c.requires.open in
    close_entries now.signature.value now.entries c.self.invariant.entries before

pub invariant_of-self : goal.invariant_of-self
invariant_of-self g c =
    let now = c.self.inside.writer.desk.shown.value in
    let before : has_close now.entries ≡ false = subst (λ (p : PressState). is_closed p ≡ false) (sym c.self.view_is) c.requires.open in
    let fits = close_entries now.signature.value now.entries c.self.invariant.entries before in
    record {
      knows = c.in-Ok.ensures.1;
      entries = subst (λ (s : Store). AreEntries s.signature.value s.entries) (sym c.in-Ok.ensures.0) fits;
      counted = c.self.invariant.counted ∙ ap length (sym (versions_closed now.entries)) ∙ ap (λ (s : Store). length (versions s.entries)) (sym c.in-Ok.ensures.0);
      ready = λ w. c.in-Ok.ensures.2;
    }

pub returns-in-Ok-clause-closed : goal.returns-in-Ok-clause-closed
returns-in-Ok-clause-closed g c = ap (λ (s : Store). has_close s.entries) c.in-Ok.ensures.0 ∙ closed_by c.self.inside.writer.desk.shown.value.entries

pub returns-in-Ok-clause-list : goal.returns-in-Ok-clause-list
returns-in-Ok-clause-list g c =
    let now = c.self.inside.writer.desk.shown.value in
    ap (λ (s : Store). versions s.entries) c.in-Ok.ensures.0 ∙ versions_closed now.entries ∙ ap (λ (p : PressState). listed p) c.self.view_is
