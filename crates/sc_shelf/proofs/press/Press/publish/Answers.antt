use Rattle.std.proofs.Common.{◌≡◌, ◌<◌, ◌^◌, ◌+◌, [], ◌∷◌, ◌++◌, false, length, ap, subst, sym, ◌∙◌}
use Rattle.sc_interp.specs.Structure.{AreTablesOf}
use Rattle.sc_shelf.specs.declared.store.Store.{Store}
use Rattle.sc_shelf.specs.declared.entry.Entry.TheVariants.{Published}
use Rattle.sc_shelf.specs.Entries.{versions, has_close, AreEntries}
use Rattle.sc_shelf.specs.State.{PressState, listed, is_closed}
use Rattle.sc_shelf.proofs.EntryLaws.{publish_entries, count_one_more, versions_more, still_open}
use Rattle.sc_shelf.proofs.press.Press.publish.Goals as goal

pub publish_entry-requires-clause-fits : goal.publish_entry-requires-clause-fits
publish_entry-requires-clause-fits g c =
    let now = c.self.inside.writer.desk.shown.value in
    let before : has_close now.entries ≡ false = subst (λ (p : PressState). is_closed p ≡ false) (sym c.self.view_is) c.requires.open in
    let room : length (versions now.entries) < 2 ^ 31 = subst (λ (p : PressState). length (listed p) < 2 ^ 31) (sym c.self.view_is) c.requires.room in
    publish_entries now.signature.value now.entries c.args.version c.self.invariant.entries before
    (record { version = c.tables.ensures.kept; over = subst (λ (p : PressState). AreTablesOf p.symbols c.args.version.tables) (sym c.self.view_is) c.requires.over })
    room

pub invariant_of-self : goal.invariant_of-self
invariant_of-self g c =
    let now = c.self.inside.writer.desk.shown.value in
    let before : has_close now.entries ≡ false = subst (λ (p : PressState). is_closed p ≡ false) (sym c.self.view_is) c.requires.open in
    let room : length (versions now.entries) < 2 ^ 31 = subst (λ (p : PressState). length (listed p) < 2 ^ 31) (sym c.self.view_is) c.requires.room in
    let over : AreTablesOf now.signature.value c.args.version.tables = subst (λ (p : PressState). AreTablesOf p.symbols c.args.version.tables) (sym c.self.view_is) c.requires.over in
    let fits : AreEntries now.signature.value (now.entries ++ Published c.args.version ∷ []) =
    publish_entries now.signature.value now.entries c.args.version c.self.invariant.entries before (record { version = c.tables.ensures.kept; over = over }) room in
    record {
      knows = c.in-Ok.ensures.1;
      entries = subst (λ (s : Store). AreEntries s.signature.value s.entries) (sym c.in-Ok.ensures.0) fits;
      counted = ap (λ n. n + 1) c.self.invariant.counted ∙ sym (count_one_more now.entries c.args.version) ∙ ap (λ (s : Store). length (versions s.entries)) (sym c.in-Ok.ensures.0);
      ready = λ w. c.in-Ok.ensures.2;
    }

pub returns-in-Ok-clause-list : goal.returns-in-Ok-clause-list
returns-in-Ok-clause-list g c =
    let now = c.self.inside.writer.desk.shown.value in
    ap (λ (s : Store). versions s.entries) c.in-Ok.ensures.0 ∙ versions_more now.entries c.args.version ∙ ap (λ (p : PressState). listed p ++ c.args.version ∷ []) c.self.view_is

pub returns-in-Ok-clause-open : goal.returns-in-Ok-clause-open
returns-in-Ok-clause-open g c =
    let now = c.self.inside.writer.desk.shown.value in
    let before : has_close now.entries ≡ false = subst (λ (p : PressState). is_closed p ≡ false) (sym c.self.view_is) c.requires.open in
    ap (λ (s : Store). has_close s.entries) c.in-Ok.ensures.0 ∙ still_open now.entries c.args.version before
