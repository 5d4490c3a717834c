use Rattle.std.proofs.Common.{subst, ap, ◌∙◌, ◌≡◌, ◌++◌, OnOk, List, drop, length}
use Rattle.sc_interp.specs.Versions.{ClaimedStructure}
use Rattle.sc_shelf.specs.Entries.{versions, StartsWith}
use Rattle.sc_shelf.proofs.EntryLaws.{caught}
use Rattle.sc_shelf.proofs.copies.catch_up.Goals as goal

joined : (c : goal.After-copy_versions) → c.args.seen.now ++ versions c.unseen-fresh.result.now ≡ versions c.args.entries.now
joined c =
    let fresh = c.unseen-fresh.ensures ∙ ap (λ (l : List ClaimedStructure). drop (length l) c.args.entries.now) c.as_slice.ensures in
    ap (λ l. c.args.seen.now ++ versions l) fresh ∙ caught c.args.entries.now (length c.args.seen.now) c.args.seen.now c.requires

pub returns-clause-ok : goal.returns-clause-ok
returns-clause-ok c = subst (λ z. OnOk c.copy_versions.result (c.copy_versions.new.seen ≡ z)) (joined c) c.copy_versions.ensures.ok

pub returns-clause-part : goal.returns-clause-part
returns-clause-part c = subst (λ z. StartsWith z c.copy_versions.new.seen) (joined c) c.copy_versions.ensures.part
