use Rattle.std.proofs.Common.{subst, sym, ap, ◌∙◌, ◌++◌, ◌∷◌, []}
use Rattle.sc_shelf.specs.Entries.{versions, StartsWith}
use Rattle.sc_shelf.proofs.EntryLaws.{part_starts, one_more}
use Rattle.sc_shelf.proofs.copies.copy_versions.Goals as goal

pub returns-in_err-add_version-clause-part : goal.returns-in_err-add_version-clause-part
returns-in_err-add_version-clause-part c = let seen = c.args.seen.now in let es = c.args.entries.now in
    subst (λ l. StartsWith (seen ++ versions es) l) (sym (c.in_err-add_version.ensures.err ∙ c.loop-entry.invariant)) (part_starts seen es c.loop-entry.entry-index)

pub loop-entry-preserved : goal.loop-entry-preserved
loop-entry-preserved c = let e = c.entry-item.result in
    c.in_ok-add_version.ensures.ok ∙ ap (λ l. l ++ versions (e ∷ [])) c.loop-entry.invariant ∙ one_more c.args.seen.now c.args.entries.now c.loop-entry.entry-index e c.loop-entry-test.true c.entry-item.is
