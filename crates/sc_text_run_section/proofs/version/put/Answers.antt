use Rattle.std.proofs.Common.{◌∙◌, sym, ap, List, [], ◌∷◌, ◌++◌, arith}
use Rattle.sc_text_run_rules.specs.RunValue.{version_value}
use Rattle.sc_text_run_rules.specs.declared.run.VersionText.{VersionText}
use Rattle.sc_text_run_section.proofs.PuttingVersions.{put_seen}
use Rattle.sc_text_run_section.specs.OverSymbols.{HasTables}
use Rattle.sc_text_run_section.proofs.TablesOver.{one_more}
use Rattle.sc_text_run_section.proofs.version.put.Goals as goal

pub returns-clause-value : goal.returns-clause-value
returns-clause-value c =
    put_seen version_value c.args.lists.now _ c.index-lists-at.result c.push.new.self c.args.placed.version (omega (arith, c.requires.first, c.requires.there)) c.index-lists-at.is
    (c.in_ok-push.ensures.ok ∙ ap (λ (l : List VersionText). l ++ c.args.placed.version ∷ []) (sym c.index-lists-at.is))

pub returns-clause-tables : goal.returns-clause-tables
returns-clause-tables c = λ symbols such h.
    one_more (HasTables symbols) c.args.lists.now _ c.index-lists-at.result c.push.new.self c.args.placed.version (omega (arith, c.requires.first, c.requires.there)) c.index-lists-at.is
    (c.in_ok-push.ensures.ok ∙ ap (λ (l : List VersionText). l ++ c.args.placed.version ∷ []) (sym c.index-lists-at.is)) such h
