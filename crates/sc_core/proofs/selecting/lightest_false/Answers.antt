use Rattle.std.proofs.Common.{◌≢◌, ◌∙◌, sym, true≢false}
use Rattle.std.specs.List.{All}
use Rattle.sc_core_rules.specs.Selection.{IsGuide}
use Rattle.sc_sos.specs.Waiting.{weight_of, ComesFirst, IsFalseIn}
use Rattle.sc_core.specs.Marking.{AreMarked, in_guide}
use Rattle.sc_core.proofs.MarkLaws.{same_as_guide, marked_right, marked_as}
use Rattle.sc_core.proofs.SelectLaws.{matched, told_false}
use Rattle.sc_core.proofs.selecting.lightest_false.Goals as goal

pub carry-requires : goal.carry-requires
carry-requires c =
    same_as_guide c.args.book.now.problem c.args.guide.now.seen c.args.book.now.book c.args.marks.now c.args.guide.now c.requires.right
    (c.name.ensures.guide c.args.book.now.problem (sym c.requires.opens))

pub returns-clause-found : goal.returns-clause-found
returns-clause-found c =
    let problem = c.args.book.now.problem in
    let book = c.args.book.now.book in
    let guide = c.args.guide.now in
    let old = c.args.marks.now in
    let new = c.mark_all.new.marks in
    let waiting = c.args.waiting.now.clauses in
    let guides : IsGuide problem guide.seen guide.name guide.version = c.name.ensures.guide problem (sym c.requires.opens) in
    let marked : AreMarked (in_guide old guide) new book.sos =
    marked_as c.carry.new.marks new (in_guide old guide) c.as_slice.result.now book.sos c.in_ok-carry.ensures (c.as_slice.ensures ∙ c.sos.ensures) c.in_ok-mark_all.ensures in
    told_false problem guide.seen book (c.keeps.ensures.sound c.requires.whole) old new guide guides c.requires.right marked waiting c.lightest_false.result c.requires.waiting
    (λ e. true≢false (sym (c.is_name.ensures.1 (c.name.ensures.value ∙ e)) ∙ c.if-is_name.false))
    (matched c.lightest_false.result (All (λ w. ¬ IsFalseIn new w) waiting) (λ n. ComesFirst weight_of (IsFalseIn new) waiting n) c.lightest_false.ensures.some c.lightest_false.ensures.none)

pub returns-clause-right : goal.returns-clause-right
returns-clause-right c =
    let problem = c.args.book.now.problem in
    let book = c.args.book.now.book in
    let guide = c.args.guide.now in
    let old = c.args.marks.now in
    let new = c.mark_all.new.marks in
    marked_right problem guide.seen book old new guide (c.keeps.ensures.sound c.requires.whole) (c.name.ensures.guide problem (sym c.requires.opens)) c.requires.right
    (marked_as c.carry.new.marks new (in_guide old guide) c.as_slice.result.now book.sos c.in_ok-carry.ensures (c.as_slice.ensures ∙ c.sos.ensures) c.in_ok-mark_all.ensures)
