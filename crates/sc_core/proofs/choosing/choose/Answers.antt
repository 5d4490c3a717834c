use Rattle.std.proofs.Common.{◌≡◌, [], refl}
use Rattle.sc_term.specs.Clause.{IsCanonical, IsWithinLimits}
use Rattle.sc_core.specs.declared.selecting.Selected.{Selected}
use Rattle.sc_core.specs.Choice.{IsSelected}
use Rattle.sc_core.proofs.SelectLaws.{selected_within, so_of_selected, row_chosen}
use Rattle.sc_core.proofs.TurningLaws.{match_some}
use Rattle.sc_core.proofs.choosing.choose.Goals as goal

pub clause-requires-clause-there : goal.clause-requires-clause-there
clause-requires-clause-there c =
    let problem = c.args.book.now.problem in
    let book = c.args.book.now.book in
    let guide = c.args.guide.now in
    let s = c.in-Some.selected in
    let found : IsSelected problem book.sos c.args.turn guide.name guide.version s.number s.cause =
    match_some c.in_ok-selected.field-0 s (book.sos ≡ []) (λ (x : Selected). IsSelected problem book.sos c.args.turn guide.name guide.version x.number x.cause) c.in-Some.is c.in_ok-selected.ensures.selected in
    (selected_within problem book (c.keeps.ensures.sound c.requires.whole) c.args.turn guide.name guide.version s.number s.cause found).0

pub clause-requires-clause-within : goal.clause-requires-clause-within
clause-requires-clause-within c =
    let problem = c.args.book.now.problem in
    let book = c.args.book.now.book in
    let guide = c.args.guide.now in
    let s = c.in-Some.selected in
    let found : IsSelected problem book.sos c.args.turn guide.name guide.version s.number s.cause =
    match_some c.in_ok-selected.field-0 s (book.sos ≡ []) (λ (x : Selected). IsSelected problem book.sos c.args.turn guide.name guide.version x.number x.cause) c.in-Some.is c.in_ok-selected.ensures.selected in
    (selected_within problem book (c.keeps.ensures.sound c.requires.whole) c.args.turn guide.name guide.version s.number s.cause found).1

pub with_row-requires-clause-canonical : goal.with_row-requires-clause-canonical
with_row-requires-clause-canonical c =
    let problem = c.args.book.now.problem in
    let book = c.args.book.now.book in
    let guide = c.args.guide.now in
    let s = c.in-Some.selected in
    let found : IsSelected problem book.sos c.args.turn guide.name guide.version s.number s.cause =
    match_some c.in_ok-selected.field-0 s (book.sos ≡ []) (λ (x : Selected). IsSelected problem book.sos c.args.turn guide.name guide.version x.number x.cause) c.in-Some.is c.in_ok-selected.ensures.selected in
    so_of_selected problem book (c.keeps.ensures.sound c.requires.whole) c.args.turn guide.name guide.version s.number s.cause found c.clause.result.now c.clause.ensures IsCanonical
    (c.keeps.ensures.sos_canonical c.requires.whole)

pub with_row-requires-clause-within : goal.with_row-requires-clause-within
with_row-requires-clause-within c =
    let problem = c.args.book.now.problem in
    let book = c.args.book.now.book in
    let guide = c.args.guide.now in
    let s = c.in-Some.selected in
    let found : IsSelected problem book.sos c.args.turn guide.name guide.version s.number s.cause =
    match_some c.in_ok-selected.field-0 s (book.sos ≡ []) (λ (x : Selected). IsSelected problem book.sos c.args.turn guide.name guide.version x.number x.cause) c.in-Some.is c.in_ok-selected.ensures.selected in
    so_of_selected problem book (c.keeps.ensures.sound c.requires.whole) c.args.turn guide.name guide.version s.number s.cause found c.clause.result.now c.clause.ensures IsWithinLimits
    (c.keeps.ensures.sos_within c.requires.whole)

pub returns-in_ok-choice-in-Some-clause-chosen : goal.returns-in_ok-choice-in-Some-clause-chosen
returns-in_ok-choice-in-Some-clause-chosen c =
    let problem = c.args.book.now.problem in
    let book = c.args.book.now.book in
    let guide = c.args.guide.now in
    let s = c.in-Some.selected in
    let found : IsSelected problem book.sos c.args.turn guide.name guide.version s.number s.cause =
    match_some c.in_ok-selected.field-0 s (book.sos ≡ []) (λ (x : Selected). IsSelected problem book.sos c.args.turn guide.name guide.version x.number x.cause) c.in-Some.is c.in_ok-selected.ensures.selected in
    row_chosen problem book (c.keeps.ensures.sound c.requires.whole) c.args.turn guide.name guide.version s.number s.cause found c.clause.result.now c.clause.ensures
    guide c.in_ok-choice-in-Some.choice refl refl c.in_ok-choice-in-Some.ensures
