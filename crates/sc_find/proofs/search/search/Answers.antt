use Rattle.std.proofs.Common.{sym, subst, arith}
use Rattle.sc_cells.specs.Cells.{Prefix}
use Rattle.sc_find.proofs.StepLaws as step
use Rattle.sc_find.proofs.WatchLaws.{watching_back}
use Rattle.sc_find.proofs.StepLaws.{IsAt, EndsAt}
use Rattle.sc_find.proofs.search.search.Goals as goal

pub returns-then-nodes-budget : goal.returns-then-nodes-budget
returns-then-nodes-budget c =
    let given = c.loop-piece.given in
    let start = c.args.given.now.cells in
    let now : IsAt c.args.job.now c.args.piece start given c.loop-piece.next c.loop-piece.nodes c.len-number.result c.loop-piece.end = record {
      cells = c.loop-piece.invariant.cells;
      searching = c.loop-piece.invariant.searching;
      are = c.requires.cells;
      at_number = c.len-number.ensures.value;
      within = omega (arith, c.loop-piece-test.true, c.len.ensures.value, c.cell_len.ensures.value);
      small = c.keeps.ensures.small;
      over = c.keeps.ensures.over;
      end_is = c.loop-piece.invariant.ends;
    } in
    step.spent_at c.args.job.now c.args.piece start given c.loop-piece.next c.loop-piece.nodes c.len-number.result c.loop-piece.end now c.args.budget c.if-next-end.true c.if-nodes-budget.true (c.in_ok-enters.ensures.consistent c.if-enters.true)

pub overflow_add-nodes : goal.overflow_add-nodes
overflow_add-nodes c =
    let most = c.loop-piece.invariant.within in
    let other = c.if-nodes-budget.false in
    omega (arith, most, other, c.ranges.budget.fits)

pub loop-piece-smaller-then-enters : goal.loop-piece-smaller-then-enters
loop-piece-smaller-then-enters c =
    let given = c.loop-piece.given in
    let start = c.args.given.now.cells in
    let now : IsAt c.args.job.now c.args.piece start given c.loop-piece.next c.loop-piece.nodes c.len-number.result c.loop-piece.end = record {
      cells = c.loop-piece.invariant.cells;
      searching = c.loop-piece.invariant.searching;
      are = c.requires.cells;
      at_number = c.len-number.ensures.value;
      within = omega (arith, c.loop-piece-test.true, c.len.ensures.value, c.cell_len.ensures.value);
      small = c.keeps.ensures.small;
      over = c.keeps.ensures.over;
      end_is = c.loop-piece.invariant.ends;
    } in
    step.less_entered c.args.job.now c.args.piece start given c.loop-piece.next c.loop-piece.nodes c.len-number.result c.loop-piece.end now c.enters.new.given c.if-next-end.true (c.in_ok-enters.ensures.entered c.if-enters.true)

pub loop-piece-preserved-then-enters : goal.loop-piece-preserved-then-enters
loop-piece-preserved-then-enters c =
    let given = c.loop-piece.given in
    let start = c.args.given.now.cells in
    let now : IsAt c.args.job.now c.args.piece start given c.loop-piece.next c.loop-piece.nodes c.len-number.result c.loop-piece.end = record {
      cells = c.loop-piece.invariant.cells;
      searching = c.loop-piece.invariant.searching;
      are = c.requires.cells;
      at_number = c.len-number.ensures.value;
      within = omega (arith, c.loop-piece-test.true, c.len.ensures.value, c.cell_len.ensures.value);
      small = c.keeps.ensures.small;
      over = c.keeps.ensures.over;
      end_is = c.loop-piece.invariant.ends;
    } in
    let both = step.entered_at c.args.job.now c.args.piece start given c.loop-piece.next c.loop-piece.nodes c.len-number.result c.loop-piece.end now c.enters.new.given c.if-next-end.true (c.in_ok-enters.ensures.entered c.if-enters.true) (c.in_ok-enters.ensures.consistent c.if-enters.true) in
    let most = c.loop-piece.invariant.within in
    let other = c.if-nodes-budget.false in
    record { cells = both.0; within = omega (arith, most, other); searching = both.1; ends = subst (λ cells. EndsAt c.args.job.now c.args.piece cells c.enters.new.given.values c.end_behind-end-then-enters.result) both.0 c.end_behind-end-then-enters.ensures; watching = c.in_ok-enters.ensures.watched }

pub loop-piece-smaller-else-enters : goal.loop-piece-smaller-else-enters
loop-piece-smaller-else-enters c =
    let given = c.loop-piece.given in
    let start = c.args.given.now.cells in
    let now : IsAt c.args.job.now c.args.piece start given c.loop-piece.next c.loop-piece.nodes c.len-number.result c.loop-piece.end = record {
      cells = c.loop-piece.invariant.cells;
      searching = c.loop-piece.invariant.searching;
      are = c.requires.cells;
      at_number = c.len-number.ensures.value;
      within = omega (arith, c.loop-piece-test.true, c.len.ensures.value, c.cell_len.ensures.value);
      small = c.keeps.ensures.small;
      over = c.keeps.ensures.over;
      end_is = c.loop-piece.invariant.ends;
    } in
    step.less_refused c.args.job.now c.args.piece start given c.loop-piece.next c.loop-piece.nodes c.len-number.result c.loop-piece.end now c.enters.new.given c.if-next-end.true (c.in_ok-enters.ensures.kept c.if-enters.false)

pub loop-piece-preserved-else-enters : goal.loop-piece-preserved-else-enters
loop-piece-preserved-else-enters c =
    let given = c.loop-piece.given in
    let start = c.args.given.now.cells in
    let now : IsAt c.args.job.now c.args.piece start given c.loop-piece.next c.loop-piece.nodes c.len-number.result c.loop-piece.end = record {
      cells = c.loop-piece.invariant.cells;
      searching = c.loop-piece.invariant.searching;
      are = c.requires.cells;
      at_number = c.len-number.ensures.value;
      within = omega (arith, c.loop-piece-test.true, c.len.ensures.value, c.cell_len.ensures.value);
      small = c.keeps.ensures.small;
      over = c.keeps.ensures.over;
      end_is = c.loop-piece.invariant.ends;
    } in
    let both = step.refused_at c.args.job.now c.args.piece start given c.loop-piece.next c.loop-piece.nodes c.len-number.result c.loop-piece.end now c.enters.new.given c.if-next-end.true (c.in_ok-enters.ensures.kept c.if-enters.false) (c.in_ok-enters.ensures.refused c.if-enters.false) in
    record { cells = both.0; within = c.loop-piece.invariant.within; searching = both.1; ends = subst (λ (g : Prefix). EndsAt c.args.job.now c.args.piece start g.values c.loop-piece.end) (sym (c.in_ok-enters.ensures.kept c.if-enters.false)) c.loop-piece.invariant.ends; watching = c.in_ok-enters.ensures.watched }

pub returns-then-number-eq0 : goal.returns-then-number-eq0
returns-then-number-eq0 c =
    let given = c.loop-piece.given in
    let start = c.args.given.now.cells in
    let now : IsAt c.args.job.now c.args.piece start given c.loop-piece.next c.loop-piece.nodes c.len-number.result c.loop-piece.end = record {
      cells = c.loop-piece.invariant.cells;
      searching = c.loop-piece.invariant.searching;
      are = c.requires.cells;
      at_number = c.len-number.ensures.value;
      within = omega (arith, c.loop-piece-test.true, c.len.ensures.value, c.cell_len.ensures.value);
      small = c.keeps.ensures.small;
      over = c.keeps.ensures.over;
      end_is = c.loop-piece.invariant.ends;
    } in
    step.exhausted_at c.args.job.now c.args.piece start given c.loop-piece.next c.loop-piece.nodes c.len-number.result c.loop-piece.end now c.if-next-end.false c.if-number-eq0.true

pub overflow_add-next-else-next-end : goal.overflow_add-next-else-next-end
overflow_add-next-else-next-end c =
    let given = c.loop-piece.given in
    let start = c.args.given.now.cells in
    let now : IsAt c.args.job.now c.args.piece start given c.loop-piece.next c.loop-piece.nodes c.len-number.result c.loop-piece.end = record {
      cells = c.loop-piece.invariant.cells;
      searching = c.loop-piece.invariant.searching;
      are = c.requires.cells;
      at_number = c.len-number.ensures.value;
      within = omega (arith, c.loop-piece-test.true, c.len.ensures.value, c.cell_len.ensures.value);
      small = c.keeps.ensures.small;
      over = c.keeps.ensures.over;
      end_is = c.loop-piece.invariant.ends;
    } in
    let small = step.top_small c.args.job.now c.args.piece start given c.loop-piece.next c.loop-piece.nodes c.len-number.result c.loop-piece.end now c.take_back-next.new.given c.take_back-next.result c.take_back-next.ensures.value in
    omega (arith, small)

pub loop-piece-smaller : goal.loop-piece-smaller
loop-piece-smaller c =
    let given = c.loop-piece.given in
    let start = c.args.given.now.cells in
    let now : IsAt c.args.job.now c.args.piece start given c.loop-piece.next c.loop-piece.nodes c.len-number.result c.loop-piece.end = record {
      cells = c.loop-piece.invariant.cells;
      searching = c.loop-piece.invariant.searching;
      are = c.requires.cells;
      at_number = c.len-number.ensures.value;
      within = omega (arith, c.loop-piece-test.true, c.len.ensures.value, c.cell_len.ensures.value);
      small = c.keeps.ensures.small;
      over = c.keeps.ensures.over;
      end_is = c.loop-piece.invariant.ends;
    } in
    step.less_back c.args.job.now c.args.piece start given c.loop-piece.next c.loop-piece.nodes c.len-number.result c.loop-piece.end now c.take_back-next.new.given c.take_back-next.result c.take_back-next.ensures.value

pub loop-piece-preserved : goal.loop-piece-preserved
loop-piece-preserved c =
    let given = c.loop-piece.given in
    let start = c.args.given.now.cells in
    let now : IsAt c.args.job.now c.args.piece start given c.loop-piece.next c.loop-piece.nodes c.len-number.result c.loop-piece.end = record {
      cells = c.loop-piece.invariant.cells;
      searching = c.loop-piece.invariant.searching;
      are = c.requires.cells;
      at_number = c.len-number.ensures.value;
      within = omega (arith, c.loop-piece-test.true, c.len.ensures.value, c.cell_len.ensures.value);
      small = c.keeps.ensures.small;
      over = c.keeps.ensures.over;
      end_is = c.loop-piece.invariant.ends;
    } in
    let both = step.back_at c.args.job.now c.args.piece start given c.loop-piece.next c.loop-piece.nodes c.len-number.result c.loop-piece.end now c.take_back-next.new.given c.take_back-next.result c.if-next-end.false c.take_back-next.ensures.value in
    record { cells = both.0; within = c.loop-piece.invariant.within; searching = both.1; ends = subst (λ cells. EndsAt c.args.job.now c.args.piece cells c.take_back-next.new.given.values c.end_behind-end-else-next-end.result) both.0 c.end_behind-end-else-next-end.ensures; watching = watching_back c.args.job.now c.take_back-next.new.given given c.take_back-next.result c.loop-piece.watches c.take_back-next.new.watches c.take_back-next.ensures.value c.loop-piece.invariant.watching c.take_back-next.ensures.watches }

pub returns : goal.returns
returns c =
    step.full_at c.args.job.now c.args.piece c.args.given.now.cells c.loop-piece.given c.loop-piece.next c.loop-piece.nodes c.loop-piece.invariant.cells c.loop-piece.invariant.searching
    (omega (arith, c.loop-piece-test.false, c.len.ensures.value, c.cell_len.ensures.value))
