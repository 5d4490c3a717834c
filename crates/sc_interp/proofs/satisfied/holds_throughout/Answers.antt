use Rattle.std.proofs.Common.{◌∙◌, sym, ap, ◌-◌, ◌<◌, ◌≤◌, ◌^◌, length, refl, arith}
use Rattle.sc_term.specs.Clause.{width}
use Rattle.std.proofs.lemmas.List.Elements.{All-replicate}
use Rattle.sc_interp.specs.Assignments.{assignment_number}
use Rattle.sc_interp.proofs.Assignments.{bounded}
use Rattle.sc_interp.proofs.Agreement.{satisfied, tried, all_tried, none_tried}
use Rattle.sc_interp.proofs.satisfied.holds_throughout.Goals as goal

pub assignments-init : goal.assignments-init
assignments-init c =
    let some : 0 < c.args.size = omega (arith, c.requires.size) in
    rw c.start.ensures (record {
      elements = All-replicate (λ v. v < c.args.size) (length c.args.values.now) 0 some;
      before = none_tried c.args.size c.args.tables.now c.args.c.now (length c.args.values.now);
    })

pub returns-then-not-advance : goal.returns-then-not-advance
returns-then-not-advance c =
    let inv = c.assignments.invariant in
    let here = sym c.some_literal_holds.ensures ∙ c.if-not-some_literal_holds.false in
    let last = c.advance.ensures.last c.if-not-advance.true in
    let wide : width c.args.c.now ≤ length c.assignments.values = omega (arith, c.requires.wide, c.assignments.auto.values, c.start.auto.values) in (
      λ _. satisfied c.args.size c.args.tables.now c.args.c.now c.assignments.values wide
          (all_tried c.args.size c.args.tables.now c.args.c.now c.assignments.values inv.elements inv.before here last),
      λ _. refl,
    )

pub assignments-smaller : goal.assignments-smaller
assignments-smaller c =
    let next = c.advance.ensures.next c.if-not-advance.false in
    let most = bounded c.args.size c.advance.new.values c.advance.ensures.elements in
    let power = ap (λ n. c.args.size ^ n) c.advance.ensures.length in
    let less : c.args.size ^ length c.advance.new.values - assignment_number c.args.size c.advance.new.values
    < c.args.size ^ length c.assignments.values - assignment_number c.args.size c.assignments.values = omega (arith, next, most, power) in
    less

pub assignments-preserved : goal.assignments-preserved
assignments-preserved c =
    let inv = c.assignments.invariant in
    let here = sym c.some_literal_holds.ensures ∙ c.if-not-some_literal_holds.false in
    let next = c.advance.ensures.next c.if-not-advance.false in
    record {
      elements = c.advance.ensures.elements;
      before = λ others long are lt. tried c.args.size c.args.tables.now c.args.c.now c.assignments.values inv.elements inv.before here others
          (long ∙ c.advance.ensures.length) are (omega (arith, next, lt));
    }
