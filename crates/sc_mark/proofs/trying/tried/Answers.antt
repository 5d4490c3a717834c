use Rattle.std.proofs.Common.{◌≡◌, ◌∙◌, sym, subst, ◌^◌, ◌≤◌, arith}
use Rattle.sc_interp.specs.Structure.{Structure, Satisfies}
use Rattle.sc_interp.specs.Marks.{assignments}
use Rattle.sc_interp.proofs.Width.{canonical_width}
use Rattle.sc_mark.specs.Known.{IsFalsifiedBy}
use Rattle.sc_mark.proofs.KnownLaws.{known_false}
use Rattle.sc_mark.proofs.trying.tried.Goals as goal

pub returns-then-count-gt-MAX_ASSIGNMENTS-clause-known : goal.returns-then-count-gt-MAX_ASSIGNMENTS-clause-known
returns-then-count-gt-MAX_ASSIGNMENTS-clause-known c =
    let width = c.full_width-width.ensures ∙ sym (canonical_width c.args.c.now c.requires.canonical) in
    let power : c.size-size.result ^ c.full_width-width.result ≡ assignments c.args.tables.now.size c.args.c.now = λ j. c.size-size.ensures.value j ^ width j in
    omega (arith, power, c.count_assignments-count.ensures, c.if-count-gt-MAX_ASSIGNMENTS.true)

pub returns-in-Some-clause-known : goal.returns-in-Some-clause-known
returns-in-Some-clause-known c =
    let width = c.full_width-width.ensures ∙ sym (canonical_width c.args.c.now c.requires.canonical) in
    let power : c.size-size.result ^ c.full_width-width.result ≡ assignments c.args.tables.now.size c.args.c.now = λ j. c.size-size.ensures.value j ^ width j in
    let few : assignments c.args.tables.now.size c.args.c.now ≤ 4096 = omega (arith, power, c.count_assignments-count.ensures, c.if-count-gt-MAX_ASSIGNMENTS.false) in
    let same : (record { size = c.size-size.result; tables = c.tables.result.now }) ≡ c.args.tables.now
    = λ j. record { size = c.size-size.ensures.value j; tables = c.tables.ensures j } in
    known_false c.args.tables.now c.args.c.now c.in-Some.number c.size-size.ensures.kept.not_empty few
    (subst (λ (t : Structure). IsFalsifiedBy t c.args.c.now c.in-Some.number) same c.in-Some.ensures.some)

pub returns-in-None-clause-known : goal.returns-in-None-clause-known
returns-in-None-clause-known c =
    let width = c.full_width-width.ensures ∙ sym (canonical_width c.args.c.now c.requires.canonical) in
    let power : c.size-size.result ^ c.full_width-width.result ≡ assignments c.args.tables.now.size c.args.c.now = λ j. c.size-size.ensures.value j ^ width j in
    let few : assignments c.args.tables.now.size c.args.c.now ≤ 4096 = omega (arith, power, c.count_assignments-count.ensures, c.if-count-gt-MAX_ASSIGNMENTS.false) in
    let same : (record { size = c.size-size.result; tables = c.tables.result.now }) ≡ c.args.tables.now
    = λ j. record { size = c.size-size.ensures.value j; tables = c.tables.ensures j } in
    (few, subst (λ (t : Structure). Satisfies t c.args.c.now) same c.in-None.ensures.none)
