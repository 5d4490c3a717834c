use Rattle.std.proofs.Common.{◌≡◌, ◌∙◌, sym, subst, ◌^◌, ◌<◌, ◌≤◌, true≢false, arith}
use Rattle.sc_interp.specs.Structure.{Structure, Satisfies}
use Rattle.sc_interp.specs.Marks.{assignments, IsMark}
use Rattle.sc_interp.proofs.Width.{canonical_width}
use Rattle.sc_interp.proofs.mark.truth.Goals as goal
use Rattle.sc_interp.proofs.mark.truth.Goals.{then-is_satisfied, else-is_satisfied}

pub returns-then-is_wide-clause-mark : goal.returns-then-is_wide-clause-mark
returns-then-is_wide-clause-mark c =
    let width = c.full_width-width.ensures ∙ sym (canonical_width c.args.c.now c.requires.canonical) in
    let power : c.size-size.result ^ c.full_width-width.result ≡ assignments c.args.t.now.size c.args.c.now = λ j. c.size-size.ensures.value j ^ width j in
    subst (λ n. 4096 < n) power (c.is_wide.ensures.0 c.if-is_wide.true)

pub returns-clause-mark : goal.returns-clause-mark
returns-clause-mark c =
    let width = c.full_width-width.ensures ∙ sym (canonical_width c.args.c.now c.requires.canonical) in
    let power : c.size-size.result ^ c.full_width-width.result ≡ assignments c.args.t.now.size c.args.c.now = λ j. c.size-size.ensures.value j ^ width j in
    let not_many : 4096 < assignments c.args.t.now.size c.args.c.now → ⊥
    = λ many. true≢false (sym (c.is_wide.ensures.1 (subst (λ n. 4096 < n) (sym power) many)) ∙ c.if-is_wide.false) in
    let few : assignments c.args.t.now.size c.args.c.now ≤ 4096 = omega (arith, not_many) in
    let same : (record { size = c.size-size.result; tables = c.tables.result.now }) ≡ c.args.t.now
    = λ j. record { size = c.size-size.ensures.value j; tables = c.tables.ensures j } in
    elim c.if-is_satisfied.branch [
      | then-is_satisfied w ↦ subst (IsMark c.args.t.now c.args.c.now) (sym w.result-is)
          (few, subst (λ (t : Structure). Satisfies t c.args.c.now) same (c.is_satisfied.ensures.0 w.if-is_satisfied.true))
      | else-is_satisfied w ↦ subst (IsMark c.args.t.now c.args.c.now) (sym w.result-is)
          (few, λ all. true≢false (sym (c.is_satisfied.ensures.1 (subst (λ (t : Structure). Satisfies t c.args.c.now) (sym same) all)) ∙ w.if-is_satisfied.false))
    ]
