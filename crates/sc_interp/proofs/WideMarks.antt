-- A canonical clause of many variables is too wide for two elements or more.
use Rattle.std.proofs.Common.{◌≡◌, sym, ap, subst, ℕ, ◌<◌, ◌≤◌, ◌^◌, length, arith}
use Rattle.std.proofs.Math.Nat.{pow-le-pow_left, pow-le-pow_right}
use Rattle.sc_term.specs.declared.Clause.{Clause}
use Rattle.sc_term.specs.Clause.{IsCanonical, variables, firsts, width}
use Rattle.sc_interp.specs.declared.plain.Truth.TheVariants.{Wide}
use Rattle.sc_interp.specs.Structure.{Structure}
use Rattle.sc_interp.specs.Marks.{IsMark}
use Rattle.sc_interp.proofs.Width.{canonical_width}

pub wide : (t : Structure) (c : Clause) → IsCanonical c → 2 ≤ t.size → 13 ≤ width c → IsMark t c Wide
wide t c h two many =
    let more : 2 ^ width c ≤ t.size ^ width c = pow-le-pow_left two (width c) in
    let least : 2 ^ 13 ≤ 2 ^ width c = pow-le-pow_right (omega arith) many in
    let is : 4096 < t.size ^ width c = omega (arith, more, least) in
    subst (λ n. 4096 < t.size ^ n) (sym (canonical_width c h)) is
