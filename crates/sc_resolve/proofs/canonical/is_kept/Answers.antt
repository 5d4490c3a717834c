use Rattle.std.proofs.Common.{◌≡◌, ◌∙◌, ◌≤◌, sym, subst, List, ℕ, arith}
use Rattle.sc_term.specs.Clause.{variables, firsts, counting_from, weight, depth}
use Rattle.sc_resolve.proofs.CanonicalLaws.{noted_so}
use Rattle.sc_resolve.proofs.canonical.is_kept.Goals as goal

pub returns : goal.returns
returns c =
    let order : c.as_slice.result.now ≡ firsts (variables c.args.c.now) =
    noted_so c.args.c.now c.new-order.result.items c.as_slice.result.now c.new-order.ensures.items (c.as_slice.ensures.value ∙ c.in_ok-note_variables.ensures) in
    let light : weight c.args.c.now ≤ 10000 = omega (arith, c.weight.ensures, c.if-weight-gt-MAX_WEIGHT.false) in
    let shallow : depth c.args.c.now ≤ 256 = omega (arith, c.depth.ensures, c.if-depth-gt-MAX_DEPTH.false) in (
      λ t. record { canonical = subst (λ (l : List ℕ). l ≡ counting_from 0 l) order (c.is_counting.ensures.0 t); within = record { light = light; shallow = shallow } },
      λ h. c.is_counting.ensures.1 (subst (λ (l : List ℕ). l ≡ counting_from 0 l) (sym order) h.canonical),
    )
