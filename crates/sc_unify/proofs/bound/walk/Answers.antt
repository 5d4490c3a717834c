use Rattle.std.proofs.Common.{◌≡◌, ◌∙◌, sym, ap, ℕ, ◌+◌, ◌<◌, ◌≤◌, List, Option, Some, arith}
use Rattle.sc_term.specs.declared.Term.{Term, Var}
use Rattle.sc_term.specs.Term.{term_under}
use Rattle.sc_unify.specs.declared.bound.Binding.{Binding}
use Rattle.sc_unify.specs.Bindings.{lookup, bindings, AreSolved, finished, cost}
use Rattle.sc_unify.proofs.Costs.{cost-bound, under-bound}
use Rattle.sc_unify.proofs.bound.walk.Goals as goal

-- a step from a bound variable to its term
smaller : (bs : List Binding) → AreSolved bs → (t : Term) (n : ℕ) (next : Term) → t ≡ Var n → lookup bs n ≡ Some next → cost bs next < cost bs t
smaller bs is t n next e found = omega (arith, ap (cost bs) e, cost-bound bs is n next found)

pub loop-term-smaller : goal.loop-term-smaller
loop-term-smaller c = smaller (bindings c.args.bound.now) c.requires c.loop-term.term.now c.in-Var.n c.in-Some.next.now c.in-Var.is (sym c.in-Some.ensures)

pub loop-term-preserved : goal.loop-term-preserved
loop-term-preserved c =
    let bs = bindings c.args.bound.now in
    let cheaper = smaller bs c.requires c.loop-term.term.now c.in-Var.n c.in-Some.next.now c.in-Var.is (sym c.in-Some.ensures) in
    record {
      same = sym (under-bound bs c.requires c.in-Var.n c.in-Some.next.now (sym c.in-Some.ensures)) ∙ sym (ap (term_under (finished bs)) c.in-Var.is) ∙ c.loop-term.invariant.same;
      less = omega (arith, cheaper, c.loop-term.invariant.less);
    }
