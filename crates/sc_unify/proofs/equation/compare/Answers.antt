use Rattle.std.proofs.Common.{◌≡◌, ◌≢◌, ◌∙◌, sym, ap, ℕ, Bool, true, not, eqb, inl, inr, length, true≢false}
use Rattle.std.proofs.lemmas.Bool.{eq-eqb}
use Rattle.sc_unify.proofs.Equations.{clash}
use Rattle.sc_unify.proofs.equation.compare.Goals.{then-ne, else-ne}
use Rattle.sc_unify.proofs.equation.compare.Goals as goal

differs : (m n : ℕ) → not (eqb m n) ≡ true → m ≢ n
differs m n h e = absurd (true≢false (sym h ∙ ap not (eq-eqb m n e)))

pub returns-then-len : goal.returns-then-len
returns-then-len c = λ u e. elim c.if-ne.branch [
  | then-ne w ↦ clash u c.args.left.now c.args.right.now c.in-App-App.f c.in-App-App.g c.in-App-App.xs c.in-App-App.ys c.in-App-App.is-0 c.in-App-App.is-1
      (inl (differs c.in-App-App.f.0 c.in-App-App.g.0 (sym c.ne.ensures ∙ w.if-ne.true))) e
  | else-ne w ↦ clash u c.args.left.now c.args.right.now c.in-App-App.f c.in-App-App.g c.in-App-App.xs c.in-App-App.ys c.in-App-App.is-0 c.in-App-App.is-1
      (inr (λ same. differs w.len.result w.len-else-ne.result (sym w.value-is ∙ c.if-len.true) (w.len.ensures ∙ same ∙ sym w.len-else-ne.ensures))) e
]
