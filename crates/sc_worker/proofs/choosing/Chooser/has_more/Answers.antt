use Rattle.std.proofs.Common.{◌≡◌, ◌≢◌, ◌∙◌, subst, ◌<◌, List, [], length}
use Rattle.std.specs.Prelude.{◌↔◌, IsTrue}
use Rattle.sc_term.specs.declared.Clause.{Clause}
use Rattle.sc_worker.specs.Choosing.{Choice}
use Rattle.sc_worker.proofs.LightLaws.{left_where}
use Rattle.sc_worker.proofs.choosing.Chooser.has_more.Goals as goal

pub returns : goal.returns
returns c =
    let same : c.as_slice.result.now ≡ c.self.inside.problem.now.inputs = c.as_slice.ensures ∙ c.inputs.ensures in
    let tells : IsTrue c.is_left.result ↔ ((0 < c.self.inside.room) × (c.self.inside.place < length c.self.inside.problem.now.inputs))
    = subst (λ (xs : List Clause). IsTrue c.is_left.result ↔ ((0 < c.self.inside.room) × (c.self.inside.place < length xs))) same c.is_left.ensures in
    subst (λ (choice : Choice). IsTrue c.is_left.result ↔ (choice.left ≢ [])) c.self.view_is
    (left_where c.self.inside.problem.now.inputs c.self.inside.place c.self.inside.room c.is_left.result c.self.invariant.light tells)
