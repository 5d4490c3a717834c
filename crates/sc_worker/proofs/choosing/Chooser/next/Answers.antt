use Rattle.std.proofs.Common.{◌≡◌, ◌≢◌, ◌∙◌, subst, refl, ◌-◌, ◌<◌, List, [], length, rules}
use Rattle.std.specs.Prelude.{◌↔◌, IsTrue}
use Rattle.sc_term.specs.declared.Clause.{Clause}
use Rattle.sc_worker.specs.Choosing.{Choice, IsTooWide, IsWorked}
use Rattle.sc_worker.specs.Keeping.{choice_of}
use Rattle.sc_worker.proofs.LightLaws.{left_where}
use Rattle.sc_worker.proofs.KeepingLaws.{IsAt, next_works, next_keeps}
use Rattle.sc_worker.proofs.choosing.Chooser.next.Goals as goal

pub returns-then-self-clause-worked : goal.returns-then-self-clause-worked
returns-then-self-clause-worked c =
    let same : c.as_slice-inputs.result.now ≡ c.self.inside.problem.now.inputs = c.as_slice-inputs.ensures ∙ c.inputs.ensures in
    let is_left : IsTrue c.is_left.result = search (rules, c.if-not-is_left.false) in
    let tells : IsTrue c.is_left.result ↔ ((0 < c.self.inside.room) × (c.self.inside.place < length c.self.inside.problem.now.inputs))
    = subst (λ (xs : List Clause). IsTrue c.is_left.result ↔ ((0 < c.self.inside.room) × (c.self.inside.place < length xs))) same c.is_left.ensures in
    let left = left_where c.self.inside.problem.now.inputs c.self.inside.place c.self.inside.room c.is_left.result c.self.invariant.light tells in
    subst (λ (choice : Choice). (choice.left ≢ []) × IsTooWide choice × (choice ≡ choice)) c.self.view_is (left.0 is_left, c.self.invariant.cells.0 c.if-self.true, refl)

pub invariant_of-self-2 : goal.invariant_of-self-2
invariant_of-self-2 c =
    let same : c.as_slice-inputs.result.now ≡ c.self.inside.problem.now.inputs = c.as_slice-inputs.ensures ∙ c.inputs.ensures in
    let next = c.next_light-self-inside in
    let at : IsAt c.self.inside.problem.now.inputs c.self.inside.place next.result c.self.inside.room c.index-inputs-self.result c.is_left.result
    = subst (λ (xs : List Clause). IsAt xs c.self.inside.place next.result c.self.inside.room c.index-inputs-self.result c.is_left.result) same (record {
      tells = c.is_left.ensures;
      is_left = search (rules, c.if-not-is_left.false);
      here = c.index-inputs-self.is;
      same = next.ensures.same;
      within = next.ensures.within;
      light = next.ensures.light;
    }) in
    next_keeps c.self.inside.problem.now c.self.inside.size c.self.inside.budget c.self.inside.claims c.work.new.claims c.self.inside.place next.result c.self.inside.room c.index-inputs-self.result
    c.is_left.result c.self.inside.wide at c.self.inside.present c.self.invariant c.in_ok-worked.worked c.work.new.present c.keeps.ensures c.work.ensures.kept c.in_ok-worked.ensures.worked

pub returns-clause-worked : goal.returns-clause-worked
returns-clause-worked c =
    let same : c.as_slice-inputs.result.now ≡ c.self.inside.problem.now.inputs = c.as_slice-inputs.ensures ∙ c.inputs.ensures in
    let next = c.next_light-self-inside in
    let at : IsAt c.self.inside.problem.now.inputs c.self.inside.place next.result c.self.inside.room c.index-inputs-self.result c.is_left.result
    = subst (λ (xs : List Clause). IsAt xs c.self.inside.place next.result c.self.inside.room c.index-inputs-self.result c.is_left.result) same (record {
      tells = c.is_left.ensures;
      is_left = search (rules, c.if-not-is_left.false);
      here = c.index-inputs-self.is;
      same = next.ensures.same;
      within = next.ensures.within;
      light = next.ensures.light;
    }) in
    subst (λ (choice : Choice). IsWorked choice (choice_of c.self.inside.problem.now c.self.inside.size c.self.inside.budget c.work.new.claims next.result (c.self.inside.room - 1)) c.in_ok-worked.worked) c.self.view_is
    (next_works c.self.inside.problem.now c.self.inside.size c.self.inside.budget c.self.inside.claims c.work.new.claims c.self.inside.place next.result c.self.inside.room c.index-inputs-self.result
    c.is_left.result c.self.inside.wide at c.self.inside.present c.self.invariant c.in_ok-worked.worked c.if-self.false c.in_ok-worked.ensures.worked)
