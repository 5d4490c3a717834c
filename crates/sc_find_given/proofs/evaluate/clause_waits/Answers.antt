use Rattle.std.proofs.Common.{◌≡◌, ◌∙◌, sym, subst, refl, ℕ, ◌<◌, ◌≤◌, ◌++◌, List, length, slice_index, arith}
use Rattle.std.specs.List.{All}
use Rattle.std.proofs.lemmas.List.{take_all}
use Rattle.std.proofs.lemmas.List.Elements.{All-more}
use Rattle.sc_term.specs.declared.Literal.{Literal}
use Rattle.sc_find_given.specs.Lookup.{look_up, IsFoundFalse}
use Rattle.sc_find_given.proofs.evaluate.clause_waits.Goals as goal

pub returns-in-Some : goal.returns-in-Some
returns-in-Some c =
    let P : List ℕ → Literal → Type 0 = λ g. IsFoundFalse (look_up c.args.size c.args.rows.now g) (slice_index c.args.values.now) in
    let given : List ℕ = c.args.given.now in
    let items = c.as_slice-literal-items.result.now in
    let within : c.loop-literal.literal-index < length items = omega arith in (
      c.in-Some.ensures.0,
      λ more most all. c.in-Some.ensures.1 more most
          (subst (P (given ++ more)) (sym c.literal-item.is) ((subst (All (P (given ++ more))) (sym c.as_slice-literal-items.ensures) all) c.loop-literal.literal-index c.literal-item.result within)),
    )

pub loop-literal-preserved : goal.loop-literal-preserved
loop-literal-preserved c =
    let P : List ℕ → Literal → Type 0 = λ g. IsFoundFalse (look_up c.args.size c.args.rows.now g) (slice_index c.args.values.now) in
    let given : List ℕ = c.args.given.now in
    let within : c.loop-literal.literal-index < length c.as_slice-literal-items.result.now = omega arith in
    λ more. All-more (P (given ++ more)) c.as_slice-literal-items.result.now c.loop-literal.literal-index c.literal-item.result within (c.loop-literal.invariant more)
    (subst (P (given ++ more)) c.literal-item.is (c.in-None.ensures more))

pub returns : goal.returns
returns c =
    let P : List ℕ → Literal → Type 0 = λ g. IsFoundFalse (look_up c.args.size c.args.rows.now g) (slice_index c.args.values.now) in
    let given : List ℕ = c.args.given.now in
    let past : length c.as_slice-literal-items.result.now ≤ c.loop-literal.literal-index = omega arith in
    λ more. subst (All (P (given ++ more))) (take_all c.loop-literal.literal-index c.as_slice-literal-items.result.now past ∙ c.as_slice-literal-items.ensures) (c.loop-literal.invariant more)
