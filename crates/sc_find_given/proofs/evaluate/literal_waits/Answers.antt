use Rattle.std.proofs.Common.{◌≡◌, subst, ℕ, ◌≤◌, ◌-◌, ◌^◌, ◌++◌, length, List, Option, Some, slice_index, arith}
use Rattle.sc_term.specs.declared.SymId.{SymId}
use Rattle.sc_term.specs.declared.Term.{Term}
use Rattle.sc_term.specs.Interpretation.{Assignment}
use Rattle.sc_find_given.specs.Lookup.{look_up, found_terms, found_atom}
use Rattle.sc_find_given.proofs.WaitingLaws.{own_sign, other_sign}
use Rattle.sc_find_given.proofs.evaluate.literal_waits.Goals as goal

pub returns-then-truth-literal : goal.returns-then-truth-literal
returns-then-truth-literal c =
    let look : List ℕ → SymId → Option (List ℕ) → Option ℕ = λ g. look_up c.args.size c.args.rows.now g in
    let a : Assignment = slice_index c.args.values.now in
    let given : List ℕ = c.args.given.now in
    let l = c.args.literal.now in
    let found = subst (λ (ts : List Term). (more : List ℕ) → found_atom (look (given ++ more)) l.pred (found_terms (look (given ++ more)) a ts) ≡ Some c.in-Ok.truth) c.as_slice.ensures c.in-Ok.ensures in
    let many : length given ≤ 2 ^ 64 - 1 = omega (arith, c.type_inv.given) in
    (many, λ more most. own_sign (found_atom (look (given ++ more)) l.pred (found_terms (look (given ++ more)) a l.args)) c.in-Ok.truth l.positive (found more) c.if-truth-literal.true)

pub returns-else-truth-literal : goal.returns-else-truth-literal
returns-else-truth-literal c =
    let look : List ℕ → SymId → Option (List ℕ) → Option ℕ = λ g. look_up c.args.size c.args.rows.now g in
    let a : Assignment = slice_index c.args.values.now in
    let given : List ℕ = c.args.given.now in
    let l = c.args.literal.now in
    let found = subst (λ (ts : List Term). (more : List ℕ) → found_atom (look (given ++ more)) l.pred (found_terms (look (given ++ more)) a ts) ≡ Some c.in-Ok.truth) c.as_slice.ensures c.in-Ok.ensures in
    λ more. other_sign (found_atom (look (given ++ more)) l.pred (found_terms (look (given ++ more)) a l.args)) c.in-Ok.truth l.positive (found more) c.if-truth-literal.false
