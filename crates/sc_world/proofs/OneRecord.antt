-- A problem has one record, where no search of its inline finder has more nodes than the budget.
use Rattle.std.proofs.Common.{◌≡◌, ap, ℕ, ◌<◌, List, [], length, take, arith}
use Rattle.std.specs.Prelude.{filter}
use Rattle.std.proofs.lemmas.Option.{slice_get_within}
use Rattle.sc_term.specs.declared.Numbered.{Numbered}
use Rattle.sc_input_rules.specs.Problem.{Stated}
use Rattle.sc_input_rules.specs.WellFormed.{IsProblem}
use Rattle.sc_core_rules.specs.Start.{input_clauses}
use Rattle.sc_core_rules.specs.Selection.{Seen}
use Rattle.sc_text_run_rules.specs.RunValue.{RunValue}
use Rattle.sc_worker.specs.declared.plan.Plan.{Plan}
use Rattle.sc_worker.specs.FinderList.{is_light, candidates_of, IsNeverSpent}
use Rattle.sc_world.specs.Recorded.{IsRecord}
use Rattle.sc_world.proofs.OneInline.{one_inline}

-- without candidates there is no search
pub never_spent_without : (problem : Stated) (plan : Plan) (f : ℕ) → plan.candidates ≡ 0 → IsNeverSpent problem plan f
never_spent_without problem plan f e narrow c answers p h there tried =
    let none : candidates_of problem plan ≡ [] = ap (λ (n : ℕ). take n (filter is_light (input_clauses problem))) e in
    let many = ap (λ (ps : List Numbered). length ps) none in
    let within : c < length (candidates_of problem plan) = slice_get_within (candidates_of problem plan) c p there in
    absurd (omega (arith, many, within))

-- a problem has one record
pub one_record : (problem : Stated) (plan : Plan) → IsProblem problem → IsNeverSpent problem plan 1 → (versions others : Seen) (text other : RunValue)
    → IsRecord problem plan versions text → IsRecord problem plan others other → text ≡ other
one_record problem plan such never versions others text other h k = (one_inline problem plan such never versions others text other h k).1
