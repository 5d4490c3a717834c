-- How models are sought beside the prover.
use Rattle.std.specs.Prelude.{◌≤◌, ℕ, ◌+◌, ◌-◌, min}
use Rattle.sc_worker.specs.declared.plan.Plan.{Plan}

-- each number is in its range
pub record IsPlan (plan : Plan) : Type 0 where
  pub finders : plan.finders ≤ 8
  pub some_size : 1 ≤ plan.first_size
  pub small : plan.first_size ≤ 8
  pub some_nodes : 1 ≤ plan.nodes
  pub few_nodes : plan.nodes ≤ 10000000
  pub candidates : plan.candidates ≤ 128

-- the size at which finder f, from 1, works: one more for each finder, and at most 8
abbrev pub size_of_finder : Plan → ℕ → ℕ
size_of_finder plan f = min 8 (plan.first_size + f - 1)
