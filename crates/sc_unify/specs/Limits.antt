-- Spending a weight on what isn't to weigh more, nor to be deeper than a limit.
use Rattle.std.specs.Prelude.{◌≡◌, ◌<◌, ◌≤◌, ℕ, ◌+◌, ◌⊎◌, Option, None, Some}

-- what is left of the weight, or else the total is greater than it or the depth over the limit
abbrev pub Spends : ℕ → ℕ → ℕ → ℕ → Option ℕ → Type 0
Spends weight depth total deepest None = (weight < total) ⊎ (depth < deepest)
Spends weight depth total deepest (Some left) = (left + total ≡ weight) × (deepest ≤ depth)
