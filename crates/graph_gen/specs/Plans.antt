-- The ranges of a plan's numbers.
use Rattle.std.specs.Prelude.{ℕ, ◌≤◌}
use Rattle.cost_vector.specs.Costs.{max_criteria, min_criteria}
use Rattle.graph_gen.specs.declared.GenPlan.{GenPlan}

-- the fewest rows and columns of a grid
abbrev pub min_side : ℕ
min_side = 2

-- the most rows and columns
abbrev pub max_side : ℕ
max_side = 1000

-- the fewest pairs
abbrev pub min_pairs : ℕ
min_pairs = 1

-- the most pairs
abbrev pub max_pairs : ℕ
max_pairs = 500

-- the plan's numbers are within their ranges
pub record IsPlan (plan : GenPlan) : Type 0 where
  pub some_side : min_side ≤ plan.side
  pub side : plan.side ≤ max_side
  pub some_criteria : min_criteria ≤ plan.criteria
  pub criteria : plan.criteria ≤ max_criteria
  pub some_pairs : min_pairs ≤ plan.pairs
  pub pairs : plan.pairs ≤ max_pairs
