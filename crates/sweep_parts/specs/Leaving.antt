-- What leaves a queue.
use Rattle.std.specs.Prelude.{ℕ, ◌⊎◌, ◌≤◌, List, ◌∷◌, length, All, Contains, IsPermutation}
use Rattle.cost_vector.specs.Costs.{LexLess}
use Rattle.waiting_item.specs.Waiting.{Spot, Waiting}

-- the item leaves what waits: none comes before it, and the others stay
pub record Leaves (before : List Waiting) (item : Waiting) (after : List Waiting) : Type 0 where
  pub least : All (λ w. ¬ LexLess w.spot.cost item.spot.cost) before
  pub rest : IsPermutation before (item ∷ after)

-- nothing comes, and what leaves is spent
pub record LosesSpent (Spent : Spot → Type 0) (before after : List Waiting) : Type 0 where
  pub old : (w : Waiting) → Contains after w → Contains before w
  pub kept : (w : Waiting) → Contains before w → Contains after w ⊎ Spent w.spot
  pub fewer : length after ≤ length before

-- where some of what is spent has left, the item leaves
pub record TakesLeast (Spent : Spot → Type 0) (before : List Waiting) (item : Waiting) (after : List Waiting) : Type 0 where
  pub still : List Waiting
  pub loses : LosesSpent Spent before still
  pub leaves : Leaves still item after
