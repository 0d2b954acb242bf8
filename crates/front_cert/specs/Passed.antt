-- The costs of a node's labels so far, as labels are gone through in order.
use Rattle.std.specs.Prelude.{◌≡◌, ℕ, ◌<◌, ◌≤◌, List, Some, Contains, slice_get}
use Rattle.road_network.specs.Labels.{Label}

-- a label of node v before the place i has this cost
pub record IsPassedBy (labels : List Label) (i v : ℕ) (c : List ℕ) : Type 0 where
  pub place : ℕ
  pub label : Label
  pub at : slice_get labels place ≡ Some label
  pub before : place < i
  pub node : label.node ≡ v
  pub cost : label.cost ≡ c

-- The labels before the place i are of nodes up to v, those from it on of nodes from v on, and the costs are those of v before it.
pub record ArePassed (labels : List Label) (i v : ℕ) (costs : List (List ℕ)) : Type 0 where
  pub up_to : (k : ℕ) (l : Label) → slice_get labels k ≡ Some l → k < i → l.node ≤ v
  pub behind : (k : ℕ) (l : Label) → slice_get labels k ≡ Some l → i ≤ k → v ≤ l.node
  pub here : (k : ℕ) (l : Label) → slice_get labels k ≡ Some l → k < i → l.node ≡ v → Contains costs l.cost
  pub only : (c : List ℕ) → Contains costs c → IsPassedBy labels i v c
