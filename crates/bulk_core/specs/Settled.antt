-- What is settled, and which spots it makes spent.
use Rattle.std.specs.Prelude.{◌≡◌, ◌≢◌, ℕ, ◌+◌, ◌<◌, ◌≤◌, ◌⊎◌, ◌↔◌, List, ◌++◌, Option, length, slice_index, take, AllPairs, Contains}
use Rattle.bulk_rounds.specs.Cores.{Spot}
use Rattle.cost_vector.specs.Costs.{AtMost, Dominates, Within, max_criteria, min_criteria}
use Rattle.road_network.specs.Network.{IsNode}
use Rattle.settled_front.specs.Fronts.{IsCovered}
use Rattle.settled_fronts.specs.NodeFronts.{Fronts, costs_at}
use Rattle.sweep_parts.specs.Limits.{IsGreatestWithin}

-- the target, the limit, and the settled costs of all nodes
pub record Settled : Type 0 where
  pub target : ℕ
  pub limit : List (Option ℕ)
  pub fronts : Fronts

-- target, limit and nodes have stayed
pub record SameBounds (before after : Settled) : Type 0 where
  pub nodes : after.fronts.nodes ≡ before.fronts.nodes
  pub target : after.target ≡ before.target
  pub limit : after.limit ≡ before.limit

-- ---- what is spent

-- some cost of the list dominates c
abbrev pub HasDominating : List (List ℕ) → List ℕ → Type 0
HasDominating costs c = (e : List ℕ) × Contains costs e × Dominates e c

-- some cost of the list is at most c, and less in the component at k
abbrev pub HasDominatingAt : List (List ℕ) → List ℕ → ℕ → Type 0
HasDominatingAt costs c k = (e : List ℕ) × Contains costs e × AtMost e c × (slice_index e k < slice_index c k)

-- c isn't within the limit, or a settled cost of the target dominates it
abbrev pub IsBarredBy : Settled → List ℕ → Type 0
IsBarredBy s c = (¬ Within s.limit c) ⊎ HasDominating (costs_at s.fronts s.target) c

-- the spot is covered or barred
abbrev pub IsSpentBy : Settled → Spot → Type 0
IsSpentBy s x = IsCovered (costs_at s.fronts x.node) x.cost ⊎ IsBarredBy s x.cost

-- ---- what is settled more

-- the spot is settled
abbrev pub IsSettledBy : Settled → Spot → Type 0
IsSettledBy s x = Contains (costs_at s.fronts x.node) x.cost

-- The spots are different ones of nodes, no settled cost there is at most theirs, and they dominate none; nor is the cost of one
-- of a node at most that of another.
pub record CanSettle (s : Settled) (spots : List Spot) : Type 0 where
  pub nodes : (x : Spot) → Contains spots x → IsNode s.fronts.nodes x.node
  pub uncovered : (x : Spot) → Contains spots x → ¬ IsCovered (costs_at s.fronts x.node) x.cost
  pub spares : (x : Spot) → Contains spots x → (e : List ℕ) → Contains (costs_at s.fronts x.node) e → ¬ Dominates x.cost e
  pub apart : (x y : Spot) → Contains spots x → Contains spots y → x.node ≡ y.node → AtMost x.cost y.cost → x ≡ y
  pub once : AllPairs ◌≢◌ spots

-- the first of the spots are settled now beside those that were
pub record SettlesFirst (before after : Settled) (spots : List Spot) (many : ℕ) : Type 0 where
  pub bounds : SameBounds before after
  pub settled : (x : Spot) → IsSettledBy after x ↔ (IsSettledBy before x ⊎ Contains (take many spots) x)

-- so are some, and they are counted
pub record SettlesSome (before after : Settled) (spots : List Spot) (old new : ℕ) : Type 0 where
  pub many : ℕ
  pub counted : new ≡ old + length (take many spots)
  pub first : SettlesFirst before after spots many

-- ---- how it is kept

-- the target is a node, and the greatest cost tells what is within the limit, in so many criteria
pub record AreBounds (d target : ℕ) (limit : List (Option ℕ)) (most : List ℕ) (fronts : Fronts) : Type 0 where
  pub two : min_criteria ≤ d
  pub four : d ≤ max_criteria
  pub target_node : IsNode fronts.nodes target
  pub greatest : IsGreatestWithin limit most
