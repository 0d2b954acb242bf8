-- What follows an item along the arcs that lead on from it.
use Rattle.std.specs.Prelude.{◌≡◌, ◌≢◌, ℕ, ◌^◌, ◌<◌, List, Option, Some, None, All}
use Rattle.cost_vector.specs.Costs.{Within, plus}
use Rattle.road_network.specs.Network.{Network, Leads}
use Rattle.waiting_item.specs.Waiting.{Spot, Waiting}
use Rattle.sweep_core.specs.Potentials.{Potential}
use Rattle.sweep_core.specs.Sweeps.{IsLifted}

-- the spot is that of a cost, each component of which is below 2^59, with the height of its node added
pub record IsSmallLifted (net : Network) (P : Potential) (x : Spot) : Type 0 where
  pub is_lifted : IsLifted net P x
  pub small : All (λ c. c < 2 ^ 59) is_lifted.cost

-- the arc k leads from the spot x to y, and makes its cost
pub record IsGivenFrom (net : Network) (P : Potential) (x : Spot) (k : ℕ) (y : Spot) : Type 0 where
  pub is_lifted : IsLifted net P x
  pub by : List ℕ
  pub height : List ℕ
  pub leads : Leads net k x.node by y.node
  pub has : P y.node height
  pub cost : y.cost ≡ plus (plus is_lifted.cost by) height

-- The item is what the arc k gives from the item x on, and within the limit; or there is none such, but straight back to where x
-- came from.
abbrev pub IsGivenIfAny : Network → Potential → List (Option ℕ) → Waiting → ℕ → Option Waiting → Type 0
IsGivenIfAny net P limit x k None = (y : Spot) → IsGivenFrom net P x.spot k y → y.node ≢ x.from → ¬ Within limit y.cost
IsGivenIfAny net P limit x k (Some i) = IsGivenFrom net P x.spot k i.spot × (i.from ≡ x.spot.node) × Within limit i.spot.cost

-- what an arc gives from the spot x on is within the limit, and has a component that isn't below the bound
pub record HasNoRoomFrom (net : Network) (P : Potential) (limit : List (Option ℕ)) (x : Spot) (bound : ℕ) : Type 0 where
  pub arc : ℕ
  pub spot : Spot
  pub given : IsGivenFrom net P x arc spot
  pub within : Within limit spot.cost
  pub exceeds : ¬ All (λ c. c < bound) spot.cost
