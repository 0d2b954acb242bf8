-- By which arcs a walk to a node at a cost can be read back.
use Rattle.std.specs.Prelude.{◌≡◌, ℕ, List, ◌++◌, Option, reverse, slice_get}
use Rattle.cost_vector.specs.Costs.{plus}
use Rattle.road_network.specs.Network.{Network, IsNetwork, Leads}
use Rattle.road_network.specs.Walks.{IsWalk}
use Rattle.road_network.specs.Best.{IsBest}
use Rattle.walk_readback.specs.Found.{FoundCosts, HasSettled}

-- Arc k leads to v by a vector that makes c of a settled cost of the node that it leads from.
pub record GoesBack (net : Network) (f : FoundCosts) (v : ℕ) (c : List ℕ) (k : ℕ) : Type 0 where
  pub from : ℕ
  pub by : List ℕ
  pub before : List ℕ
  pub leads : Leads net k from by v
  pub cost : c ≡ plus before by
  pub settled : HasSettled f from before

-- Walks to v of cost c can be read back: the cost is best, each front of such a walk is settled at its own cost, and each
-- settled cost is a walk's.
pub record IsReadable (net : Network) (f : FoundCosts) (v : ℕ) (c : List ℕ) : Type 0 where
  pub network : IsNetwork net
  pub best : IsBest net f.start v c
  pub settled : (p q : List ℕ) (u : ℕ) (b : List ℕ) → IsWalk net f.start (p ++ q) v c → IsWalk net f.start p u b → HasSettled f u b
  pub walked : (u : ℕ) (b : List ℕ) → HasSettled f u b → (p : List ℕ) × IsWalk net f.start p u b

-- the number of a walk's last arc, which is the first one backwards, or None for the walk without arcs
abbrev pub last_of : List ℕ → Option ℕ
last_of p = slice_get (reverse p) 0
