-- What a search has found, without arcs.
use Rattle.std.specs.Prelude.{◌≡◌, ◌≢◌, ℕ, ◌-◌, ◌≤◌, ◌↔◌, List, ◌++◌, Option, length, AllPairs, Contains, min}
use Rattle.cost_vector.specs.Costs.{AtMost, LexLess, Within, min_criteria, max_criteria}
use Rattle.road_network.specs.Limits.{max_nodes}
use Rattle.road_network.specs.Network.{Network, IsNode}
use Rattle.road_network.specs.Walks.{IsWalk}
use Rattle.road_network.specs.Best.{IsBest}
use Rattle.road_network.specs.Answers.{IsRelevant}
use Rattle.road_network.specs.declared.query.Query.{Query}

-- The nodes and the criteria of the network that was searched, the nodes from which and to which walks lead, the settled
-- pairs of a node and a cost, and the settled costs of the target.
pub record FoundCosts : Type 0 where
  pub nodes : ℕ
  pub criteria : ℕ
  pub start : ℕ
  pub target : ℕ
  pub settled : List (ℕ × List ℕ)
  pub costs : List (List ℕ)

-- it was found for this query over this network
pub record IsOf (net : Network) (query : Query) (f : FoundCosts) : Type 0 where
  pub start : f.start ≡ query.from
  pub target : f.target ≡ query.to
  pub nodes : f.nodes ≡ net.nodes
  pub criteria : f.criteria ≡ net.criteria

-- c is a settled cost of the node v
abbrev pub HasSettled : FoundCosts → ℕ → List ℕ → Type 0
HasSettled f v c = Contains f.settled (v, c)

-- a settled cost of the node v is at most c
pub record IsCovered (f : FoundCosts) (v : ℕ) (c : List ℕ) : Type 0 where
  pub cost : List ℕ
  pub settled : HasSettled f v cost
  pub at_most : AtMost cost c

-- some settled cost is at least c
pub record IsBelowSettled (f : FoundCosts) (c : List ℕ) : Type 0 where
  pub node : ℕ
  pub cost : List ℕ
  pub settled : HasSettled f node cost
  pub at_most : AtMost c cost

-- No pair is settled twice, and the costs are the settled ones of the target, in strictly ascending lexicographic order.
pub record IsFound (f : FoundCosts) : Type 0 where
  pub two : min_criteria ≤ f.criteria
  pub four : f.criteria ≤ max_criteria
  pub nodes : f.nodes ≤ max_nodes
  pub start : IsNode f.nodes f.start
  pub target : IsNode f.nodes f.target
  pub once : AllPairs ◌≢◌ f.settled
  pub ascending : AllPairs LexLess f.costs
  pub costs : (c : List ℕ) → Contains f.costs c ↔ HasSettled f f.target c

-- the most arcs that a walk through settled pairs alone can have: it reaches each of them, and each node, once at most
abbrev pub longest_in : FoundCosts → ℕ
longest_in f = min f.nodes (length f.settled) - 1

-- A walk to the target of one of the costs comes through v, at the cost b of its first part.
pub record IsOnTheWay (net : Network) (f : FoundCosts) (v : ℕ) (b : List ℕ) : Type 0 where
  pub first : List ℕ
  pub rest : List ℕ
  pub cost : List ℕ
  pub there : Contains f.costs cost
  pub whole : IsWalk net f.start (first ++ rest) f.target cost
  pub reaches : IsWalk net f.start first v b

-- The costs are exactly the best costs of the target within the limit, each settled cost is a walk's, and what lies on the
-- way of a walk of such a cost is settled.
pub record IsWellFound (net : Network) (limit : List (Option ℕ)) (f : FoundCosts) : Type 0 where
  pub costs : (c : List ℕ) → Contains f.costs c ↔ (IsBest net f.start f.target c × Within limit c)
  pub walked : (v : ℕ) (b : List ℕ) → HasSettled f v b → (p : List ℕ) × IsWalk net f.start p v b
  pub on_the_way : (v : ℕ) (b : List ℕ) → IsOnTheWay net f v b → HasSettled f v b

-- the settled pairs are exactly the relevant ones of the query
pub record HasAllRelevant (net : Network) (limit : List (Option ℕ)) (f : FoundCosts) : Type 0 where
  pub relevant : (v : ℕ) (c : List ℕ) → HasSettled f v c ↔ IsRelevant net f.start f.target limit v c
