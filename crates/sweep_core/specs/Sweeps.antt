-- A search in the order of cost, between its steps and within one.
use Rattle.std.specs.Prelude.{◌≡◌, ℕ, ◌+◌, ◌*◌, ◌-◌, ◌^◌, ◌<◌, ◌≤◌, ◌⊎◌, List, [], ◌∷◌, Option, Some, None, length, replicate, All, Contains, IsPermutation}
use Rattle.cost_vector.specs.Costs.{AtMost, Within, plus}
use Rattle.cost_vector.specs.declared.label.ArcNo.{ArcNo}
use Rattle.road_network.specs.Network.{Network, IsNode, Leads}
use Rattle.road_network.specs.declared.query.Query.{Query}
use Rattle.arc_graph.specs.Graph.{tail_of}
use Rattle.settled_front.specs.Fronts.{IsCovered}
use Rattle.waiting_item.specs.Waiting.{Spot, Waiting}
use Rattle.sweep_parts.specs.Settled.{IsBehind, IsDominated, costs_of, count_settled}
use Rattle.sweep_parts.specs.Leaving.{Leaves, TakesLeast}
use Rattle.sweep_core.specs.Potentials.{IsRelevantBy, Potential}

-- What is searched; by node the settled costs in their order; and what waits.
pub record Sweep : Type 0 where
  pub start : ℕ
  pub target : ℕ
  pub limit : List (Option ℕ)
  pub budget : ℕ
  pub settled : List (List (List ℕ))
  pub queue : List Waiting

-- the same search, where this is settled and this waits
abbrev pub with_both : Sweep → List (List (List ℕ)) → List Waiting → Sweep
with_both s settled queue = record { start = s.start; target = s.target; limit = s.limit; budget = s.budget; settled = settled; queue = queue }

-- the same, where this waits
abbrev pub with_queue : Sweep → List Waiting → Sweep
with_queue s = with_both s s.settled

-- the same, where nothing waits: what doesn't change while arcs are followed
abbrev pub without_queue : Sweep → Sweep
without_queue s = with_queue s []

-- the costs of the node v
abbrev pub costs_at : Sweep → ℕ → List (List ℕ)
costs_at s = costs_of s.settled

-- the spot's cost is settled at its node
abbrev pub IsSettledIn : List (List (List ℕ)) → Spot → Type 0
IsSettledIn settled x = Contains (costs_of settled x.node) x.cost

-- a settled cost of its node is at most its cost, or one of the target dominates it
abbrev pub IsSpentBy : List (List (List ℕ)) → ℕ → Spot → Type 0
IsSpentBy settled target x = IsCovered (costs_of settled x.node) x.cost ⊎ IsDominated (costs_of settled target) x.cost

-- it is spent or beyond the limit: never to be settled
abbrev pub IsRuledOut : Sweep → Spot → Type 0
IsRuledOut s x = IsSpentBy s.settled s.target x ⊎ (¬ Within s.limit x.cost)

-- what waits at its node costs at most as much
pub record HasWaitingBelow (queue : List Waiting) (x : Spot) : Type 0 where
  pub item : Waiting
  pub waits : Contains queue item
  pub node : item.spot.node ≡ x.node
  pub at_most : AtMost item.spot.cost x.cost

-- it is ruled out, or what waits at its node is at most it
abbrev pub IsHandled : Sweep → Spot → Type 0
IsHandled s x = IsRuledOut s x ⊎ HasWaitingBelow s.queue x

-- the spot of the node v at the cost c with the height h added
abbrev pub lifted : ℕ → List ℕ → List ℕ → Spot
lifted v c h = record { cost = plus c h; node = v }

-- the spot's cost is one of the criteria, with the height of its node added
pub record IsLifted (net : Network) (P : Potential) (x : Spot) : Type 0 where
  pub cost : List ℕ
  pub whole : length cost ≡ net.criteria
  pub height : List ℕ
  pub has : P x.node height
  pub sum : x.cost ≡ plus cost height

-- an arc leads there from a settled spot
pub record IsAlong (net : Network) (P : Potential) (settled : List (List (List ℕ))) (v : ℕ) (c : List ℕ) : Type 0 where
  pub from : Spot
  pub there : IsSettledIn settled from
  pub before : IsLifted net P from
  pub arc : ℕ
  pub by : List ℕ
  pub leads : Leads net arc from.node by v
  pub cost : c ≡ plus before.cost by

-- the start at no cost, or along an arc from what is settled
pub record IsFromSettled (net : Network) (P : Potential) (start : ℕ) (settled : List (List (List ℕ))) (x : Spot) : Type 0 where
  pub lifted : IsLifted net P x
  pub from : ((x.node ≡ start) × (lifted.cost ≡ replicate net.criteria 0)) ⊎ IsAlong net P settled x.node lifted.cost

-- each open arc that leads on from the spot has been followed
abbrev pub IsExpanded : Network → Potential → Sweep → Spot → Type 0
IsExpanded net P s x = (b : IsLifted net P x) (k v : ℕ) (w h : List ℕ) → Leads net k x.node w v → P v h
    → IsHandled s (lifted v (plus b.cost w) h)

-- it came from no node, or the node from which it came has a settled cost that is at most its own
abbrev pub CameFromBelow : List (List (List ℕ)) → Waiting → Type 0
CameFromBelow settled i = (i.from ≡ 0) ⊎ IsCovered (costs_of settled i.from) i.spot.cost

-- What each state between steps keeps.
pub record IsSweep (net : Network) (P : Potential) (s : Sweep) : Type 0 where
  pub count : length s.settled ≡ net.nodes + 1
  pub start_node : IsNode net.nodes s.start
  pub target_node : IsNode net.nodes s.target
  pub started : (h : List ℕ) → P s.start h → IsHandled s (record { cost = h; node = s.start })
  pub settled_from : (x : Spot) → IsSettledIn s.settled x → IsFromSettled net P s.start s.settled x
  pub waiting_from : (i : Waiting) → Contains s.queue i → IsFromSettled net P s.start s.settled i.spot
  pub expanded : (x : Spot) → IsSettledIn s.settled x → IsExpanded net P s x
  pub relevant : (x : Spot) (b : IsLifted net P x) → IsSettledIn s.settled x → IsRelevantBy net s.start s.target s.limit P x.node b.cost
  pub small : (x : Spot) (b : IsLifted net P x) → IsSettledIn s.settled x → All (λ c. c ≤ count_settled s.settled * (2 ^ 32 - 1)) b.cost
  pub ascending : (i : Waiting) (v : ℕ) → Contains s.queue i → IsBehind (costs_at s v) i.spot.cost
  pub within : (i : Waiting) → Contains s.queue i → Within s.limit i.spot.cost
  pub came : (i : Waiting) → Contains s.queue i → CameFromBelow s.settled i
  pub few : count_settled s.settled ≤ s.budget

-- the same search
pub record IsSameSearch (before after : Sweep) : Type 0 where
  pub start : after.start ≡ before.start
  pub target : after.target ≡ before.target
  pub limit : after.limit ≡ before.limit
  pub budget : after.budget ≡ before.budget

-- the spot is that of a pair relevant by the potential, with the height of its node added
pub record IsOfRelevant (net : Network) (s t : ℕ) (limit : List (Option ℕ)) (P : Potential) (x : Spot) : Type 0 where
  pub is_lifted : IsLifted net P x
  pub relevant : IsRelevantBy net s t limit P x.node is_lifted.cost

-- settled are exactly the pairs relevant by the potential, each with the height of its node added
pub record SettlesAll (net : Network) (s t : ℕ) (limit : List (Option ℕ)) (P : Potential) (settled : List (List (List ℕ))) : Type 0 where
  pub count : length settled ≡ net.nodes + 1
  pub relevant : (x : Spot) → IsSettledIn settled x → IsOfRelevant net s t limit P x
  pub all : (v : ℕ) (c h : List ℕ) → P v h → IsRelevantBy net s t limit P v c → IsSettledIn settled (lifted v c h)

-- The item left a state, in which none that waited came before it, and isn't spent.
pub record IsNext (net : Network) (P : Potential) (s : Sweep) (i : Waiting) : Type 0 where
  pub queue : List Waiting
  pub sweep : IsSweep net P (with_queue s queue)
  pub leaves : Leaves queue i s.queue
  pub unspent : ¬ IsSpentBy s.settled s.target i.spot

-- What is known of an item that was settled last, while its arcs are followed.
pub record IsRelaxing (net : Network) (P : Potential) (s : Sweep) (x : Waiting) : Type 0 where
  pub count : length s.settled ≡ net.nodes + 1
  pub target_node : IsNode net.nodes s.target
  pub lifted : IsLifted net P x.spot
  pub small : All (λ c. c < 2 ^ 59) lifted.cost
  pub settled : IsSettledIn s.settled x.spot
  pub behind : (v : ℕ) → IsBehind (costs_at s v) x.spot.cost
  pub came : CameFromBelow s.settled x

-- the arc leads on from the node u, by the ends of all arcs
pub record IsOutOf (ends : List (ℕ × ℕ)) (u : ℕ) (a : ArcNo) : Type 0 where
  pub counted : 1 ≤ a.0
  pub there : a.0 ≤ length ends
  pub tail : tail_of ends a ≡ u

-- The item j follows the settled item x: an arc leads there, and it is within the limit and costs in no component less.
pub record IsFollowing (net : Network) (P : Potential) (s : Sweep) (x j : Waiting) : Type 0 where
  pub from_settled : IsFromSettled net P s.start s.settled j.spot
  pub within : Within s.limit j.spot.cost
  pub above : AtMost x.spot.cost j.spot.cost
  pub came : j.from ≡ x.spot.node

-- What the arcs of which K holds give, from the settled item x on, waits now unless it is ruled out, and nothing else has come.
pub record Follows (net : Network) (P : Potential) (s : Sweep) (x : Waiting) (K : ℕ → Type 0) (before after : List Waiting) : Type 0 where
  pub kept : (j : Waiting) → Contains before j → Contains after j
  pub come : (j : Waiting) → Contains after j → Contains before j ⊎ IsFollowing net P s x j
  pub all : (b : IsLifted net P x.spot) (k v : ℕ) (w h : List ℕ) → K k → Leads net k x.spot.node w v → P v h
      → IsHandled (with_queue s after) (lifted v (plus b.cost w) h)

-- It can be told whether the spot is spent: it and the target are of a node, and no settled cost of these comes behind it.
pub record CanTell (settled : List (List (List ℕ))) (target : ℕ) (x : Spot) : Type 0 where
  pub node : x.node < length settled
  pub target_node : target < length settled
  pub at_node : IsBehind (costs_of settled x.node) x.cost
  pub at_target : IsBehind (costs_of settled target) x.cost

-- The item leaves what waits, in which none came before it and it isn't spent; what else was spent may have left.
pub record TakesUnspent (settled : List (List (List ℕ))) (target : ℕ) (before : List Waiting) (i : Waiting) (after : List Waiting) : Type 0 where
  pub takes : TakesLeast (IsSpentBy settled target) before i after
  pub unspent : ¬ IsSpentBy settled target i.spot

-- the item waits now, or is spent and nothing has come
abbrev pub LetsWait : List (List (List ℕ)) → ℕ → Waiting → List Waiting → List Waiting → Type 0
LetsWait settled target i before after = (IsSpentBy settled target i.spot × (after ≡ before)) ⊎ IsPermutation (i ∷ before) after

-- The item stands for the start, which is within the limit with its height; or the start has none such.
abbrev pub IsStartIfAny : Potential → ℕ → List (Option ℕ) → Option Waiting → Type 0
IsStartIfAny P start limit None = (h : List ℕ) → P start h → ¬ Within limit h
IsStartIfAny P start limit (Some i) = P start i.spot.cost × (i.spot.node ≡ start) × (i.from ≡ 0) × Within limit i.spot.cost

-- it is a search for this query, within the limit
pub record IsSearchFor (query : Query) (limit : List (Option ℕ)) (s : Sweep) : Type 0 where
  pub start : s.start ≡ query.from
  pub target : s.target ≡ query.to
  pub limit_is : s.limit ≡ limit
  pub budget : s.budget ≡ query.budget

-- nothing waits any more in a state of the search
pub record IsEnded (net : Network) (P : Potential) (s : Sweep) : Type 0 where
  pub sweep : IsSweep net P s
  pub none : s.queue ≡ []

-- one more is settled in a state of the same search
pub record Settles (net : Network) (P : Potential) (before after : Sweep) : Type 0 where
  pub same : IsSameSearch before after
  pub sweep : IsSweep net P after
  pub more : count_settled after.settled ≡ count_settled before.settled + 1
