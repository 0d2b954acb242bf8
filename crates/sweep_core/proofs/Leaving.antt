-- What an item that leaves says of the state, and that what is spent may leave.
use Rattle.std.proofs.Common.{◌≡◌, ◌⊎◌, ℕ, List, ◌∷◌, inl, inr, subst}
use Rattle.std.specs.Prelude.{Contains}
use Rattle.std.proofs.lemmas.List.Sorted.{Contains-permutation, IsPermutation-sym}
use Rattle.list_laws.proofs.Members.{cases_in, in_first, in_rest}
use Rattle.cost_vector.specs.Costs.{AtMost}
use Rattle.cost_vector.proofs.Vectors.{AtMost-trans, Dominates-AtMost}
use Rattle.road_network.specs.Network.{Network, IsNode}
use Rattle.waiting_item.specs.Waiting.{Spot, Waiting}
use Rattle.settled_front.specs.Fronts.{IsCovered}
use Rattle.sweep_parts.specs.Settled.{IsBehind, IsDominated, costs_of}
use Rattle.sweep_parts.specs.Leaving.{Leaves, LosesSpent}
use Rattle.sweep_core.specs.Potentials.{IsConsistent, Potential}
use Rattle.sweep_core.specs.Sweeps.{IsHandled, IsSpentBy, IsSweep, Sweep, costs_at, with_queue}

pub covered_below : (costs : List (List ℕ)) (b c : List ℕ) → AtMost b c → IsCovered costs b → IsCovered costs c
covered_below costs b c below h = record { by = h.by; contains = h.contains; at_most = AtMost-trans h.by b c h.at_most below }

pub dominated_below : (costs : List (List ℕ)) (b c : List ℕ) → AtMost b c → IsDominated costs b → IsDominated costs c
dominated_below costs b c below h = record { by = h.by; contains = h.contains; dominates = Dominates-AtMost h.by b c h.dominates below }

-- what costs at least as much as what is spent is spent
pub spent_below : (settled : List (List (List ℕ))) (target : ℕ) (y x : Spot) → y.node ≡ x.node → AtMost y.cost x.cost
    → IsSpentBy settled target y → IsSpentBy settled target x
spent_below settled target y x node below (inl covered) =
    inl (covered_below (costs_of settled x.node) y.cost x.cost below (subst (λ v. IsCovered (costs_of settled v) y.cost) node covered))
spent_below settled target y x node below (inr dominated) = inr (dominated_below (costs_of settled target) y.cost x.cost below dominated)

-- what is spent isn't missed
pub spent_leave : (net : Network) (P : Potential) (s : Sweep) → IsSweep net P s → (queue : List Waiting)
    → LosesSpent (IsSpentBy s.settled s.target) s.queue queue → IsSweep net P (with_queue s queue)
spent_leave net P s sweep queue loses = record {
  count = sweep.count;
  start_node = sweep.start_node;
  target_node = sweep.target_node;
  started = λ h has. handled (record { cost = h; node = s.start }) (sweep.started h has);
  settled_from = sweep.settled_from;
  waiting_from = λ j waits. sweep.waiting_from j (loses.old j waits);
  expanded = λ x settled b k v w h leads has. handled _ (sweep.expanded x settled b k v w h leads has);
  relevant = sweep.relevant;
  small = sweep.small;
  ascending = λ j v waits. sweep.ascending j v (loses.old j waits);
  within = λ j waits. sweep.within j (loses.old j waits);
  came = λ j waits. sweep.came j (loses.old j waits);
  few = sweep.few;
} where
  handled : (x : Spot) → IsHandled s x → IsHandled (with_queue s queue) x
  handled x (inl spent) = inl spent
  handled x (inr below) = elim (loses.kept below.item below.waits) [
    | inl waits ↦ inr (record { item = below.item; waits = waits; node = below.node; at_most = below.at_most })
    | inr spent ↦ inl (inl (spent_below s.settled s.target below.item.spot x below.node below.at_most spent))
  ]

module _ (net : Network) (t : ℕ) (P : Potential) (is : IsConsistent net t P) (s : Sweep) (sweep : IsSweep net P s) (i : Waiting) (after : List Waiting)
    (leaves : Leaves s.queue i after) where
  -- it waited
  pub there : Contains s.queue i
  there = Contains-permutation (i ∷ after) s.queue i (IsPermutation-sym s.queue (i ∷ after) leaves.rest) (in_first i after)

  -- the others still wait, and waited before
  pub still : (j : Waiting) → Contains s.queue j → (j ≡ i) ⊎ Contains after j
  still j waits = cases_in i after j (Contains-permutation s.queue (i ∷ after) j leaves.rest waits)

  pub waited : (j : Waiting) → Contains after j → Contains s.queue j
  waited j waits = Contains-permutation (i ∷ after) s.queue j (IsPermutation-sym s.queue (i ∷ after) leaves.rest) (in_rest i after j waits)

  -- at a node
  pub leaves_node : IsNode net.nodes i.spot.node
  leaves_node = let from = sweep.waiting_from i there in is.nodes i.spot.node from.lifted.height from.lifted.has

  -- and comes before nothing that is settled
  pub leaves_behind : (v : ℕ) → IsBehind (costs_at s v) i.spot.cost
  leaves_behind v = sweep.ascending i v there
