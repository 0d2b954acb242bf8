-- Only costs stored in few bits have no room.
use Rattle.std.proofs.Common.{ℕ, ◌+◌, ◌^◌, ◌<◌, ◌≤◌, List, Option, inl, inr, sym, subst, arith}
use Rattle.std.specs.Prelude.{All}
use Rattle.std.proofs.lemmas.List.Elements.{All-replicate, All-weaker}
use Rattle.cost_vector.specs.Costs.{plus}
use Rattle.cost_vector.proofs.Vectors.{All-plus}
use Rattle.road_network.specs.Network.{Network}
use Rattle.road_network.proofs.FiniteLaws.{best_is_short}
use Rattle.road_network.proofs.SumLaws.{small_by, walk_below}
use Rattle.arc_graph.specs.Graph.{IsRoadNetwork}
use Rattle.sweep_core.specs.Potentials.{HasNoRoom, IsConsistent, IsOnFromRelevant, Potential}
use Rattle.sweep_core.proofs.CostLemmas.{no_room}

module _ (net : Network) (road : IsRoadNetwork net) (s t : ℕ) (limit : List (Option ℕ)) (P : Potential) where
  small_on : (v : ℕ) (c : List ℕ) → IsOnFromRelevant net s t limit P v c → All (λ x. x < 2 ^ 59) c
  small_on v c on =
      let best = on.relevant.best in
      let short = best_is_short net road.network best.reached.0 s on.from on.cost best.reached.1 best in
      let cost = walk_below net road.small road.network best.reached.0 s on.from on.cost (omega (arith, short, road.nodes)) best.reached.1 in
      let by = small_by net road.small on.arc on.from v on.by on.leads in
      let most = All-plus (2 ^ 58) (2 ^ 32) on.cost on.by (All-weaker (λ x. x < 2 ^ 58) (λ x. x ≤ 2 ^ 58) (λ x below. omega (arith, below)) on.cost cost)
      (All-weaker (λ x. x < 2 ^ 32) (λ x. x ≤ 2 ^ 32) (λ x below. omega (arith, below)) on.by by) in
      subst (All (λ x. x < 2 ^ 59)) (sym on.sum) (All-weaker (λ x. x ≤ 2 ^ 58 + 2 ^ 32) (λ x. x < 2 ^ 59) (λ x below. omega (arith, below)) (plus on.cost on.by) most)

  -- in 60 bits a component there is room for all
  pub no_room_is_narrow : IsConsistent net t P → (bound : ℕ) → HasNoRoom net s t limit P bound → bound < 2 ^ 60
  no_room_is_narrow is bound h =
      let cost : All (λ x. x < 2 ^ 59) h.cost = elim (h.from) [
        | inl start ↦ subst (All (λ x. x < 2 ^ 59)) (sym start.1) (All-replicate (λ x. x < 2 ^ 59) net.criteria 0 (omega arith))
        | inr on ↦ small_on h.node h.cost on
      ] in
      let height = is.small h.node h.height h.has in
      let most = All-plus (2 ^ 59) (2 ^ 55) h.cost h.height (All-weaker (λ x. x < 2 ^ 59) (λ x. x ≤ 2 ^ 59) (λ x below. omega (arith, below)) h.cost cost)
      (All-weaker (λ x. x < 2 ^ 55) (λ x. x ≤ 2 ^ 55) (λ x below. omega (arith, below)) h.height height) in
      no_room (2 ^ 60) bound (plus h.cost h.height)
      (All-weaker (λ x. x ≤ 2 ^ 59 + 2 ^ 55) (λ x. x < 2 ^ 60) (λ x below. omega (arith, below)) (plus h.cost h.height) most) h.exceeds
