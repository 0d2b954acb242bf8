-- Where the goal-relevant pairs are settled, all is well found.
use Rattle.std.proofs.Common.{ℕ, List, Option, ◌↔◌, subst}
use Rattle.std.specs.Prelude.{Contains}
use Rattle.cost_vector.specs.Costs.{Within}
use Rattle.road_network.specs.Network.{Network, IsNetwork}
use Rattle.road_network.specs.Walks.{IsWalk}
use Rattle.road_network.specs.Best.{IsBest}
use Rattle.road_network.proofs.WalkLaws.{parts_of_walk}
use Rattle.road_network.proofs.BackwardLaws.{one_end}
use Rattle.walk_readback.specs.Found.{FoundCosts, HasSettled, IsFound, IsOnTheWay, IsWellFound}
use Rattle.goal_laws.specs.FoundGoal.{HasAllGoalRelevant}
use Rattle.goal_laws.proofs.BoundLaws.{has_bound}
use Rattle.goal_laws.proofs.GoalLaws.{goal_relevant_at_target, goal_relevant_on_the_way}

module _ (net : Network) (is : IsNetwork net) (limit : List (Option ℕ)) (f : FoundCosts) (found : IsFound f) (all : HasAllGoalRelevant net limit f) where
  costs_are_best : (c : List ℕ) → Contains f.costs c ↔ (IsBest net f.start f.target c × Within limit c)
  costs_are_best c = (
    λ there. (goal_relevant_at_target net is f.start f.target limit c).0 ((all.relevant f.target c).0 ((found.costs c).0 there)),
    λ both. (found.costs c).1 ((all.relevant f.target c).1 ((goal_relevant_at_target net is f.start f.target limit c).1 both)),
  )

  on_the_way : (v : ℕ) (b : List ℕ) → IsOnTheWay net f v b → HasSettled f v b
  on_the_way v b way =
      let parts = parts_of_walk net is way.first way.rest f.start f.target way.cost way.whole in
      let end = one_end net way.first f.start parts.at v parts.so_far b parts.first way.reaches in
      let onward = subst (λ x. IsWalk net x way.rest f.target parts.onward) end.0 parts.second in
      let bound = has_bound net is v f.target way.rest parts.onward onward in
      let best = (costs_are_best way.cost).0 way.there in
      (all.relevant v b).1
      (goal_relevant_on_the_way net is f.start f.target limit way.first way.rest v b way.cost bound.0 way.whole best.0 best.1 way.reaches bound.1)

  pub well_found_by_goal : IsWellFound net limit f
  well_found_by_goal = record {
    costs = costs_are_best;
    walked = λ v b settled. ((all.relevant v b).0 settled).best.reached;
    on_the_way = on_the_way;
  }
