-- What a search promises that is directed to its target.
use Rattle.std.specs.Prelude.{IfOk, OnOk, IsErrOf, Result}
use Rattle.walk_readback.specs.Found.{IsOf, IsWellFound}
use Rattle.road_network.specs.Network.{Network}
use Rattle.road_network.specs.Queries.{limit_of}
use Rattle.road_network.specs.declared.query.Query.{Query}
use Rattle.road_network.specs.declared.query.SearchFault.{SearchFault}
use Rattle.road_network.specs.declared.query.SearchFault.TheVariants.{Budget}
use Rattle.goal_laws.specs.Goal.{IsTooLargeToward}
use Rattle.goal_laws.specs.FoundGoal.{HasAllGoalRelevant}
use Rattle.sweep_search.specs.declared.swept.Swept.{Swept}
use Rattle.sweep_search.specs.Swept.{found_of}

-- What such a search answers to a query: all of it exactly where the query doesn't pass its budget, but for want of memory.
pub record AnswersToward (net : Network) (query : Query) (result : Result Swept SearchFault) : Type 0 where
  -- what was found is of this network, and leads from the one end of the query to the other
  pub of_query : IfOk result (λ f. IsOf net query (found_of f))
  -- its settled costs are exactly the goal-relevant pairs of the query
  pub relevant : IfOk result (λ f. HasAllGoalRelevant net (limit_of net.criteria query) (found_of f))
  -- so the walks of its costs can be read back
  pub well_found : IfOk result (λ f. IsWellFound net (limit_of net.criteria query) (found_of f))
  -- it comes only where the query doesn't pass its budget
  pub in_budget : OnOk result (¬ IsTooLargeToward net query)
  -- and a refusal comes only where it does
  pub refused : IsErrOf result Budget → IsTooLargeToward net query
