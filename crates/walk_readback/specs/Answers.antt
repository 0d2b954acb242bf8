-- What a search promises.
use Rattle.std.specs.Prelude.{IfOk, OnOk, IsErrOf, Result}
use Rattle.road_network.specs.Network.{Network}
use Rattle.road_network.specs.Queries.{IsTooLarge, limit_of}
use Rattle.road_network.specs.declared.query.Query.{Query}
use Rattle.road_network.specs.declared.query.SearchFault.{SearchFault}
use Rattle.road_network.specs.declared.query.SearchFault.TheVariants.{Budget}
use Rattle.walk_readback.specs.Found.{FoundCosts, HasAllRelevant, IsOf, IsWellFound}

-- What a search answers to a query over a network: all of it exactly where the query doesn't pass its budget, but for want
-- of memory. The state of a result is what was found.
pub record Answers {F : Type 0} (state : F → FoundCosts) (net : Network) (query : Query) (result : Result F SearchFault) : Type 0 where
  -- what was found is of this network, and leads from the one end of the query to the other
  pub of_query : IfOk result (λ f. IsOf net query (state f))
  -- its settled labels are exactly the relevant pairs of the query
  pub relevant : IfOk result (λ f. HasAllRelevant net (limit_of net.criteria query) (state f))
  -- so the walks of its costs can be read back
  pub well_found : IfOk result (λ f. IsWellFound net (limit_of net.criteria query) (state f))
  -- it comes only where the query doesn't pass its budget
  pub in_budget : OnOk result (¬ IsTooLarge net query)
  -- and a refusal comes only where it does
  pub refused : IsErrOf result Budget → IsTooLarge net query
