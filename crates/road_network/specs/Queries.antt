-- When a query can be asked of a network, and when it is refused.
use Rattle.std.specs.Prelude.{◌≡◌, ◌≤◌, ℕ, List, Option, Some, None, length}
use Rattle.cost_vector.specs.Costs.{no_limit}
use Rattle.road_network.specs.Answers.{Passes}
use Rattle.road_network.specs.Limits.{max_budget}
use Rattle.road_network.specs.Network.{Network, IsNode}
use Rattle.road_network.specs.declared.query.Query.{Query}

-- the limit in so many criteria, which has no bound where there is none
abbrev pub limit_or_none : ℕ → Option (List (Option ℕ)) → List (Option ℕ)
limit_or_none criteria None = no_limit criteria
limit_or_none criteria (Some limit) = limit

-- the limit of the query
abbrev pub limit_of : ℕ → Query → List (Option ℕ)
limit_of criteria query = limit_or_none criteria query.limit

-- the limit has a place for each of so many criteria, and the budget isn't beyond the greatest
pub record IsAsked (criteria : ℕ) (query : Query) : Type 0 where
  pub limit : length (limit_of criteria query) ≡ criteria
  pub budget : query.budget ≤ max_budget

-- both ends are nodes
abbrev pub HaveNodes : Network → Query → Type 0
HaveNodes net query = IsNode net.nodes query.from × IsNode net.nodes query.to

-- the query can be searched: it is asked in the network's criteria, from one node to another
pub record IsQuery (net : Network) (query : Query) : Type 0 where
  pub from : IsNode net.nodes query.from
  pub to : IsNode net.nodes query.to
  pub limit : length (limit_of net.criteria query) ≡ net.criteria
  pub budget : query.budget ≤ max_budget

-- the query passes its budget, within its limit
abbrev pub IsTooLarge : Network → Query → Type 0
IsTooLarge net query = Passes net query.from query.to (limit_of net.criteria query) query.budget
