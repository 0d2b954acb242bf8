use Rattle.std.proofs.Common.{rules}
use Rattle.road_network.specs.Queries.{limit_of}
use Rattle.goal_laws.proofs.FoundGoalLaws.{well_found_by_goal}
use Rattle.sweep_search.specs.Swept.{found_of, lists_of}
use Rattle.sweep_search.proofs.FindingLemmas.{all_goal_relevant, too_large_by_bounds}
use Rattle.sweep_search.proofs.query.search_toward.Goals as goal

pub returns : goal.returns
returns c =
    let net = c.args.network.now in let query = c.args.query.now in
    let is = c.nodes.ensures.network.network in
    let found = c.lower.new.self in
    let bare = c.in_ok-lower.ensures in
    let relevant = all_goal_relevant net query is (lists_of found) bare in
    record {
      of_query = bare.of_query;
      relevant = relevant;
      well_found = well_found_by_goal net is (limit_of net.criteria query) (found_of found) c.count-count.ensures.found relevant;
      in_budget = λ large. c.in_ok-found.ensures.in_budget ((too_large_by_bounds net query is).1 large);
      refused = search rules;
    }
