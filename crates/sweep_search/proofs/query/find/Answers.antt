use Rattle.std.proofs.Common.{rules}
use Rattle.std.proofs.lemmas.Result.{err_from_is_err_and}
use Rattle.road_network.specs.Queries.{limit_of}
use Rattle.walk_readback.proofs.WellFoundLaws.{well_found}
use Rattle.sweep_search.specs.Swept.{found_of, lists_of}
use Rattle.sweep_search.proofs.FindingLemmas.{all_relevant, too_large_by_zero}
use Rattle.sweep_search.proofs.query.find.Goals as goal

pub returns-in_err-found : goal.returns-in_err-found
returns-in_err-found c =
    let net = c.args.network.now in let query = c.args.query.now in
    let p = err_from_is_err_and c.from_residual.result c.from_residual.ensures.1 in
    rw (p.1, p.2) (record {
      of_query = tt;
      relevant = tt;
      well_found = tt;
      in_budget = tt;
      refused = λ e. (too_large_by_zero net query c.nodes.ensures.network.network).0 (c.in_err-found.ensures.budget e);
    })

pub returns : goal.returns
returns c =
    let net = c.args.network.now in let query = c.args.query.now in
    let is = c.nodes.ensures.network.network in
    let found = c.in_ok-found.found in
    let relevant = all_relevant net query is (lists_of found) c.in_ok-found.ensures.all in
    record {
      of_query = c.in_ok-found.ensures.all.of_query;
      relevant = relevant;
      well_found = well_found net is (limit_of net.criteria query) (found_of found) relevant c.count-count.ensures.found;
      in_budget = λ large. c.in_ok-found.ensures.in_budget ((too_large_by_zero net query is).1 large);
      refused = search rules;
    }
