use Rattle.std.proofs.Common.{rules}
use Rattle.walk_readback.proofs.WellFoundLaws.{well_found}
use Rattle.bulk_search.proofs.TaskLemmas.{few_by_rounds}
use Rattle.bulk_search.proofs.query.search.Goals as goal

pub returns-in_err-found-clause-few : goal.returns-in_err-found-clause-few
returns-in_err-found-clause-few g c = few_by_rounds _ _ _ _ _ c.nodes.ensures.network.network c.requires.query c.find_all.ensures.rounds

pub returns-clause-answers : goal.returns-clause-answers
returns-clause-answers g c =
    let found = c.in_ok-found.ensures.found in
    record {
      of_query = record { start = found.start; target = found.target; nodes = found.nodes; criteria = found.criteria };
      relevant = found.relevant;
      well_found = well_found _ c.nodes.ensures.network.network _ _ found.relevant c.count-count.ensures.found;
      in_budget = found.in_budget;
      refused = search rules;
    }

pub returns-clause-few : goal.returns-clause-few
returns-clause-few g c = few_by_rounds _ _ _ _ _ c.nodes.ensures.network.network c.requires.query c.find_all.ensures.rounds
