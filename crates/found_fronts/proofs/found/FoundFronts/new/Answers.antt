use Rattle.found_fronts.proofs.FoundLemmas.{is_found, is_of_fronts}
use Rattle.found_fronts.proofs.found.FoundFronts.new.Goals as goal

pub invariant_of-result : goal.invariant_of-result
invariant_of-result g c = is_found g.row.D _ _ _ _ c.args.fronts c.costs_are_stored.ensures c.in_ok-costs.ensures c.requires.start c.requires.target

pub returns : goal.returns
returns g c = is_of_fronts g.row.D 0 c.args.start.0 c.args.target.0 _ c.args.fronts
