use Rattle.node_lists.proofs.FoundLemmas.{is_found}
use Rattle.node_lists.proofs.found.FoundListsFoundCosts.count.Goals as goal

pub returns-clause-found : goal.returns-clause-found
returns-clause-found g c = rw (← c.self.view_is) (is_found c.self.invariant)
