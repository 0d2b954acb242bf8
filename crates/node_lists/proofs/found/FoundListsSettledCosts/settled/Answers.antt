use Rattle.node_lists.proofs.FoundLemmas.{settled_is}
use Rattle.node_lists.proofs.found.FoundListsSettledCosts.settled.Goals as goal

pub returns : goal.returns
returns g c = rw (← c.self.view_is) (settled_is c.self.invariant)
