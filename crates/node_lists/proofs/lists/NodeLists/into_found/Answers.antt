use Rattle.node_lists.proofs.FoundLemmas.{found_between}
use Rattle.node_lists.proofs.lists.NodeLists.into_found.Goals as goal

pub invariant_of-result : goal.invariant_of-result
invariant_of-result g c =
    rw (c.in_ok-all_costs.ensures) (found_between c.self.invariant c.self.view_is c.requires.start c.requires.target)
