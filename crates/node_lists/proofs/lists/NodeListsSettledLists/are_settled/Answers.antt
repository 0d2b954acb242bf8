use Rattle.node_lists.proofs.lists.NodeListsSettledLists.are_settled.Goals as goal

pub returns : goal.returns
returns g c = rw (← c.self.view_is) c.self.invariant.settled
