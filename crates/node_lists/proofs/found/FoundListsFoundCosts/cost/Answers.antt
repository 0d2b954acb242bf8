use Rattle.node_lists.proofs.FoundLemmas.{is_found}
use Rattle.node_lists.proofs.found.FoundListsFoundCosts.cost.Goals as goal

pub returns : goal.returns
returns g c =
    let there = rw (c.list.ensures, ← c.self.view_is) at c.cost_at.ensures in
    rw (← c.self.view_is) (record { found = is_found c.self.invariant; value = there })
