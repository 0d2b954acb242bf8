use Rattle.std.proofs.Common.{sym, subst, ◌∙◌}
use Rattle.walk_readback.specs.SettledCosts.{ListsSettled}
use Rattle.node_lists.proofs.KeptLemmas.{if_ok_then}
use Rattle.node_lists.proofs.FoundLemmas.{lists_settled}
use Rattle.node_lists.proofs.found.FoundListsSettledCosts.costs_of.Goals as goal

pub returns : goal.returns
returns g c =
    let listed = rw (← c.self.view_is) at c.list.ensures in
    rw (← c.self.view_is) (if_ok_then c.to_costs.result c.to_costs.ensures (λ costs same.
    subst (ListsSettled _ c.args.node.0) (sym (same ∙ listed)) (lists_settled c.self.invariant c.args.node.0)))
