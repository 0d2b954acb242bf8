use Rattle.std.proofs.Common.{ℕ, ◌≤◌, ◌-◌, ◌≡◌, List, take, ◌⊎◌}
use Rattle.std.specs.Prelude.{Contains}
use Rattle.walk_readback.specs.Found.{HasSettled}
use Rattle.cert_writer.specs.Labels.{ListsPairs}
use Rattle.cert_writer.proofs.label_list.push_labels.Given as goal

-- the labels of lesser nodes stand there, and those of this node with the first costs
abbrev pub invariant-loop-cost : goal.invariant-loop-cost
invariant-loop-cost g l =
    let costs : List (List ℕ) = l.cost-items in
    ListsPairs l.network (g.F.FoundCosts.state l.found).start
    (λ v c. ((v ≤ l.node.0 - 1) × HasSettled (g.F.FoundCosts.state l.found) v c) ⊎ ((v ≡ l.node.0) × Contains (take l.cost-index costs) c)) l.labels.items
