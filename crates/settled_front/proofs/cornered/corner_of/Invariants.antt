use Rattle.std.proofs.Common.{ℕ, ◌<◌, [], map, get_or}
use Rattle.cost_vector.specs.Costs.{AtMost}
use Rattle.settled_front.proofs.cornered.corner_of.Given as goal

abbrev pub invariant-loop-cost : goal.invariant-loop-cost
invariant-loop-cost g l =
    let f = g.C.StoredCost.components in
    (k : ℕ) → k < l.cost-index → AtMost (f l.corner) (get_or (map f l.costs) k [])
