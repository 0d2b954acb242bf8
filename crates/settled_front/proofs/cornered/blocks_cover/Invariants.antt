use Rattle.std.proofs.Common.{ℕ, ◌*◌, ◌<◌, ◌≤◌, [], length, map, get_or}
use Rattle.settled_front.specs.Fronts.{IsCovered}
use Rattle.settled_front.proofs.cornered.blocks_cover.Given as goal

abbrev pub invariant-loop-group : goal.invariant-loop-group
invariant-loop-group g l = (k : ℕ) → l.group * 16 ≤ k → k < length l.blocks
    → ¬ IsCovered (get_or (map g.B.CostBlock.costs l.blocks) k []) (g.B.Cost.StoredCost.components l.cost)
