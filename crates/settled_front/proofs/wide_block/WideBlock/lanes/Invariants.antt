use Rattle.std.proofs.Common.{◌↔◌, ℕ, List, [], ◌<◌, get_or}
use Rattle.cost_vector.specs.Costs.{AtMost}
use Rattle.settled_front.specs.Blocks.{HasLane}
use Rattle.settled_front.proofs.wide_block.WideBlock.lanes.Given as goal

abbrev pub invariant-loop-lane : goal.invariant-loop-lane
invariant-loop-lane g l =
    let costs : List (List ℕ) = l.own-items in
    (k : ℕ) → k < 16 → HasLane l.lanes k ↔ ((k < l.lane) × AtMost (get_or costs k []) l.cost)
