use Rattle.std.proofs.Common.{◌↔◌, ℕ, ◌<◌, get_or}
use Rattle.settled_front.specs.Blocks.{Exceeds, IsMarked}
use Rattle.settled_front.proofs.narrow_block.NarrowBlock.lanes.Given as goal

abbrev pub invariant-loop-k : goal.invariant-loop-k
invariant-loop-k g l = (lane : ℕ) → lane < 16 → IsMarked (get_or l.over lane 0) ↔ Exceeds l.row-items l.cost l.k lane
