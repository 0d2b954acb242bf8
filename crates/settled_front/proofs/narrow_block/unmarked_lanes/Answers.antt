use Rattle.std.proofs.Common.{arith}
use Rattle.settled_front.proofs.LaneBits.{mask_fits}
use Rattle.settled_front.proofs.narrow_block.unmarked_lanes.Goals as goal

pub overflow_cast-unmarked : goal.overflow_cast-unmarked
overflow_cast-unmarked c = mask_fits c.args.marks.now (omega arith)
