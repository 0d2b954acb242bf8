use Rattle.std.proofs.Common.{◌-◌, length}
use Rattle.least_queue.proofs.SpentLemmas.{LeavesOut}
use Rattle.least_queue.proofs.buckets.leave_out_spent.Given as goal

abbrev pub invariant-loop-kept : goal.invariant-loop-kept
invariant-loop-kept g l = LeavesOut g.C.StoredCost.components (g.K.Look.IsSpent l.look) l.fn.entries.items l.entries.items l.kept

abbrev pub decreases-loop-kept : goal.decreases-loop-kept
decreases-loop-kept g l = length l.entries.items - l.kept
