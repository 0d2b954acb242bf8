use Rattle.waiting_queue.proofs.RangeLemmas.{IsCutting}
use Rattle.waiting_queue.proofs.ranges.cut_ranges.Given as goal

abbrev pub invariant-loop : goal.invariant-loop
invariant-loop g l = IsCutting g.C.StoredCost.components l.fn.items l.ranges.items l.items l.from
