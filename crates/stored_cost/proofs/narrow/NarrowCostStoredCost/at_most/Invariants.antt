use Rattle.std.proofs.Common.{ℕ, ◌<◌, ◌≤◌, ◌↔◌, get_or, IsTrue}
use Rattle.stored_cost.proofs.narrow.NarrowCostStoredCost.at_most.Given as goal

abbrev pub invariant-loop-i : goal.invariant-loop-i
invariant-loop-i g l = IsTrue l.none_greater ↔ ((k : ℕ) → k < l.i → get_or l.part-items k 0 ≤ get_or l.other-inside.parts k 0)
