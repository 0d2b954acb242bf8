use Rattle.std.proofs.Common.{◌≡◌, ℕ, ◌<◌, length, get_or}
use Rattle.stored_cost.proofs.narrow.NarrowCostStoredCost.to_compact.Given as goal

abbrev pub invariant-loop-i : goal.invariant-loop-i
invariant-loop-i g l = record {
  long : length l.component-items ≡ g.row.D;
  written : (k : ℕ) → k < l.i → get_or l.component-items k 0 ≡ get_or l.self-inside.parts k 0;
}
