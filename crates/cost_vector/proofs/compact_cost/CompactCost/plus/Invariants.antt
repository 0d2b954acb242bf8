use Rattle.std.proofs.Common.{◌≡◌, ℕ, ◌+◌, ◌<◌, ◌≤◌, length, get_or}
use Rattle.cost_vector.proofs.compact_cost.CompactCost.plus.Given as goal

abbrev pub invariant-loop-i : goal.invariant-loop-i
invariant-loop-i g l = record {
  long : length l.component-items ≡ g.row.D;
  added : (k : ℕ) → k < l.i → get_or l.component-items k 0 ≡ get_or l.self.0 k 0 + get_or l.w k 0;
  others : (k : ℕ) → l.i ≤ k → get_or l.component-items k 0 ≡ get_or l.self.0 k 0;
}
