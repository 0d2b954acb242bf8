use Rattle.std.proofs.Common.{◌≡◌, ℕ, ◌<◌, ◌≤◌, ◌^◌, ◌↔◌, length, get_or}
use Rattle.cost_vector.specs.Costs.{IsAllowed}
use Rattle.std.specs.Prelude.{slice_index_or, None}
use Rattle.sweep_parts.proofs.limits.greatest_within.Given as goal

abbrev pub invariant-loop-i : goal.invariant-loop-i
invariant-loop-i g l = record {
  long : length l.component-items ≡ g.row.D;
  written : (k x : ℕ) → k < l.i → x < 2 ^ 64 → IsAllowed (slice_index_or l.limit k None) x ↔ (x ≤ get_or l.component-items k 0);
}
