use Rattle.std.proofs.Common.{◌≡◌, ℕ, ◌+◌, ◌<◌, ◌≤◌, length, get_or}
use Rattle.node_lists.proofs.lowered.lowered.Given as goal

abbrev pub invariant-loop-i : goal.invariant-loop-i
invariant-loop-i g l = record {
  long : length l.component-items ≡ g.row.D;
  lowered : (k : ℕ) → k < l.i → get_or l.component-items k 0 + get_or l.by k 0 ≡ get_or l.initial.component-items k 0;
  others : (k : ℕ) → l.i ≤ k → get_or l.component-items k 0 ≡ get_or l.initial.component-items k 0;
}
