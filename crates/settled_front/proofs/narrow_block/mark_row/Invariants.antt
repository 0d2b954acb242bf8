use Rattle.std.proofs.Common.{◌≡◌, ◌↔◌, ◌⊎◌, ℕ, ◌<◌, ◌≤◌, length, get_or}
use Rattle.settled_front.specs.Blocks.{IsMarked}
use Rattle.settled_front.proofs.narrow_block.mark_row.Given as goal

abbrev pub invariant-loop-lane : goal.invariant-loop-lane
invariant-loop-lane l = record {
  long : length l.over ≡ 16;
  marked : (k : ℕ) → k < l.lane → IsMarked (get_or l.over k 0) ↔ (IsMarked (get_or l.fn.over k 0) ⊎ (l.component < get_or l.row k 0));
  others : (k : ℕ) → l.lane ≤ k → get_or l.over k 0 ≡ get_or l.fn.over k 0;
}
