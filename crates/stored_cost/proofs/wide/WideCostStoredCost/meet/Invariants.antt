use Rattle.std.proofs.Common.{◌≡◌, ℕ, ◌^◌, ◌<◌, ◌≤◌, length, get_or, min, All}
use Rattle.stored_cost.proofs.wide.WideCostStoredCost.meet.Given as goal

abbrev pub invariant-loop-i : goal.invariant-loop-i
invariant-loop-i g l = record {
  long : length l.part-items ≡ g.row.D;
  lesser : (k : ℕ) → k < l.i → get_or l.part-items k 0 ≡ min (get_or l.initial.part-items k 0) (get_or l.other-inside.parts k 0);
  others : (k : ℕ) → l.i ≤ k → get_or l.part-items k 0 ≡ get_or l.initial.part-items k 0;
  fits : All (λ x. x < 2 ^ 63) l.part-items;
}
