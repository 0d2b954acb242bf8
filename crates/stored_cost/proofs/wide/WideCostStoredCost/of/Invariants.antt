use Rattle.std.proofs.Common.{◌≡◌, ℕ, ◌^◌, ◌<◌, length, get_or, All}
use Rattle.stored_cost.proofs.wide.WideCostStoredCost.of.Given as goal

abbrev pub invariant-loop-i : goal.invariant-loop-i
invariant-loop-i g l = record {
  long : length l.part-items ≡ g.row.D;
  written : (k : ℕ) → k < l.i → get_or l.part-items k 0 ≡ get_or l.numbers k 0;
  fits : All (λ x. x < 2 ^ 63) l.part-items;
}
