use Rattle.std.proofs.Common.{◌≡◌, ℕ, ◌^◌, ◌<◌, length, get_or, All}
use Rattle.settled_front.specs.Blocks.{in_row}
use Rattle.settled_front.proofs.narrow_block.NarrowBlockCostBlock.cost.Given as goal

abbrev pub invariant-loop-k : goal.invariant-loop-k
invariant-loop-k g l = record {
  long : length l.number-items ≡ g.row.D;
  fits : All (λ x. x < 2 ^ 31) l.number-items;
  written : (j : ℕ) → j < l.k → get_or l.number-items j 0 ≡ in_row l.self-inside.rows j l.lane;
}
