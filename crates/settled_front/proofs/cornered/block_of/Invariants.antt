use Rattle.std.proofs.Common.{◌≡◌, length, map, take}
use Rattle.settled_front.proofs.cornered.block_of.Given as goal

abbrev pub invariant-loop-lane : goal.invariant-loop-lane
invariant-loop-lane g l = record {
  long : length (g.B.CostBlock.costs l.block) ≡ 16;
  written : take l.lane (g.B.CostBlock.costs l.block) ≡ map g.B.Cost.StoredCost.components (take l.lane l.costs);
}
