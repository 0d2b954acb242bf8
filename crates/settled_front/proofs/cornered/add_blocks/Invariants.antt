use Rattle.std.proofs.Common.{◌≡◌, ◌+◌, ◌*◌, ◌++◌, map, take, vec_capacity, vec_len}
use Rattle.settled_front.specs.Corners.{AreCornered, HasRoom, in_blocks}
use Rattle.settled_front.proofs.cornered.add_blocks.Given as goal

abbrev pub invariant-loop-i : goal.invariant-loop-i
invariant-loop-i g l =
    let costs = g.B.CostBlock.costs in
    let f = g.B.Cost.StoredCost.components in
    record {
      cornered : AreCornered g.row.D (map costs l.blocks.items) (map costs l.corners.items);
      counted : vec_len l.blocks ≡ vec_len l.fn.blocks + l.i;
      room : HasRoom (vec_len l.fn.blocks + 8) (vec_capacity l.blocks) (vec_capacity l.corners);
      added : in_blocks (map costs l.blocks.items) ≡ in_blocks (map costs l.fn.blocks.items) ++ map f (take (l.i * 16) l.costs);
    }
