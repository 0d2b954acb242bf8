use Rattle.std.proofs.Common.{arith}
use Rattle.cost_vector.proofs.Components.{IsMeet, below_this, below_other, greatest}
use Rattle.cost_vector.proofs.compact_cost.CompactCost.meet.Goals as goal

pub returns : goal.returns
returns g c =
    let m : IsMeet c.loop-i.component-items c.args.self.now.0 c.args.other.now.0 = record {
      as_long = omega arith;
      as_long_other = omega arith;
      lesser = λ k w. c.loop-i.invariant.lesser k (omega arith);
    } in
    record { below_this = below_this m; below_other = below_other m; greatest = greatest m }
