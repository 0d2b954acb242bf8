use Rattle.std.proofs.Common.{arith}
use Rattle.cost_vector.proofs.Components.{IsMeet, below_this, below_other, greatest}
use Rattle.stored_cost.proofs.wide.WideCostStoredCost.meet.Goals as goal

pub invariant_of-result : goal.invariant_of-result
invariant_of-result g c = record { long = c.loop-i.invariant.long; fits = c.loop-i.invariant.fits }

pub returns : goal.returns
returns g c =
    let i = c.loop-i.invariant in
    let meet : IsMeet c.loop-i.part-items c.self.inside.parts c.other.inside.parts = record {
      as_long = omega (arith, i.long, c.self.invariant.long);
      as_long_other = omega (arith, i.long, c.other.invariant.long);
      lesser = λ k within. i.lesser k (omega (arith, i.long));
    } in
    rw (← c.self.view_is, ← c.other.view_is) (record { below_this = below_this meet; below_other = below_other meet; greatest = greatest meet })
