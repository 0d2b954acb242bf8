use Rattle.std.proofs.Common.{◌≡◌, length, ap, arith}
use Rattle.std.proofs.lemmas.Grind.{same_number_lists}
use Rattle.cost_vector.specs.Costs.{plus}
use Rattle.cost_vector.proofs.Components.{get_or-plus}
use Rattle.cost_vector.proofs.Vectors.{length-plus}
use Rattle.node_lists.proofs.lowered.lowered.Goals as goal

pub returns : goal.returns
returns g c =
    let left = c.loop-i.component-items in
    let by = c.args.by.now in
    let as_long : length left ≡ length by = omega arith in
    let whole = ap length c.to_compact-left.ensures.same in
    let long = length-plus left by as_long in
    rw (c.of.ensures, ← c.to_compact-left.ensures.same) (record {
      long = as_long;
      sum = same_number_lists (plus left by) c.to_compact-left.result.0 (omega (arith, long, whole, c.to_compact-left.ensures.long))
          (λ k within. omega (arith, c.loop-i.invariant.lowered k (omega (arith, within, long)), get_or-plus left by k as_long));
    })
