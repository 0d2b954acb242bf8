use Rattle.std.proofs.Common.{◌≡◌, ◌^◌, length, arith}
use Rattle.std.proofs.lemmas.Grind.{same_number_lists}
use Rattle.std.proofs.Math.Facts.{Fits-of_lt}
use Rattle.cost_vector.proofs.Vectors.{length-plus}
use Rattle.cost_vector.proofs.Components.{get_or-plus, sum_below}
use Rattle.cost_vector.proofs.compact_cost.CompactCost.plus.Goals as goal

pub overflow_add-component : goal.overflow_add-component
overflow_add-component g c =
    let below = sum_below (2 ^ 64) c.args.self.now.0 c.args.w.now c.loop-i.i (omega arith) c.requires.no_wrap (omega arith) in
    rw (c.loop-i.invariant.others c.loop-i.i (omega arith), c.from.ensures, c.component.ensures) (Fits-of_lt below)

pub returns : goal.returns
returns g c =
    let as_long : length c.args.self.now.0 ≡ length c.args.w.now = omega arith in
    same_number_lists _ _ (omega (arith, length-plus c.args.self.now.0 c.args.w.now as_long))
    (λ k within. omega (arith, c.loop-i.invariant.added k (omega arith), get_or-plus c.args.self.now.0 c.args.w.now k as_long))
