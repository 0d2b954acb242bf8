use Rattle.std.proofs.Common.{◌≡◌, ◌≤◌, length, arith}
use Rattle.std.proofs.lemmas.List.Elements.{AllZip-get_or}
use Rattle.cost_vector.proofs.Components.{AtMost_from_places}
use Rattle.cost_vector.proofs.compact_cost.CompactCost.at_most.Goals as goal

pub returns : goal.returns
returns g c =
    let a = c.args.self.now.0 in
    let b = c.args.other.now.0 in
    let as_long : length a ≡ length b = omega arith in (
      λ all. AtMost_from_places a b as_long (λ k within. c.loop-i.invariant.0 all k (omega arith)),
      λ below. c.loop-i.invariant.1 (λ k within. AllZip-get_or ◌≤◌ a b k 0 0 below (omega arith)),
    )
