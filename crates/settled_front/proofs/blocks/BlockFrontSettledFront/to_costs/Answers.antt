use Rattle.std.proofs.Common.{◌++◌, map, ap, ◌∙◌}
use Rattle.cost_vector.specs.declared.compact_cost.CompactCost.{CompactCost}
use Rattle.settled_front.proofs.Listing.{lists_sorted}
use Rattle.settled_front.proofs.blocks.BlockFrontSettledFront.to_costs.Goals as goal

pub returns : goal.returns
returns g c =
    let blocks = c.self.inside.blocks in
    let latest = c.self.inside.latest in
    let first = c.in_ok-list.ensures ∙ ap (λ l. map (λ (k : CompactCost g.row.D). k.0) l ++ blocks) c.new-list.ensures.items in
    let all = c.in_ok-list-2.ensures ∙ ap (λ l. l ++ latest) first in
    rw (← c.self.view_is) (lists_sorted (blocks ++ latest) c.list-2.new.list.items c.sort_unstable.new.self.items c.self.invariant.once all
    c.sort_unstable.ensures.permutation c.sort_unstable.ensures.sorted)
