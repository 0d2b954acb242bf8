use Rattle.std.proofs.Common.{◌≡◌, ◌+◌, ◌-◌, ◌*◌, ◌++◌, map, take, drop, vec_len, ap, subst, ◌∙◌, arith}
use Rattle.settled_front.specs.Corners.{in_blocks}
use Rattle.settled_front.proofs.Cornering.{costs_more}
use Rattle.settled_front.proofs.cornered.add_blocks.Goals as goal

pub loop-i-preserved : goal.loop-i-preserved
loop-i-preserved g c =
    let costs = g.B.CostBlock.costs in
    let f = g.B.Cost.StoredCost.components in
    let xs = c.args.costs.now in
    let first = in_blocks (map costs c.args.blocks.now.items) in
    let n = c.loop-i.i * 16 in
    let m = n + 16 - n in
    record {
      cornered = c.add_block.ensures.after;
      counted = omega (arith, c.add_block.ensures.more, c.loop-i.invariant.counted);
      room = c.add_block.ensures.room (vec_len c.args.blocks.now + 8) c.loop-i.invariant.room;
      added = subst (λ k. in_blocks (map costs c.add_block.new.blocks.items) ≡ first ++ map f (take k xs)) (omega arith)
          (c.add_block.ensures.added ∙ ap (λ l. l ++ map f (take m (drop n xs))) c.loop-i.invariant.added ∙ costs_more f xs n m first);
    }
