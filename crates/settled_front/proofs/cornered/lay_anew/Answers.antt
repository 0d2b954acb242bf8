use Rattle.std.proofs.Common.{◌≡◌, length, map, drop, ap, length-drop, arith}
use Rattle.std.proofs.lemmas.List.{length-map, take-map}
use Rattle.std.proofs.lemmas.List.Elements.{All-drop}
use Rattle.settled_front.proofs.Cornering.{cornered_front, full_length, laid_anew}
use Rattle.settled_front.proofs.cornered.lay_anew.Goals as goal

pub add_blocks-requires-clause-full : goal.add_blocks-requires-clause-full
add_blocks-requires-clause-full g c =
    let costs = g.B.CostBlock.costs in
    let start = c.args.start in
    let blocks = c.args.blocks.now.items in
    omega (
      arith,
      c.order.auto.costs,
      ap length c.requires.costs,
      length-map c.args.costs.now g.B.Cost.StoredCost.components,
      full_length (drop start (map costs blocks)) (All-drop (λ block. length block ≡ 16) start (map costs blocks) c.requires.cornered.full),
      length-drop start (map costs blocks),
      length-map blocks costs,
      c.args.blocks.now.ok.0,
      c.requires.last,
    )

pub add_blocks-requires-clause-before : goal.add_blocks-requires-clause-before
add_blocks-requires-clause-before g c =
    let costs = g.B.CostBlock.costs in
    let start = c.args.start in
    let blocks = c.args.blocks.now.items in
    let groups = c.args.corners.now.items in
    let n = c.div_ceil.result in
    rw (c.truncate.ensures.items, c.truncate-2.ensures.items, ← take-map costs start blocks, ← take-map costs n groups)
    (cornered_front g.row.D start n c.requires.cornered (omega (arith, length-map blocks costs, c.args.blocks.now.ok.0, c.requires.last))
    (omega (arith, c.div_ceil.ensures)))

pub returns-clause-moved : goal.returns-clause-moved
returns-clause-moved g c =
    let costs = g.B.CostBlock.costs in
    let start = c.args.start in
    let blocks = c.args.blocks.now.items in
    rw (c.add_blocks.ensures.added, c.truncate.ensures.items, ← take-map costs start blocks)
    (laid_anew g.B.Cost.StoredCost.components (map costs blocks) start c.args.costs.now c.order.new.costs c.requires.costs c.order.ensures)
