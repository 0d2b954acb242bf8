use Rattle.std.proofs.Common.{◌/◌, ◌<◌, length, sym, arith}
use Rattle.std.proofs.lemmas.List.{length-map, map-set}
use Rattle.settled_front.proofs.Cornering.{corner_set}
use Rattle.settled_front.proofs.Views.{read_at}
use Rattle.settled_front.proofs.cornered.note_corner.Goals as goal

pub returns-clause-after : goal.returns-clause-after
returns-clause-after g c block below =
    let costs = g.B.CostBlock.costs in
    let groups = c.begin_group.new.corners.items in
    let n = length c.args.blocks.now in
    let within : n / 16 < length groups = omega (arith, c.begin_group.ensures.more) in
    rw (map-set costs groups (n / 16) c.set.new.self, c.set.ensures, ← read_at costs groups (n / 16) c.index_mut.result.now within c.index_mut.ensures.value)
    (corner_set c.begin_group.ensures.after block (g.B.Cost.StoredCost.components c.args.corner.now) below n (sym (length-map c.args.blocks.now costs))
    (omega (arith, within, length-map groups costs)))
