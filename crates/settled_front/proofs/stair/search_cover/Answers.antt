use Rattle.std.proofs.Common.{◌-◌, arith}
use Rattle.std.proofs.lemmas.List.{length-map}
use Rattle.settled_front.proofs.Stairs.{last_decides}
use Rattle.settled_front.proofs.Views.{read_at}
use Rattle.settled_front.proofs.stair.search_cover.Goals as goal

pub returns-then-place-gt0 : goal.returns-then-place-gt0
returns-then-place-gt0 g c =
    let f = g.C.StoredCost.components in
    let list = c.args.costs.now in
    let place = c.search_up_to-place.result in
    let up = c.search_up_to-place.ensures in
    let is = read_at f list (place - 1) c.index-costs-place.result (omega (arith, up.cut.within, length-map list f)) c.index-costs-place.is in
    let decides = rw is at (last_decides c.requires.stairs (f c.args.cost.now) up.long place up.cut) in
    grind arith
