use Rattle.std.proofs.Common.{◌-◌, length, sym, ◌∙◌, arith}
use Rattle.std.proofs.lemmas.Option.{slice_get_within}
use Rattle.settled_front.specs.Staircase.{first}
use Rattle.settled_front.proofs.Stairs.{all_up_to, last_decides}
use Rattle.settled_front.proofs.Views.{got_at}
use Rattle.settled_front.proofs.stair.stairs_cover.Goals as goal

pub returns-then-is_up_to : goal.returns-then-is_up_to
returns-then-is_up_to g c =
    let f = g.C.StoredCost.components in
    let list = c.args.costs.now in
    let cost = f c.args.cost.now in
    let x = c.in-Some.last in
    let stands = sym c.requires.last ∙ c.in-Some.is in
    let cut = all_up_to f list c.requires.stairs x (first cost) (sym stands) (c.is_up_to.ensures.test.0 c.if-is_up_to.true) in
    let decides = rw (got_at f list (length list - 1) x stands) at (last_decides c.requires.stairs cost c.is_up_to.ensures.long (length list) cut) in
    let some = slice_get_within list (length list - 1) x stands in
    grind arith
