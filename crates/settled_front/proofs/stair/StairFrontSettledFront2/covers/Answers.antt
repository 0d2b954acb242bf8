use Rattle.std.proofs.Common.{sym, ◌∙◌, arith}
use Rattle.std.proofs.lemmas.Bool.{iff_false}
use Rattle.settled_front.specs.Staircase.{first}
use Rattle.settled_front.proofs.Stairs.{last_decides, none_up_to}
use Rattle.settled_front.proofs.stair.StairFrontSettledFront2.covers.Goals as goal

pub returns-else-is_up_to : goal.returns-else-is_up_to
returns-else-is_up_to g c =
    let f = g.C.StoredCost.components in
    let cost = f c.args.cost.now in
    let stairs = c.self.invariant.0 in
    let none = none_up_to f c.self.inside.costs.items stairs c.in-Some.first (first cost) (sym c.in-Some.is ∙ c.self.invariant.1.0)
    (omega (arith, iff_false c.is_up_to.ensures.test c.if-is_up_to.false)) in
    let decides = last_decides stairs cost c.is_up_to.ensures.long 0 none in
    rw (← c.self.view_is) (grind arith)
