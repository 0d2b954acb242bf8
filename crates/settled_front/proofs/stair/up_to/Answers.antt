use Rattle.std.proofs.Common.{rules}
use Rattle.settled_front.specs.Staircase.{first}
use Rattle.settled_front.proofs.Stairs.{all_up_to}
use Rattle.settled_front.proofs.stair.up_to.Goals as goal

pub returns-then-to_number-first-clause-cut : goal.returns-then-to_number-first-clause-cut
returns-then-to_number-first-clause-cut g c =
    let t = first (g.C.StoredCost.components c.args.cost.now) in
    all_up_to g.C.StoredCost.components c.args.costs.now c.requires c.in-Some-Some.greatest.now t c.in-Some-Some.ensures'.value (search rules)
