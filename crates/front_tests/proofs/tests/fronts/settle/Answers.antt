use Rattle.std.proofs.Common.{refl}
use Rattle.front_tests.proofs.SettleLemmas.{front_spared}
use Rattle.front_tests.proofs.tests.fronts.settle.Goals as goal

pub push-requires-clause-spares : goal.push-requires-clause-spares
push-requires-clause-spares g c =
    let listed = rw (c.deref.ensures.value, c.to_compact.ensures.same) at (c.if-not-spares_all.ensures refl) in
    front_spared (g.F.SettledFront.costs c.args.front.now) c.in_ok-settled.settled.items (g.F.Cost.StoredCost.components c.args.cost.now) c.in_ok-settled.ensures listed
