use Rattle.std.proofs.Common.{arith}
use Rattle.std.proofs.lemmas.List.{take_rest}
use Rattle.waiting_queue.proofs.ShadowLemmas.{dominated_behind}
use Rattle.waiting_queue.proofs.shadow.search_shadowing.Goals as goal

pub returns-clause-none : goal.returns-clause-none
returns-clause-none g c =
    let none = rw take_rest at c.find_dominating.ensures.none in
    let behind = dominated_behind g.C.StoredCost.components c.args.shadow.now (g.C.StoredCost.components c.args.cost.now)
    c.count_above-start.result c.count_above-start.ensures in grind (arith, behind)
