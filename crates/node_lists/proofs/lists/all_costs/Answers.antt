use Rattle.std.proofs.Common.{rules, sym, ap, ◌∙◌, map, map-id}
use Rattle.std.proofs.lemmas.Iterator.Adapters.{YieldsList-from_vec}
use Rattle.std.proofs.lemmas.Iterator.Consumers.{YieldsList-end}
use Rattle.node_lists.proofs.lists.all_costs.Goals as goal

pub returns : goal.returns
returns g c =
    let loop = c.loop-list in
    let road = YieldsList-from_vec {s = c.into_iter-list-iterator.result} c.args.lists.items (search rules) (search rules) in
    let end = YieldsList-end road loop.yielded loop.list-iterator loop.yielded_by c.next.result c.next.new.self c.in-None.is c.next.ensures.steps in
    loop.invariant ∙ ap (map g.L.SettledList.costs) (sym (map-id loop.yielded) ∙ end.0)
