use Rattle.std.proofs.Common.{◌≡◌, map}
use Rattle.node_lists.proofs.lists.all_costs.Given as goal

abbrev pub invariant-loop-list : goal.invariant-loop-list
invariant-loop-list g l = map (λ costs. map g.L.Cost.StoredCost.components costs.items) l.all.items ≡ map g.L.SettledList.costs l.yielded
