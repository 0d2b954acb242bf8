use Rattle.std.proofs.Common.{◌≡◌, ◌+◌, map}
use Rattle.waiting_item.specs.Waiting.{spot_in}
use Rattle.bulk_core.specs.Settled.{SettlesFirst}
use Rattle.bulk_core.proofs.settled.settle_all.Given as goal

abbrev pub invariant-loop-item : goal.invariant-loop-item
invariant-loop-item g l = record {
  first : SettlesFirst l.fn.settled l.settled (map (spot_in g.F.Cost.StoredCost.components) l.items) l.item-index;
  counted : l.count ≡ l.fn.count + l.item-index;
}
