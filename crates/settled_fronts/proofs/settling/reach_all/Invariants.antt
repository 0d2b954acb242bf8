use Rattle.std.proofs.Common.{◌≡◌, ◌≢◌, get_or, length, map, take}
use Rattle.std.specs.Prelude.{All}
use Rattle.settled_fronts.specs.NodeFronts.{IsKept, kept_fronts}
use Rattle.settled_fronts.proofs.settling.reach_all.Given as goal

abbrev pub invariant-loop-item : goal.invariant-loop-item
invariant-loop-item g l = record {
  kept : IsKept g.row.D g.F.Cost.Part.Part.bound l.places.items (map g.F.SettledFront.costs l.fronts.items);
  same : kept_fronts l.places.items (map g.F.SettledFront.costs l.fronts.items)
      ≡ kept_fronts l.fn.places.items (map g.F.SettledFront.costs l.fn.fronts.items);
  long : length l.places.items ≡ length l.fn.places.items;
  reached : All (λ i. get_or l.places.items i.node.0 0 ≢ 0) (take l.item-index l.items);
}
