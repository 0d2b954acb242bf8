use Rattle.std.proofs.Common.{◌≡◌, ◌++◌, drop}
use Rattle.std.specs.List.{filter_map}
use Rattle.arc_graph.specs.Graph.{label_by}
use Rattle.arc_graph.proofs.relaxing.relax.Given as goal

-- the labels so far and those of the arcs that are left are those of all arcs
abbrev pub invariant-loop-arc : goal.invariant-loop-arc
invariant-loop-arc l = l.labels.items ++ filter_map (label_by l.network l.spot.cost) (drop l.arc-index l.arcs)
    ≡ filter_map (label_by l.network l.spot.cost) l.arcs
