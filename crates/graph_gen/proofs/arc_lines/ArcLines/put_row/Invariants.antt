use Rattle.std.specs.List.{flat_map, range_with_len}
use Rattle.graph_gen.specs.Grids.{arcs_from, place_at}
use Rattle.graph_gen.specs.Writing.{PutsArcs}
use Rattle.graph_gen.proofs.arc_lines.ArcLines.put_row.Given as goal

-- the arcs from the places so far were put
abbrev pub invariant-loop-column : goal.invariant-loop-column
invariant-loop-column l =
    PutsArcs l.fn.self l.self (flat_map (λ column. arcs_from l.fn.self.side (place_at l.row column)) (range_with_len 0 l.column))
