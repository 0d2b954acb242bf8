use Rattle.std.specs.List.{flat_map, range_with_len}
use Rattle.graph_gen.specs.Grids.{row_arcs}
use Rattle.graph_gen.specs.Writing.{PutsArcs}
use Rattle.graph_gen.proofs.arc_lines.weight_file.Given as goal

-- the arcs from the rows so far were put
abbrev pub invariant-loop-row : goal.invariant-loop-row
invariant-loop-row l = PutsArcs l.initial.lines l.lines (flat_map (row_arcs l.initial.lines.side) (range_with_len 0 l.row))
