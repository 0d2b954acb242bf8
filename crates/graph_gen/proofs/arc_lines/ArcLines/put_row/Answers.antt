use Rattle.graph_gen.specs.Grids.{arcs_from, place_at}
use Rattle.graph_gen.proofs.WritingLemmas.{puts_more}
use Rattle.graph_gen.proofs.arc_lines.ArcLines.put_row.Goals as goal

pub loop-column-preserved : goal.loop-column-preserved
loop-column-preserved c =
    puts_more c.args.self.now c.loop-column.self _ c.loop-column.column (λ side column. arcs_from side (place_at c.args.row column))
    c.loop-column.invariant c.in_ok-put_arcs.ensures
