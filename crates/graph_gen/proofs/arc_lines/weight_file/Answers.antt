use Rattle.graph_gen.specs.Grids.{row_arcs}
use Rattle.graph_gen.proofs.WritingLemmas.{puts_more}
use Rattle.graph_gen.proofs.arc_lines.weight_file.Goals as goal

pub loop-row-preserved : goal.loop-row-preserved
loop-row-preserved c =
    puts_more c.in_ok-lines.lines c.loop-row.lines _ c.loop-row.row row_arcs c.loop-row.invariant c.in_ok-put_row.ensures
