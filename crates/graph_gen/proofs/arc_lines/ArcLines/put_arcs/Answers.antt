use Rattle.std.proofs.Common.{◌≡◌, ℕ, List, Option, ap}
use Rattle.std.proofs.lemmas.Result.{on_ok_weaker}
use Rattle.graph_gen.specs.declared.grid.GridCell.{GridCell}
use Rattle.graph_gen.specs.Grids.{arc_to}
use Rattle.graph_gen.specs.Writing.{ArcLines}
use Rattle.graph_gen.proofs.WritingLemmas.{puts_then}
use Rattle.graph_gen.proofs.arc_lines.ArcLines.put_arcs.Goals as goal

-- the arc from a place to another, in grids of different sides
abbrev to : GridCell → Option GridCell → ℕ → List (ℕ × ℕ)
to place head side = arc_to side place head

pub returns : goal.returns
returns c =
    let side : c.self.inside.side ≡ c.args.self.now.side = ap (λ (l : ArcLines). l.side) c.self.view_is in
    let right = rw (c.right.ensures.place, side) at (c.in_ok-put_arc.ensures) in
    let below = rw (c.below.ensures.place, side) at (c.in_ok-put_arc-2.ensures) in
    let left = rw c.left.ensures at (c.in_ok-put_arc-3.ensures) in
    let above = rw c.above.ensures at c.put_arc-4.ensures in
    on_ok_weaker c.put_arc-4.result (λ last. puts_then _ _ _ _ (to c.args.place _)
    (puts_then _ _ _ _ (to c.args.place _) (puts_then _ _ _ _ (to c.args.place _) right below) left) last) above
