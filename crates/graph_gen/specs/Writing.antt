-- How the lines of a weight file are written.
use Rattle.std.specs.Prelude.{◌≡◌, ℕ, List, ◌++◌, length}
use Rattle.graph_gen.specs.Sequence.{nth_behind}
use Rattle.graph_gen.specs.Texts.{arc_lines}

-- the grid's side, the text so far, and the number that the last weight was drawn by
pub record ArcLines : Type 0 where
  pub side : ℕ
  pub text : List ℕ
  pub last : ℕ

-- Lines of these arcs were put behind the others, and their weights were drawn by the numbers that come next.
pub record PutsArcs (old new : ArcLines) (arcs : List (ℕ × ℕ)) : Type 0 where
  pub side : new.side ≡ old.side
  pub text : new.text ≡ old.text ++ arc_lines old.last arcs
  pub last : new.last ≡ nth_behind old.last (length arcs)
