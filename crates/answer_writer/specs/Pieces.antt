-- The texts of the pieces of a line.
use Rattle.std.specs.Prelude.{ℕ, List, ◌++◌, length, codes}
use Rattle.std.specs.List.{flat_map}
use Rattle.cost_vector.specs.declared.label.ArcNo.{ArcNo}
use Rattle.answer_writer.specs.declared.piece.Piece.{Piece}
use Rattle.answer_writer.specs.declared.piece.Piece.TheVariants.{Text, Number, Cost, Arcs, Bounds}
use Rattle.answer_writer.specs.Replies.{and_arc, and_bound, and_number, end_line}

-- what a piece of a line says
abbrev pub text_of : Piece → List ℕ
text_of (Text text) = text.now
text_of (Number n) = and_number n
text_of (Cost cost) = flat_map and_number cost.now
text_of (Arcs arcs) = flat_map and_arc arcs.now
text_of (Bounds limit) = flat_map and_bound limit.now

-- what the pieces say, one after another
abbrev pub line_of : List Piece → List ℕ
line_of pieces = flat_map text_of pieces

-- the line of a cost with its walk
abbrev pub walk_text : List ℕ → List ArcNo → List ℕ
walk_text cost arcs = codes "p" ++ flat_map and_number cost ++ and_number (length arcs) ++ flat_map and_arc arcs ++ end_line
