-- The files of a plan, as texts: lines of a word and of numbers in decimal, each with a space before it.
use Rattle.std.specs.Prelude.{ℕ, suc, zero, ◌+◌, ◌-◌, ◌*◌, ◌/◌, min, List, [], ◌∷◌, ◌++◌, length, codes, decimal}
use Rattle.std.specs.List.{flat_map, range_with_len, zip}
use Rattle.graph_gen.specs.declared.GenPlan.{GenPlan}
use Rattle.graph_gen.specs.Grids.{node_at, place_at, grid_arcs, node_count, arc_count}
use Rattle.graph_gen.specs.Sequence.{first_number, weights_behind}

-- a space, and then a number in decimal
abbrev pub and_number : ℕ → List ℕ
and_number n = codes " " ++ decimal n

-- a line of a word and of numbers, with LF at its end
abbrev pub line_of : List ℕ → List ℕ → List ℕ
line_of word numbers = word ++ flat_map and_number numbers ++ 10 ∷ []

-- ---- weight files

-- `p sp N M`: so many nodes, and so many arcs
abbrev pub sizes_line : ℕ → List ℕ
sizes_line side = line_of (codes "p sp") (node_count side ∷ arc_count side ∷ [])

-- `a U V W`: an arc and its weight
abbrev pub arc_line : (ℕ × ℕ) × ℕ → List ℕ
arc_line (ends, weight) = line_of (codes "a") (ends.0 ∷ ends.1 ∷ weight ∷ [])

-- the lines of arcs whose weights are drawn by the numbers behind this one
abbrev pub arc_lines : ℕ → List (ℕ × ℕ) → List ℕ
arc_lines x arcs = flat_map arc_line (zip arcs (weights_behind x (length arcs)))

-- the weight file of a criterion
abbrev pub weight_text : GenPlan → ℕ → List ℕ
weight_text plan criterion =
    sizes_line plan.side ++ arc_lines (first_number plan.start criterion) (grid_arcs plan.side)

-- ---- the file of pairs

-- how many rows, and how many columns, a pair leads on: 4, or as many as there are
abbrev pub reach : ℕ → ℕ
reach side = min 4 (side - 1)

-- the row, and the column, that pair number i starts in: the pairs stand evenly on the grid's diagonal
abbrev pub start_row : GenPlan → ℕ → ℕ
start_row plan i = ((i - 1) * (plan.side - 1 - reach plan.side)) / plan.pairs

-- the node on the diagonal, in this row and column
abbrev pub diagonal_node : ℕ → ℕ → ℕ
diagonal_node side row = node_at side (place_at row row)

-- `q S T`: pair number i, from 1
abbrev pub pair_line : GenPlan → ℕ → List ℕ
pair_line plan i =
    line_of (codes "q") (diagonal_node plan.side (start_row plan i)
    ∷ diagonal_node plan.side (start_row plan i + reach plan.side) ∷ [])

-- the file of pairs: `p aux sp p2p P`, and then a line for each pair
abbrev pub pairs_text : GenPlan → List ℕ
pairs_text plan =
    line_of (codes "p aux sp p2p") (plan.pairs ∷ []) ++ flat_map (pair_line plan) (range_with_len 1 plan.pairs)

-- ---- all files

-- file 0 is that of pairs, and each other one the weight file of the criterion of its number
abbrev pub file_text : GenPlan → ℕ → List ℕ
file_text plan zero = pairs_text plan
file_text plan (suc n) = weight_text plan (suc n)
