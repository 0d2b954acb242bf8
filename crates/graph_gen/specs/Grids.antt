-- Square grids, whose nodes are numbered row by row, and whose arcs lead from each node to its neighbours.
use Rattle.std.specs.Prelude.{ℕ, ◌+◌, ◌-◌, ◌*◌, ◌<◌, nat_lt, if◌then◌else◌, List, ◌++◌, map, Option, Some, None}
use Rattle.std.specs.Prelude.{option_to_list}
use Rattle.std.specs.List.{flat_map, range_with_len}
use Rattle.graph_gen.specs.declared.grid.GridCell.{GridCell}

-- the place in this row and column, both from 0
abbrev pub place_at : ℕ → ℕ → GridCell
place_at row column = record { row = row; column = column }

-- the place is one of the grid's
pub record IsOnGrid (side : ℕ) (place : GridCell) : Type 0 where
  pub row : place.row < side
  pub column : place.column < side

-- the number of the node at a place
abbrev pub node_at : ℕ → GridCell → ℕ
node_at side place = place.row * side + place.column + 1

-- the place to the right, where the grid has it
abbrev pub right_of : ℕ → GridCell → Option GridCell
right_of side place =
    if nat_lt (place.column + 1) side then Some (place_at place.row (place.column + 1)) else None

-- the place below, where the grid has it
abbrev pub below : ℕ → GridCell → Option GridCell
below side place = if nat_lt (place.row + 1) side then Some (place_at (place.row + 1) place.column) else None

-- the place to the left, where the grid has it
abbrev pub left_of : GridCell → Option GridCell
left_of place = if nat_lt 0 place.column then Some (place_at place.row (place.column - 1)) else None

-- the place above, where the grid has it
abbrev pub above : GridCell → Option GridCell
above place = if nat_lt 0 place.row then Some (place_at (place.row - 1) place.column) else None

-- the tail and the head of the arc between two places
abbrev pub arc_between : ℕ → GridCell → GridCell → ℕ × ℕ
arc_between side tail head = (node_at side tail, node_at side head)

-- the arc from a place to another, where that is there
abbrev pub arc_to : ℕ → GridCell → Option GridCell → List (ℕ × ℕ)
arc_to side tail head = map (arc_between side tail) (option_to_list head)

-- the arcs from a place: to the right, down, to the left, up
abbrev pub arcs_from : ℕ → GridCell → List (ℕ × ℕ)
arcs_from side place =
    arc_to side place (right_of side place) ++ arc_to side place (below side place)
    ++ arc_to side place (left_of place) ++ arc_to side place (above place)

-- the arcs from the places of a row
abbrev pub row_arcs : ℕ → ℕ → List (ℕ × ℕ)
row_arcs side row = flat_map (λ column. arcs_from side (place_at row column)) (range_with_len 0 side)

-- all arcs of the grid, by ascending tail
abbrev pub grid_arcs : ℕ → List (ℕ × ℕ)
grid_arcs side = flat_map (row_arcs side) (range_with_len 0 side)

-- how many nodes a grid has
abbrev pub node_count : ℕ → ℕ
node_count side = side * side

-- how many arcs a grid has
abbrev pub arc_count : ℕ → ℕ
arc_count side = 4 * side * (side - 1)
