-- The nodes and the number of a grid's arcs.
use Rattle.std.proofs.Common.{◌≡◌, ℕ, zero, suc, ◌+◌, ◌-◌, ◌*◌, ◌<◌, ◌≤◌, min, Bool, true, false, List, [], ◌∷◌, ◌++◌, Option, Some, None, IfSome, length, refl, ap, ◌∙◌, arith, length-append, nat_lt, subst, add-one}
use Rattle.std.specs.Prelude.{if◌then◌else◌}
use Rattle.std.specs.List.{All, flat_map, range_with_len}
use Rattle.std.proofs.Math.Nat.{mul-le-mul_left}
use Rattle.std.proofs.lemmas.Bool.{ltb-true}
use Rattle.std.proofs.lemmas.Bool.Decides.{nat_tests}
use Rattle.std.proofs.lemmas.List.Elements.{All-append, All-cons, All-head, All-nil, All-tail}
use Rattle.road_network.specs.Network.{IsNode}
use Rattle.graph_gen.specs.declared.grid.GridCell.{GridCell}
use Rattle.graph_gen.specs.Grids.{IsOnGrid, above, arc_between, arc_count, arc_to, arcs_from, below, grid_arcs, left_of, node_at, node_count, place_at, right_of, row_arcs}
use Rattle.graph_gen.proofs.RangeLemmas.{flat_map-range_more}

-- ---- lists over ranges

pub all_range : (P : ℕ → Type 0) (a n : ℕ) → ((k : ℕ) → a ≤ k → k < a + n → P k) → All P (range_with_len a n)
all_range P a zero holds = All-nil P
all_range P a (suc n) holds =
    All-cons P a (range_with_len (a + 1) n) (holds a (omega arith) (omega arith))
    (all_range P (a + 1) n (λ k low high. holds k (omega arith) (omega arith)))

all_joined : {X Y : Type 0} (P : Y → Type 0) (f : X → List Y) (xs : List X) → All (λ x. All P (f x)) xs → All P (flat_map f xs)
all_joined P f [] all = All-nil P
all_joined P f (x ∷ xs) all =
    All-append P (f x) (flat_map f xs) (All-head (λ y. All P (f y)) x xs all) (all_joined P f xs (All-tail (λ y. All P (f y)) x xs all))

-- ---- ends

-- Both ends of an arc are nodes.
pub record AreNodes (side : ℕ) (ends : ℕ × ℕ) : Type 0 where
  pub tail : IsNode (node_count side) ends.0
  pub head : IsNode (node_count side) ends.1

pub node_is : (side : ℕ) (place : GridCell) → IsOnGrid side place → IsNode (node_count side) (node_at side place)
node_is side place on =
    let row : place.row + 1 ≤ side = omega (arith, on.row) in
    (omega arith, omega (arith, on.column, mul-le-mul_left side row))

on_grid_if : (side : ℕ) (test : Bool) (place : GridCell) → (test ≡ true → IsOnGrid side place) → IfSome (if test then Some place else None) (IsOnGrid side)
on_grid_if side true place on = on refl
on_grid_if side false place on = tt

arc_has_nodes : (side : ℕ) (tail : GridCell) (head : Option GridCell) → IsOnGrid side tail → IfSome head (IsOnGrid side) → All (AreNodes side) (arc_to side tail head)
arc_has_nodes side tail None on head_on = All-nil (AreNodes side)
arc_has_nodes side tail (Some head) on head_on =
    All-cons (AreNodes side) (arc_between side tail head) [] (record { tail = node_is side tail on; head = node_is side head head_on })
    (All-nil (AreNodes side))

module _ (side : ℕ) (place : GridCell) (on : IsOnGrid side place) where
  to_right : All (AreNodes side) (arc_to side place (right_of side place))
  to_right =
      arc_has_nodes side place (right_of side place) on (on_grid_if side (nat_lt (place.column + 1) side) (place_at place.row (place.column + 1))
      (λ e. record { row = on.row; column = ltb-true _ _ e }))

  to_below : All (AreNodes side) (arc_to side place (below side place))
  to_below =
      arc_has_nodes side place (below side place) on (on_grid_if side (nat_lt (place.row + 1) side) (place_at (place.row + 1) place.column)
      (λ e. record { row = ltb-true _ _ e; column = on.column }))

  to_left : All (AreNodes side) (arc_to side place (left_of place))
  to_left =
      arc_has_nodes side place (left_of place) on (on_grid_if side (nat_lt 0 place.column) (place_at place.row (place.column - 1))
      (λ e. record { row = on.row; column = omega (arith, on.column) }))

  to_above : All (AreNodes side) (arc_to side place (above place))
  to_above =
      arc_has_nodes side place (above place) on (on_grid_if side (nat_lt 0 place.row) (place_at (place.row - 1) place.column)
      (λ e. record { row = omega (arith, on.row); column = on.column }))

  from_place : All (AreNodes side) (arcs_from side place)
  from_place =
      let P = AreNodes side in
      All-append P _ _ (All-append P _ _ (All-append P _ _ to_right to_below) to_left) to_above

-- all ends are nodes
pub ends_are_nodes : (side : ℕ) → All (AreNodes side) (grid_arcs side)
ends_are_nodes side =
    all_joined (AreNodes side) (row_arcs side) (range_with_len 0 side) (all_range _ 0 side (λ row low high.
    all_joined (AreNodes side) (λ column. arcs_from side (place_at row column)) (range_with_len 0 side) (all_range _ 0 side (λ column start end.
    from_place side (place_at row column) (record { row = omega arith; column = omega arith })))))

-- ---- the number of arcs

-- one, where the test holds
abbrev bit : Bool → ℕ
bit test = if test then 1 else 0

length_if : (side : ℕ) (tail head : GridCell) (test : Bool) → length (arc_to side tail (if test then Some head else None)) ≡ bit test
length_if side tail head true = refl
length_if side tail head false = refl

length-place : (side row column : ℕ)
    → length (arcs_from side (place_at row column)) ≡ bit (nat_lt (column + 1) side) + bit (nat_lt (row + 1) side) + bit (nat_lt 0 column) + bit (nat_lt 0 row)
length-place side row column =
    let place = place_at row column in
    let a = arc_to side place (right_of side place) in
    let b = arc_to side place (below side place) in
    let c = arc_to side place (left_of place) in
    let d = arc_to side place (above place) in
    let to_right = length_if side place (place_at row (column + 1)) (nat_lt (column + 1) side) in
    let to_below = length_if side place (place_at (row + 1) column) (nat_lt (row + 1) side) in
    let to_left = length_if side place (place_at row (column - 1)) (nat_lt 0 column) in
    let to_above = length_if side place (place_at (row - 1) column) (nat_lt 0 row) in
    length-append ((a ++ b) ++ c) d ∙ ap (λ n. n + length d) (length-append (a ++ b) c ∙ ap (λ n. n + length c) (length-append a b))
    ∙ ap (λ n. n + length b + length c + length d) to_right ∙ ap (λ n. bit (nat_lt (column + 1) side) + n + length c + length d) to_below
    ∙ ap (λ n. bit (nat_lt (column + 1) side) + bit (nat_lt (row + 1) side) + n + length d) to_left
    ∙ ap (λ n. bit (nat_lt (column + 1) side) + bit (nat_lt (row + 1) side) + bit (nat_lt 0 column) + n) to_above

-- a place more has a neighbour behind it up to the last, and one before it from the second on
more_behind : (n side : ℕ) → n + 1 ≤ side → min (n + 1) (side - 1) ≡ min n (side - 1) + bit (nat_lt (n + 1) side)
more_behind n side within = grind (arith, nat_tests)

more_before : (n : ℕ) → n + 1 - 1 ≡ n - 1 + bit (nat_lt 0 n)
more_before n = grind (arith, nat_tests)

-- one row or column more
length-more : {A : Type 0} (f : ℕ → List A) (n : ℕ) → length (flat_map f (range_with_len 0 (n + 1))) ≡ length (flat_map f (range_with_len 0 n)) + length (f n)
length-more f n = ap length (flat_map-range_more f 0 n n (omega arith)) ∙ length-append (flat_map f (range_with_len 0 n)) (f n)

module _ (side row : ℕ) where
  -- the arcs from the first so many places of a row
  abbrev RowCounts : ℕ → Type 0
  RowCounts n =
      length (flat_map (λ column. arcs_from side (place_at row column)) (range_with_len 0 n))
      ≡ n * bit (nat_lt (row + 1) side) + n * bit (nat_lt 0 row) + min n (side - 1) + (n - 1)

  row_more : (n : ℕ) → n + 1 ≤ side → RowCounts n → RowCounts (n + 1)
  row_more n within front =
      let more = length-more (λ column. arcs_from side (place_at row column)) n in
      let here = length-place side row n in
      let behind = more_behind n side within in
      let before = more_before n in omega arith

  row_counts : (n : ℕ) → n ≤ side → RowCounts n
  row_counts zero within = omega arith
  row_counts (suc n) within = subst RowCounts (add-one n) (row_more n (omega arith) (row_counts n (omega arith)))

sums : (before row now s a b n p d u a1 b1 : ℕ) → now ≡ before + row → before ≡ s * a + s * b + n * (2 * p) → row ≡ s * d + s * u + p + p
    → s * a1 ≡ s * (a + d) → s * b1 ≡ s * (b + u) → now ≡ s * a1 + s * b1 + (n + 1) * (2 * p)
sums before row now s a b n p d u a1 b1 more front here behind above = omega arith

module _ (side : ℕ) where
  -- the arcs from the first so many rows
  abbrev GridCounts : ℕ → Type 0
  GridCounts n = length (flat_map (row_arcs side) (range_with_len 0 n)) ≡ side * min n (side - 1) + side * (n - 1) + n * (2 * (side - 1))

  grid_more : (n : ℕ) → n + 1 ≤ side → GridCounts n → GridCounts (n + 1)
  grid_more n within front =
      let more = length-more (row_arcs side) n in
      let row : length (row_arcs side n) ≡ side * bit (nat_lt (n + 1) side) + side * bit (nat_lt 0 n) + min side (side - 1) + (side - 1) =
      row_counts side n side (omega arith) in
      let last : min side (side - 1) ≡ side - 1 = omega arith in
      let behind = ap (λ k. side * k) (more_behind n side within) in
      let before = ap (λ k. side * k) (more_before n) in
      sums (length (flat_map (row_arcs side) (range_with_len 0 n))) (length (row_arcs side n)) _ side (min n (side - 1)) (n - 1) n (side - 1)
      (bit (nat_lt (n + 1) side)) (bit (nat_lt 0 n)) _ _ more front (row ∙ ap (λ k. side * bit (nat_lt (n + 1) side) + side * bit
      (nat_lt 0 n) + k + (side - 1)) last) behind before

  grid_counts : (n : ℕ) → n ≤ side → GridCounts n
  grid_counts zero within =
      let none : min 0 (side - 1) ≡ 0 = omega arith in
      let product = ap (λ k. side * k) none in omega arith
  grid_counts (suc n) within = subst GridCounts (add-one n) (grid_more n (omega arith) (grid_counts n (omega arith)))

four_times : (s p : ℕ) → s * p + s * p + s * (2 * p) ≡ 4 * s * p
four_times s p = omega arith

-- the arcs are as many as is said
pub arcs_are_counted : (side : ℕ) → length (grid_arcs side) ≡ arc_count side
arcs_are_counted side =
    let last : min side (side - 1) ≡ side - 1 = omega arith in
    grid_counts side side (omega arith) ∙ ap (λ k. side * k + side * (side - 1) + side * (2 * (side - 1))) last ∙ four_times side (side - 1)
