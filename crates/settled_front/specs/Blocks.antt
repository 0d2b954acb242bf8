-- How the front of a node under 3 or 4 criteria is laid out.
use Rattle.std.specs.Prelude.{◌≡◌, ◌≢◌, ℕ, ◌<◌, ◌≤◌, ◌↔◌, ◌⊎◌, List, [], length, map, slice_index_or, All}
use Rattle.std.specs.Int.{bit_at}
use Rattle.std.specs.List.{range_with_len}
use Rattle.cost_vector.specs.Costs.{AtMost}

-- how many costs a block has
abbrev pub block_size : ℕ
block_size = 16

-- a number of a row
abbrev pub in_row : List (List ℕ) → ℕ → ℕ → ℕ
in_row rows k lane = slice_index_or (slice_index_or rows k []) lane 0

-- the cost that has one component in each row
abbrev pub lane_cost : ℕ → List (List ℕ) → ℕ → List ℕ
lane_cost d rows lane = map (λ k. in_row rows k lane) (range_with_len 0 d)

-- the costs whose components stand in these rows
abbrev pub lane_costs : ℕ → List (List ℕ) → List (List ℕ)
lane_costs d rows = map (lane_cost d rows) (range_with_len 0 block_size)

-- d rows of a block, whose numbers are below the bound
pub record IsBlock (d bound : ℕ) (rows : List (List ℕ)) : Type 0 where
  pub long : length rows ≡ d
  pub full : All (λ row. length row ≡ block_size) rows
  pub fits : All (All (λ x. x < bound)) rows

-- the highest of the 32 bits of a number is set
abbrev pub IsMarked : ℕ → Type 0
IsMarked n = bit_at n 31 ≡ 1

-- marked is what was, and where the component is less than the row's
abbrev pub MarksRow : List ℕ → ℕ → List ℕ → List ℕ → Type 0
MarksRow before component row after = (lane : ℕ) → lane < block_size
    → IsMarked (slice_index_or after lane 0) ↔ (IsMarked (slice_index_or before lane 0) ⊎ (component < slice_index_or row lane 0))

-- of the first n rows one has a greater component in this place than the cost
pub record Exceeds (rows : List (List ℕ)) (cost : List ℕ) (n lane : ℕ) : Type 0 where
  pub row : ℕ
  pub before : row < n
  pub less : slice_index_or cost row 0 < in_row rows row lane

-- the lane is one of these: its bit is set
abbrev pub HasLane : ℕ → ℕ → Type 0
HasLane lanes lane = bit_at lanes lane ≡ 1

-- there is one of these lanes before the count
pub record HasOneBefore (lanes count : ℕ) : Type 0 where
  pub lane : ℕ
  pub before : lane < count
  pub has : HasLane lanes lane

-- so many costs of a block, the first ones, are in use
pub record AreFirst (count : ℕ) (block : List (List ℕ)) : Type 0 where
  pub few : count ≤ block_size
  pub full : length block ≡ block_size

-- these lanes are those without a mark, and no others
abbrev pub AreUnmarked : List ℕ → ℕ → Type 0
AreUnmarked marks lanes = (lane : ℕ) → lane < block_size → HasLane lanes lane ↔ (¬ IsMarked (slice_index_or marks lane 0))

-- these lanes are those whose cost is at most this one, and no others
abbrev pub AreAtMost : List (List ℕ) → List ℕ → ℕ → Type 0
AreAtMost block cost lanes = (lane : ℕ) → lane < block_size → HasLane lanes lane ↔ AtMost (slice_index_or block lane []) cost

-- one of the lanes is added, and the others stay
abbrev pub AddsLane : ℕ → ℕ → ℕ → Type 0
AddsLane before lane after = (other : ℕ) → other < block_size → HasLane after other ↔ (HasLane before other ⊎ (other ≡ lane))

-- one of the lanes is taken out, and the others stay
pub record TakesLane (before lane after : ℕ) : Type 0 where
  pub within : lane < block_size
  pub had : HasLane before lane
  pub fewer : after < before
  pub others : (other : ℕ) → other < block_size → HasLane after other ↔ (HasLane before other × (other ≢ lane))
