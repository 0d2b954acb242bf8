-- Blocks of costs with their corners, of which the front of a node under 3 or 4 criteria is made.
use Rattle.std.specs.Prelude.{◌≡◌, ◌≢◌, ℕ, ◌+◌, ◌-◌, ◌*◌, ◌/◌, ◌%◌, ◌^◌, ◌<◌, ◌≤◌, ◌++◌, List, [], length, min, slice_index_or, All, AllPairs}
use Rattle.std.specs.List.{flat_map}
use Rattle.cost_vector.specs.Costs.{AtMost, min_criteria}
use Rattle.settled_front.specs.Blocks.{HasLane, block_size}
use Rattle.settled_front.specs.Fronts.{IsCovered}

-- how many blocks are laid anew at once
abbrev pub laid_at_once : ℕ
laid_at_once = 8

-- all costs of the blocks
abbrev pub in_blocks : List (List (List ℕ)) → List (List ℕ)
in_blocks = flat_map (λ block. block)

-- the corner of a block, where the corners of each sixteen blocks are one group
abbrev pub corner_at : List (List (List ℕ)) → ℕ → List ℕ
corner_at groups k = slice_index_or (slice_index_or groups (k / block_size) []) (k % block_size) []

-- each block has its corner in one of the groups, which is at most each of the block's costs
pub record HaveCorners (blocks groups : List (List (List ℕ))) : Type 0 where
  pub enough : length blocks ≤ length groups * block_size
  pub few : length groups * block_size ≤ length blocks + block_size
  pub full : All (λ group. length group ≡ block_size) groups
  pub at_most : (k : ℕ) → k < length blocks → All (AtMost (corner_at groups k)) (slice_index_or blocks k [])

-- full blocks of costs of at least two components, with their corners
pub record AreCornered (d : ℕ) (blocks groups : List (List (List ℕ))) : Type 0 where
  pub two : min_criteria ≤ d
  pub full : All (λ block. length block ≡ block_size) blocks
  pub cornered : HaveCorners blocks groups

-- there is room for so many blocks, by the capacities for them and for the groups of their corners
pub record HasRoom (total blocks groups : ℕ) : Type 0 where
  pub for_blocks : total ≤ blocks
  pub for_corners : (total + 15) / block_size ≤ groups

-- some cost of the blocks that stand in these lanes is at most c
pub record CoversAmong (blocks : List (List (List ℕ))) (lanes : ℕ) (c : List ℕ) : Type 0 where
  pub lane : ℕ
  pub within : lane < block_size
  pub has : HasLane lanes lane
  pub covered : IsCovered (slice_index_or blocks lane []) c

-- so many costs, as far as a number of 64 bits can tell, in blocks and at most as many latest ones as a block has, and no cost twice
pub record IsBlockFront (in_blocks latest : List (List ℕ)) (len : ℕ) : Type 0 where
  pub few : length latest ≤ block_size
  pub counted : len ≡ min (length (in_blocks ++ latest)) (2 ^ 64 - 1)
  pub once : AllPairs ◌≢◌ (in_blocks ++ latest)
