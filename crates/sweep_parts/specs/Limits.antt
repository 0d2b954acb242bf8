-- A limit as the greatest cost within it.
use Rattle.std.specs.Prelude.{◌≡◌, ℕ, ◌^◌, ◌<◌, ◌≤◌, ◌↔◌, List, Option, None, length, slice_index, slice_index_or}
use Rattle.cost_vector.specs.Costs.{IsAllowed}

-- at each place just those numbers of 64 bits are allowed that are at most the one here
pub record IsGreatestWithin (limit : List (Option ℕ)) (most : List ℕ) : Type 0 where
  pub long : length most ≡ length limit
  pub allowed : (k x : ℕ) → k < length limit → x < 2 ^ 64 → IsAllowed (slice_index_or limit k None) x ↔ (x ≤ slice_index most k)
