-- How the states of the arcs lie in memory: four places each, all 0 for a shut arc.
use Rattle.std.specs.Prelude.{◌≡◌, ℕ, ◌^◌, ◌<◌, ◌≤◌, Bool, List, Option, Some, None, length, map, take, replicate, slice_index, All}
use Rattle.std.specs.Prelude.{nat_eq, if◌then◌else◌}
use Rattle.std.specs.Cmp.Lexicographic.{pointwise}
use Rattle.cost_vector.specs.Costs.{max_criteria, min_criteria}
use Rattle.road_network.specs.Limits.{max_arcs}

-- all four places are 0
abbrev pub is_zero : List ℕ → Bool
is_zero places = pointwise nat_eq places (replicate 4 0)

-- the state that four places say
abbrev pub state_in : ℕ → List ℕ → Option (List ℕ)
state_in criteria places = if is_zero places then None else Some (take criteria places)

-- the states of all arcs
abbrev pub states_of : ℕ → List (List ℕ) → List (Option (List ℕ))
states_of criteria vectors = map (state_in criteria) vectors

-- four places of 32 bits, of which those past the criteria are 0
pub record IsStoredState (criteria : ℕ) (places : List ℕ) : Type 0 where
  pub four : length places ≡ 4
  pub small : All (λ x. x < 2 ^ 32) places
  pub filler : (i : ℕ) → criteria ≤ i → slice_index places i ≡ 0

-- the places are those of the state
pub record IsStoredAs (criteria : ℕ) (state : Option (List ℕ)) (places : List ℕ) : Type 0 where
  pub stored : IsStoredState criteria places
  pub state_is : state_in criteria places ≡ state

-- the same for each arc
pub record AreStoredStates (criteria : ℕ) (vectors : List (List ℕ)) : Type 0 where
  pub two : min_criteria ≤ criteria
  pub four : criteria ≤ max_criteria
  pub count : length vectors ≤ max_arcs
  pub each : All (IsStoredState criteria) vectors
