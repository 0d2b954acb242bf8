-- What a joiner keeps of the files that came so far.
use Rattle.std.specs.Prelude.{◌≡◌, ℕ, ◌+◌, ◌≤◌, List, Option, length, All}
use Rattle.cost_vector.specs.Costs.{max_criteria}
use Rattle.arc_graph.specs.declared.join.OtherEnds.{OtherEnds}
use Rattle.road_network.specs.Network.{IsNode}
use Rattle.arc_graph.specs.Stored.{IsStoredState}
use Rattle.road_network.specs.Limits.{max_nodes, max_arcs}

-- the first file's nodes and ends, each arc's weights so far, how many files were begun, what the one begun last is to
-- have and how many of its arcs have come, and the faults that would be told
pub record Joiner : Type 0 where
  pub nodes : ℕ
  pub ends : List (ℕ × ℕ)
  pub vectors : List (List ℕ)
  pub begun : ℕ
  pub due_nodes : ℕ
  pub due_arcs : ℕ
  pub come : ℕ
  pub other_size : Option ℕ
  pub other_ends : Option OtherEnds

-- what every joiner keeps
pub record IsJoiner (j : Joiner) : Type 0 where
  pub files : j.begun ≤ max_criteria
  pub come : j.come ≤ j.due_arcs
  pub due : j.due_arcs ≤ max_arcs
  pub none_begun : j.begun ≡ 0 → length j.ends ≡ 0
  pub first_begun : j.begun ≡ 1 → (length j.ends ≡ j.come) × (j.due_nodes ≡ j.nodes)
  pub some_node : 1 ≤ j.begun → 1 ≤ j.nodes
  pub nodes : j.nodes ≤ max_nodes
  pub arcs : length j.ends ≤ max_arcs
  pub matched : length j.vectors ≡ length j.ends
  pub tails : All (λ e. IsNode j.nodes e.0) j.ends
  pub heads : All (λ e. IsNode j.nodes e.1) j.ends
  pub stored : All (IsStoredState j.begun) j.vectors

-- one file more was begun, this much of it is due, and nothing of it has come
pub record BeginsFile (old new : Joiner) (nodes arcs : ℕ) : Type 0 where
  pub begun : new.begun ≡ old.begun + 1
  pub due_nodes : new.due_nodes ≡ nodes
  pub due_arcs : new.due_arcs ≡ arcs
  pub none : new.come ≡ 0

-- the file begun last is the same one, and as much of it is due as before
pub record KeepsFile (old new : Joiner) : Type 0 where
  pub begun : new.begun ≡ old.begun
  pub due_nodes : new.due_nodes ≡ old.due_nodes
  pub due_arcs : new.due_arcs ≡ old.due_arcs
