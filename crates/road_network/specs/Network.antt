-- Road networks whose arcs have several weights each: the problem of Martins, "On a multicriteria shortest path
-- problem", European Journal of Operational Research 16, 1984.
use Rattle.std.specs.Prelude.{◌≡◌, ℕ, ◌-◌, ◌^◌, ◌<◌, ◌≤◌, List, Option, Some, IfSome, length, sum, slice_get, All}
use Rattle.cost_vector.specs.Costs.{max_criteria, min_criteria}

-- A network: the nodes are numbered from 1 to `nodes`, the arcs from 1 in the order of `ends`, which has the tail and
-- the head of each. `states` has for each arc its vector, which lists its weights, or None where the arc is shut.
-- `criteria` is how many weights a vector has, also where no arc is passable.
pub record Network : Type 0 where
  pub nodes : ℕ
  pub ends : List (ℕ × ℕ)
  pub criteria : ℕ
  pub states : List (Option (List ℕ))

-- v is a node
abbrev pub IsNode : ℕ → ℕ → Type 0
IsNode nodes v = (1 ≤ v) × (v ≤ nodes)

-- a vector of so many weights, not all of them 0
pub record IsVector (criteria : ℕ) (w : List ℕ) : Type 0 where
  pub whole : length w ≡ criteria
  pub nonzero : 0 < sum w

-- each weight has 32 bits at most
abbrev pub AreSmall : List (Option (List ℕ)) → Type 0
AreSmall states = All (λ s. IfSome s (All (λ x. x < 2 ^ 32))) states

-- the network is one: two to four criteria, ends that are nodes, and a state for each arc
pub record IsNetwork (net : Network) : Type 0 where
  pub two : min_criteria ≤ net.criteria
  pub four : net.criteria ≤ max_criteria
  pub tails : All (λ e. IsNode net.nodes e.0) net.ends
  pub heads : All (λ e. IsNode net.nodes e.1) net.ends
  pub matched : length net.states ≡ length net.ends
  pub vectors : All (λ s. IfSome s (IsVector net.criteria)) net.states

-- Arc k leads from u to v, and is passable with the vector w. No shut arc leads anywhere.
pub record Leads (net : Network) (k u : ℕ) (w : List ℕ) (v : ℕ) : Type 0 where
  pub counted : 1 ≤ k
  pub ends : slice_get net.ends (k - 1) ≡ Some (u, v)
  pub passable : slice_get net.states (k - 1) ≡ Some (Some w)
