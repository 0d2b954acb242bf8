-- Walks and their costs (Martins 1984).
use Rattle.std.specs.Prelude.{◌≡◌, ℕ, ◌*◌, ◌-◌, ◌^◌, ◌≤◌, List, [], ◌∷◌, replicate, All}
use Rattle.cost_vector.specs.Costs.{plus}
use Rattle.road_network.specs.Network.{Network, IsNode, Leads}

-- Arc k leads from u by the vector `by` to the node `at`, from which there is a walk of cost `onward`. Both add up to c.
pub record StartsBy (net : Network) (k u : ℕ) (IsOnward : ℕ → List ℕ → Type 0) (c : List ℕ) : Type 0 where
  pub by : List ℕ
  pub at : ℕ
  pub onward : List ℕ
  pub leads : Leads net k u by at
  pub walk : IsOnward at onward
  pub cost : c ≡ plus by onward

-- A walk from s to t of cost c: the numbers of passable arcs joined end to end, and the sum of their vectors.
-- No arc is a walk from each node to itself, of cost zero.
abbrev pub IsWalk : Network → ℕ → List ℕ → ℕ → List ℕ → Type 0
IsWalk net s [] t c = IsNode net.nodes s × (s ≡ t) × (c ≡ replicate net.criteria 0)
IsWalk net s (k ∷ rest) t c = StartsBy net k s (λ v onward. IsWalk net v rest t onward) c

-- There is a walk of cost `before` to the node `at`, from which arc k leads by the vector `by` to v. Both add up to c.
pub record EndsBy (net : Network) (k v : ℕ) (IsBefore : ℕ → List ℕ → Type 0) (c : List ℕ) : Type 0 where
  pub at : ℕ
  pub by : List ℕ
  pub before : List ℕ
  pub walk : IsBefore at before
  pub leads : Leads net k at by v
  pub cost : c ≡ plus before by

-- The same read backwards: the arcs of a walk from s to v of cost c, from the last to the first.
abbrev pub Arrives : Network → ℕ → List ℕ → ℕ → List ℕ → Type 0
Arrives net s [] v c = IsNode net.nodes s × (s ≡ v) × (c ≡ replicate net.criteria 0)
Arrives net s (k ∷ before) v c = EndsBy net k v (λ u b. Arrives net s before u b) c

-- no component is greater than so many weights of 32 bits can make it
abbrev pub IsSumOf : ℕ → List ℕ → Type 0
IsSumOf count cost = All (λ x. x ≤ count * (2 ^ 32 - 1)) cost
