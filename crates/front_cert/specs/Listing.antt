-- A certificate in memory.
use Rattle.std.specs.Prelude.{◌≡◌, ◌+◌, ◌*◌, ◌<◌, ◌≤◌, ℕ, List, [], Some, length, slice_get, slice_index_or, All, AllPairs}
use Rattle.cost_vector.specs.Costs.{AtMost, min_criteria, max_criteria}
use Rattle.cost_vector.specs.declared.label.Label.{Label as StoredLabel}
use Rattle.road_network.specs.Labels.{Label}
use Rattle.road_network.specs.Limits.{max_nodes}
use Rattle.road_network.specs.Network.{Network, IsNode}
use Rattle.cert_rules.specs.Certificates.{Certificate, IsBefore}
use Rattle.front_cert.specs.Offsets.{AreOffsets}

-- a label as it is kept
abbrev pub line_of : StoredLabel → Label
line_of l = record { node = l.node.0; cost = l.cost; arc = l.arc.0 }

-- a certificate, and the size of the network that it is of
pub record Listing : Type 0 where
  pub nodes : ℕ
  pub criteria : ℕ
  pub cert : Certificate

-- the size is that of the network
pub record IsListingOf (net : Network) (l : Listing) : Type 0 where
  pub nodes : l.nodes ≡ net.nodes
  pub criteria : l.criteria ≡ net.criteria

-- what every listing keeps
pub record IsKept (l : Listing) : Type 0 where
  pub two : min_criteria ≤ l.criteria
  pub four : l.criteria ≤ max_criteria
  pub few : l.nodes ≤ max_nodes
  pub start : IsNode l.nodes l.cert.start
  pub target : IsNode l.nodes l.cert.target

-- the labels ascend, and each has a cost in so many criteria
pub record AreKept (criteria : ℕ) (labels : List StoredLabel) : Type 0 where
  pub whole : All (λ l. length l.cost ≡ criteria) labels
  pub ascending : AllPairs (λ x y. IsBefore (line_of x) (line_of y)) labels

-- how many labels stand in a block
abbrev pub block_size : ℕ
block_size = 32

-- Each of the first blocks of labels has a corner, which is at most each cost of the block.
pub record AreCorners (criteria : ℕ) (labels : List StoredLabel) (corners : List (List ℕ)) : Type 0 where
  pub whole : All (λ c. length c ≡ criteria) corners
  pub within : length corners * block_size ≤ length labels
  pub at_most : (k j : ℕ) (l : StoredLabel) → k < length corners → slice_get labels j ≡ Some l → k * block_size ≤ j
      → j < k * block_size + block_size → AtMost (slice_index_or corners k []) l.cost

-- the same of labels with their corners and the ends of each node's
pub record AreKeptWith (criteria : ℕ) (labels : List StoredLabel) (corners : List (List ℕ)) (offsets : List ℕ) : Type 0 where
  pub whole : All (λ l. length l.cost ≡ criteria) labels
  pub ascending : AllPairs (λ x y. IsBefore (line_of x) (line_of y)) labels
  pub cornered : AreCorners criteria labels corners
  pub ends : AreOffsets labels offsets
