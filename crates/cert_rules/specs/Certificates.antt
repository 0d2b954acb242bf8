-- Certificates: lists of labels that are to show the answer to a query.
use Rattle.std.specs.Prelude.{◌≡◌, ◌⊎◌, ℕ, ◌<◌, ◌≤◌, ◌^◌, List, length, replicate, All, AllPairs, Contains}
use Rattle.cost_vector.specs.Costs.{AtMost, Dominates, LexLess}
use Rattle.road_network.specs.Labels.{Label}
use Rattle.road_network.specs.Network.{Network, IsNode}

-- the most labels of a certificate
abbrev pub max_labels : ℕ
max_labels = 4000000

-- the greatest component of a listed cost
abbrev pub max_component : ℕ
max_component = 2 ^ 58

-- the node from which walks lead, that to which they lead, and labels of nodes in between
pub record Certificate : Type 0 where
  pub start : ℕ
  pub target : ℕ
  pub labels : List Label

-- The node of x is less, or both have one node and the cost of x is lexicographically less.
abbrev pub IsBefore : Label → Label → Type 0
IsBefore x y = (x.node < y.node) ⊎ ((x.node ≡ y.node) × LexLess x.cost y.cost)

-- A label that may be listed: of a node, with an arc or 0, and a cost in the network's criteria, within the greatest.
pub record IsLine (net : Network) (l : Label) : Type 0 where
  pub node : IsNode net.nodes l.node
  pub arc : l.arc ≤ length net.ends
  pub cost : length l.cost ≡ net.criteria
  pub small : All (λ x. x ≤ max_component) l.cost

-- Both ends are nodes, and the labels ascend strictly, by node and then by cost.
pub record IsCertificate (net : Network) (cert : Certificate) : Type 0 where
  pub start : IsNode net.nodes cert.start
  pub target : IsNode net.nodes cert.target
  pub lines : All (IsLine net) cert.labels
  pub ascending : AllPairs IsBefore cert.labels
  pub count : length cert.labels ≤ max_labels

-- a label with this node and this cost is listed
pub record IsListed (labels : List Label) (v : ℕ) (c : List ℕ) : Type 0 where
  pub arc : ℕ
  pub listed : Contains labels (record { node = v; cost = c; arc = arc })

-- a listed cost of v is at most c
pub record IsCovered (labels : List Label) (v : ℕ) (c : List ℕ) : Type 0 where
  pub cost : List ℕ
  pub listed : IsListed labels v cost
  pub at_most : AtMost cost c

-- a listed cost of v dominates c
pub record IsBeaten (labels : List Label) (v : ℕ) (c : List ℕ) : Type 0 where
  pub cost : List ℕ
  pub listed : IsListed labels v cost
  pub better : Dominates cost c

-- the label of the start at cost zero, which has no arc
abbrev pub start_label : Network → Certificate → Label
start_label net cert = record { node = cert.start; cost = replicate net.criteria 0; arc = 0 }
