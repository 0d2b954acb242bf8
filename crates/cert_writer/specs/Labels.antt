-- Lists of labels of what a search has found.
use Rattle.std.specs.Prelude.{◌≡◌, ℕ, ◌≤◌, ◌↔◌, List, Option, map, AllPairs, Contains}
use Rattle.cost_vector.specs.declared.label.Label.{Label as StoredLabel}
use Rattle.road_network.specs.Labels.{HasLeastArc}
use Rattle.road_network.specs.Network.{Network}
use Rattle.walk_readback.specs.Found.{FoundCosts, HasAllRelevant, HasSettled}
use Rattle.cert_rules.specs.Certificates.{IsListed}
use Rattle.front_cert.specs.Listing.{line_of}
use Rattle.front_cert.specs.Lookup.{Precedes}

-- all that is relevant over this network was found, within some limit
pub record IsWhole (net : Network) (f : FoundCosts) : Type 0 where
  pub nodes : f.nodes ≡ net.nodes
  pub criteria : f.criteria ≡ net.criteria
  pub limit : List (Option ℕ)
  pub relevant : HasAllRelevant net limit f

-- The labels ascend, each has the last arc of its backward-least walk from s, and P holds of just the listed pairs.
pub record ListsPairs (net : Network) (s : ℕ) (P : ℕ → List ℕ → Type 0) (labels : List StoredLabel) : Type 0 where
  pub ascending : AllPairs Precedes labels
  pub least : (l : StoredLabel) → Contains labels l → HasLeastArc net s (line_of l)
  pub exact : (v : ℕ) (c : List ℕ) → IsListed (map line_of labels) v c ↔ P v c

-- the labels are of the settled pairs of the first n nodes
abbrev pub ListsUpTo : Network → FoundCosts → ℕ → List StoredLabel → Type 0
ListsUpTo net f n labels = ListsPairs net f.start (λ v c. (v ≤ n) × HasSettled f v c) labels
