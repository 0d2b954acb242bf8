-- What a certificate says, as something that a search has found.
use Rattle.std.specs.Prelude.{ℕ, ◌==◌, List, map}
use Rattle.std.specs.List.{filter}
use Rattle.road_network.specs.Labels.{Label}
use Rattle.walk_readback.specs.Found.{FoundCosts}
use Rattle.front_cert.specs.Listing.{Listing}

-- the listed costs of a node, in order
abbrev pub costs_of : List Label → ℕ → List (List ℕ)
costs_of labels v = map (λ l. l.cost) (filter (λ l. l.node == v) labels)

-- each listed label is a settled pair, and the listed costs of the target are its costs
abbrev pub found_of : Listing → FoundCosts
found_of l = record {
  nodes = l.nodes;
  criteria = l.criteria;
  start = l.cert.start;
  target = l.cert.target;
  settled = map (λ x. (x.node, x.cost)) l.cert.labels;
  costs = costs_of l.cert.labels l.cert.target;
}
