-- How large a network is.
use Rattle.std.specs.Prelude.{length}
use Rattle.road_network.specs.Network.{Network}
use Rattle.arc_graph.specs.declared.join.NetworkSizes.{NetworkSizes}

-- its nodes, arcs and criteria
abbrev pub sizes_of : Network → NetworkSizes
sizes_of net = record { nodes = net.nodes; arcs = length net.ends; criteria = net.criteria }
