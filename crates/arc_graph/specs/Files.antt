-- What a weight file says.
use Rattle.std.specs.Prelude.{ℕ, ◌≤◌, List, [], ◌∷◌, ◌++◌, length, All}
use Rattle.road_network.specs.Network.{IsNode}
use Rattle.arc_graph.specs.declared.file.ArcLine.{ArcLine}
use Rattle.road_network.specs.Limits.{max_nodes, max_arcs}

-- how many nodes there are, and the arcs in the order of their lines
pub record ArcFile : Type 0 where
  pub nodes : ℕ
  pub arcs : List ArcLine

-- the number of nodes and of arcs
abbrev pub size_of : ArcFile → ℕ × ℕ
size_of file = (file.nodes, length file.arcs)

-- the tail and the head
abbrev pub ends_of : ArcLine → ℕ × ℕ
ends_of arc = (arc.tail, arc.head)

-- a file of this many nodes and no arc yet
abbrev pub empty_file : ℕ → ArcFile
empty_file nodes = record { nodes = nodes; arcs = [] }

-- the file with one arc more
abbrev pub with_arc : ArcFile → ArcLine → ArcFile
with_arc file arc = record { nodes = file.nodes; arcs = file.arcs ++ arc ∷ [] }

-- the file is within the limits of a graph, and its arcs' ends are nodes
pub record IsArcFile (file : ArcFile) : Type 0 where
  pub some_node : 1 ≤ file.nodes
  pub nodes : file.nodes ≤ max_nodes
  pub arcs : length file.arcs ≤ max_arcs
  pub tails : All (λ (a : ArcLine). IsNode file.nodes a.tail) file.arcs
  pub heads : All (λ (a : ArcLine). IsNode file.nodes a.head) file.arcs
