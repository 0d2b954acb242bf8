use Rattle.std.proofs.Common.{◌≡◌, ◌+◌, ◌++◌, ◌∷◌, List, [], length, take}
use Rattle.arc_graph.specs.Files.{ArcFile}
use Rattle.arc_graph.specs.JoinerHolds.{JoinerHolds}
use Rattle.arc_graph.proofs.join.add_file.Given as goal

-- the file is begun, and its arcs so far have come
abbrev pub invariant-loop-arc : goal.invariant-loop-arc
invariant-loop-arc l = record {
  begun : l.joiner.begun ≡ l.fn.joiner.begun + 1;
  nodes : l.joiner.due_nodes ≡ l.file.nodes;
  arcs : l.joiner.due_arcs ≡ length l.arcs;
  come : l.joiner.come ≡ l.arc-index;
  stands : (files : List ArcFile) → JoinerHolds l.fn.joiner files
      → JoinerHolds l.joiner (files ++ record { nodes = l.file.nodes; arcs = take l.arc-index l.arcs } ∷ []);
}
