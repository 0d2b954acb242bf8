use Rattle.std.proofs.Common.{◌≡◌, take}
use Rattle.arc_graph.specs.JoinerHolds.{JoinerHolds}
use Rattle.arc_graph.proofs.join.join_files.Given as goal

-- the files so far have come whole
abbrev pub invariant-loop-file : goal.invariant-loop-file
invariant-loop-file l = record {
  begun : l.joiner.begun ≡ l.file-index;
  whole : l.joiner.come ≡ l.joiner.due_arcs;
  stands : JoinerHolds l.joiner (take l.file-index l.file-items);
}
