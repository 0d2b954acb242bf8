use Rattle.std.proofs.Common.{◌≡◌, map}
use Rattle.std.specs.List.{range_with_len}
use Rattle.arc_graph.specs.JoinerHolds.{JoinerHolds}
use Rattle.gen_laws.specs.Laws.{file_of}
use Rattle.still_commands.proofs.plan.plan_network.Given as goal

-- the files so far have come whole to the joiner
abbrev pub invariant-loop-before : goal.invariant-loop-before
invariant-loop-before l = record {
  begun : l.joiner.begun ≡ l.before;
  whole : l.joiner.come ≡ l.joiner.due_arcs;
  stands : JoinerHolds l.joiner (map (file_of l.plan) (range_with_len 1 l.before));
}
