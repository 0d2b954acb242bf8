-- What a contract sees of a joiner.
use Rattle.std.specs.Prelude.{map}
use Rattle.arc_graph.specs.declared.join.Joiner.TheInside.{Inside}
use Rattle.arc_graph.specs.Layout.{pair_of}
use Rattle.arc_graph.specs.Joiner.{Joiner}

-- all that a joiner keeps, but where it lies in memory
abbrev pub joiner_of : Inside → Joiner
joiner_of j = record {
  nodes = j.nodes;
  ends = map pair_of j.ends.items;
  vectors = j.vectors.items;
  begun = j.begun;
  due_nodes = j.due_nodes;
  due_arcs = j.due_arcs;
  come = j.come;
  other_size = j.other_size;
  other_ends = j.other_ends;
}
