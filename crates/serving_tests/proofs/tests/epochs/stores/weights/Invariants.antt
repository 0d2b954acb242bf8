use Rattle.std.proofs.Common.{◌≡◌}
use Rattle.serving_tests.proofs.tests.epochs.stores.weights.Given as goal

-- so many arcs of the file have come
abbrev pub invariant-loop-arc : goal.invariant-loop-arc
invariant-loop-arc g l = record {
  begun : l.joiner.begun ≡ l.initial.joiner.begun;
  nodes : l.joiner.due_nodes ≡ 2;
  due : l.joiner.due_arcs ≡ l.arcs;
  come : l.joiner.come ≡ l.arc;
}

-- so many files have come, each whole
abbrev pub invariant-loop-file : goal.invariant-loop-file
invariant-loop-file g l = record {
  begun : l.joiner.begun ≡ l.file;
  whole : l.joiner.come ≡ l.joiner.due_arcs;
}
