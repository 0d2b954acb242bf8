use Rattle.std.proofs.Common.{◌≡◌, ◌≤◌, length}
use Rattle.network_tests.proofs.tests.joining.file.Given as goal

-- the nodes stay, and there is at most one arc for each so far
abbrev pub invariant-loop-tail : goal.invariant-loop-tail
invariant-loop-tail l = record {
  nodes : l.file.nodes ≡ 3;
  arcs : length l.file.arcs ≤ l.tail-index;
}
