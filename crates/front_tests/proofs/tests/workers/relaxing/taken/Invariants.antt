use Rattle.std.specs.Prelude.{All}
use Rattle.road_network.specs.Network.{IsNode}
use Rattle.front_tests.proofs.tests.workers.relaxing.taken.Given as goal

abbrev pub invariant-loop-plain : goal.invariant-loop-plain
invariant-loop-plain g l = All (λ i. IsNode l.network.nodes i.node.0) l.items.items

abbrev pub invariant-loop : goal.invariant-loop
invariant-loop g l = All (λ i. IsNode l.network.nodes i.node.0) l.items.items
