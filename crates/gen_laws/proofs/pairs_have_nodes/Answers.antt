use Rattle.std.proofs.Common.{arith}
use Rattle.std.specs.List.{range_with_len}
use Rattle.std.proofs.lemmas.List.Elements.{All-map}
use Rattle.graph_gen.specs.Grids.{node_count}
use Rattle.gen_laws.specs.Laws.{HasNodes, pair_of}
use Rattle.gen_laws.proofs.GridLemmas.{all_range}
use Rattle.gen_laws.proofs.PairLemmas.{leads_to_node, starts_at_node}
use Rattle.gen_laws.proofs.pairs_have_nodes.Goals as goal

pub returns : goal.returns
returns c = λ plan is.
    All-map (HasNodes (node_count plan.side)) (pair_of plan) (range_with_len 1 plan.pairs)
    (all_range (λ i. HasNodes (node_count plan.side) (pair_of plan i)) 1 plan.pairs
    (λ i low high. record { from = starts_at_node plan is i (omega arith); to = leads_to_node plan is i (omega arith) }))
