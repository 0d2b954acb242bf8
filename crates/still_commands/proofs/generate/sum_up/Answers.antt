use Rattle.std.proofs.Common.{◌∙◌, ap, arith, length, subst, sym}
use Rattle.std.specs.List.{All}
use Rattle.std.proofs.lemmas.List.FromFn.{length-map-range_with_len}
use Rattle.arc_graph.specs.Graph.{network}
use Rattle.graph_gen.specs.Grids.{node_count}
use Rattle.gen_laws.specs.Laws.{HasNodes, IsSmall, pair_of}
use Rattle.still_commands.proofs.PlanLemmas.{comes_to, nodes_of_plan}
use Rattle.still_commands.proofs.generate.sum_up.Goals as goal

pub count_pairs-requires-clause-small : goal.count_pairs-requires-clause-small
count_pairs-requires-clause-small g c κs within =
    rw c.new-network.ensures (subst IsSmall (sym c.in_ok-graph.ensures.network) (c.networks_are_small.ensures c.args.asked.now.plan c.numbers_are_in_range.ensures))

pub count_pairs-requires-clause-nodes : goal.count_pairs-requires-clause-nodes
count_pairs-requires-clause-nodes g c κs within =
    let plan = c.args.asked.now.plan in
    let nodes = nodes_of_plan plan (network c.in_ok-graph.graph c.in_ok-graph.weights) c.numbers_are_in_range.ensures c.in_ok-graph.ensures.network in
    rw c.new-network.ensures (subst (λ n. All (HasNodes n) c.deref.result.now) (sym nodes)
    (subst (All (HasNodes (node_count plan.side))) (sym (c.deref.ensures.value ∙ c.in_ok-pairs.ensures)) (c.pairs_have_nodes.ensures plan c.numbers_are_in_range.ensures)))

pub count_pairs-requires-clause-few : goal.count_pairs-requires-clause-few
count_pairs-requires-clause-few g c κs within =
    omega (
      arith,
      ap length (c.deref.ensures.value ∙ c.in_ok-pairs.ensures),
      c.numbers_are_in_range.ensures.pairs,
      length-map-range_with_len (pair_of c.args.asked.now.plan) 1 c.args.asked.now.plan.pairs,
    )

pub returns : goal.returns
returns g c =
    comes_to c.args.asked.now (network c.in_ok-graph.graph c.in_ok-graph.weights) c.deref.result.now c.count_pairs.result c.numbers_are_in_range.ensures
    c.weight_files_are_read.ensures c.weight_files_agree.ensures c.pair_files_are_read.ensures c.in_ok-graph.ensures.network
    (c.deref.ensures.value ∙ c.in_ok-pairs.ensures) (rw c.new-network.ensures at c.count_pairs.ensures)
