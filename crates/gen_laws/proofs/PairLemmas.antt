-- The pairs of a plan: their lines say them, and they are within the ranges of the format.
use Rattle.std.proofs.Common.{◌≡◌, ℕ, ◌+◌, ◌-◌, ◌<◌, ◌≤◌, ◌^◌, true, codes, refl, arith}
use Rattle.std.proofs.Math.Nat.{div-le_of_le-mul, mul-le-mul_left}
use Rattle.std.proofs.lemmas.Bool.{le-leb, lt-ltb}
use Rattle.road_network.specs.Network.{IsNode}
use Rattle.line_text.proofs.WrittenLineLemmas.{line_of_fields}
use Rattle.gr_reader.specs.Rules.{IsWithinRange}
use Rattle.gr_reader.specs.Rules.LineForm.{Record}
use Rattle.gr_reader.proofs.WrittenFileLemmas.{SaysForm}
use Rattle.query_reader.specs.Grammar.{may_be_node, pairs}
use Rattle.query_reader.proofs.WrittenPairLemmas.{end_fields, says_pair}
use Rattle.graph_gen.specs.declared.GenPlan.{GenPlan}
use Rattle.graph_gen.specs.Grids.{node_count, place_at}
use Rattle.graph_gen.specs.Plans.{IsPlan}
use Rattle.graph_gen.specs.Texts.{diagonal_node, reach, start_row}
use Rattle.gen_laws.specs.Laws.{pair_of}
use Rattle.gen_laws.proofs.GridLemmas.{node_is}
use Rattle.gen_laws.proofs.WeightLemmas.{both, few_nodes}

module _ (plan : GenPlan) (is : IsPlan plan) (i : ℕ) (within : i ≤ plan.pairs) where
  -- a pair starts where there are as many rows left as it leads on
  start_leaves_room : start_row plan i ≤ plan.side - 1 - reach plan.side
  start_leaves_room =
      let less : i - 1 ≤ plan.pairs = omega (arith, within) in
      div-le_of_le-mul plan.pairs (omega (arith, mul-le-mul_left (plan.side - 1 - reach plan.side) less))

  on_diagonal : (row : ℕ) → row < plan.side → IsNode (node_count plan.side) (diagonal_node plan.side row)
  on_diagonal row low = node_is plan.side (place_at row row) (record { row = low; column = low })

  pub starts_at_node : IsNode (node_count plan.side) (diagonal_node plan.side (start_row plan i))
  starts_at_node = on_diagonal (start_row plan i) (omega (arith, start_leaves_room, is.some_side))

  pub leads_to_node : IsNode (node_count plan.side) (diagonal_node plan.side (start_row plan i + reach plan.side))
  leads_to_node = on_diagonal (start_row plan i + reach plan.side) (omega (arith, start_leaves_room, is.some_side))

  node_test : (v : ℕ) → IsNode (node_count plan.side) v → may_be_node v ≡ true
  node_test v node =
      let nodes = few_nodes plan.side is.side in
      both _ _ (le-leb 1 v node.0) (lt-ltb v (2 ^ 32) (omega (arith, node.1)))

  -- a pair is within the ranges of its file
  pub pair_in_range : IsWithinRange pairs plan.pairs (pair_of plan i)
  pair_in_range = record { nodes = both _ _ (node_test _ starts_at_node) (node_test _ leads_to_node); weight = refl }

  -- the line of a pair says it
  pub says_pair_of : SaysForm pairs (line_of_fields (codes "q")
      (end_fields (diagonal_node plan.side (start_row plan i)) (diagonal_node plan.side (start_row plan i + reach plan.side)))) (Record (pair_of plan i))
  says_pair_of =
      let nodes = few_nodes plan.side is.side in
      says_pair _ _ (omega (arith, starts_at_node.1)) (omega (arith, leads_to_node.1))
