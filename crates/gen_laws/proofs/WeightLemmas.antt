-- The arcs of a generated weight file, with its sizes, are within the ranges of the format.
use Rattle.std.proofs.Common.{◌≡◌, ℕ, ◌-◌, ◌*◌, ◌≤◌, ◌^◌, ◌&&◌, true, Bool, List, codes, length, ap, ◌∙◌, arith}
use Rattle.std.specs.List.{All, range_with_len, zip}
use Rattle.std.proofs.Math.Nat.{mul-le-mul_left}
use Rattle.std.proofs.lemmas.Bool.{le-leb, lt-ltb}
use Rattle.std.proofs.lemmas.List.Elements.{All-map, All-weaker}
use Rattle.std.proofs.lemmas.List.FromFn.{length-map-range_with_len}
use Rattle.road_network.specs.Network.{IsNode}
use Rattle.line_text.proofs.WrittenLineLemmas.{line_of_fields}
use Rattle.gr_reader.specs.Grammar.{is_node, weights}
use Rattle.gr_reader.specs.Rules.{IsWithinRange}
use Rattle.gr_reader.proofs.WrittenFileLemmas.{SaysRecord}
use Rattle.gr_reader.proofs.WrittenWeightLemmas.{arc_fields, says_arc}
use Rattle.graph_gen.specs.Grids.{arc_count, grid_arcs, node_count}
use Rattle.graph_gen.specs.Plans.{max_side}
use Rattle.graph_gen.specs.Sequence.{nth_behind, weight_by, weights_behind}
use Rattle.gen_laws.specs.Laws.{arc_of}
use Rattle.gen_laws.proofs.GridLemmas.{AreNodes, all_range, arcs_are_counted, ends_are_nodes}
use Rattle.gen_laws.proofs.ZipLemmas.{all_zip, length-zip}

pub both : (a b : Bool) → a ≡ true → b ≡ true → (a && b) ≡ true
both a b first second = ap (λ t. t && b) first ∙ second

-- a grid of a plan has so many nodes and arcs at most
pub few_nodes : (side : ℕ) → side ≤ max_side → node_count side ≤ 1000000
few_nodes side within = omega (arith, mul-le-mul_left side within)

pub few_arcs : (side : ℕ) → side ≤ max_side → arc_count side ≤ 4000000
few_arcs side within =
    let less : side - 1 ≤ 1000 = omega (arith, within) in omega (arith, within, mul-le-mul_left (4 * side) less)

weights_are_small : (x count : ℕ) → All (λ w. w ≤ 100) (weights_behind x count)
weights_are_small x count =
    All-map (λ w. w ≤ 100) (λ n. weight_by (nth_behind x n)) (range_with_len 1 count)
    (all_range (λ n. weight_by (nth_behind x n) ≤ 100) 1 count (λ n low high. omega arith))

module _ (side x : ℕ) (within : side ≤ max_side) where
  -- the grid's arcs, each with a weight
  abbrev pub drawn : List ((ℕ × ℕ) × ℕ)
  drawn = zip (grid_arcs side) (weights_behind x (length (grid_arcs side)))

  pub length-drawn : length drawn ≡ arc_count side
  length-drawn =
      length-zip (grid_arcs side) (weights_behind x (length (grid_arcs side)))
      (length-map-range_with_len (λ n. weight_by (nth_behind x n)) 1 (length (grid_arcs side))) ∙ arcs_are_counted side

  -- Both ends are nodes, and the weight is small.
  abbrev pub IsSmallArc : (ℕ × ℕ) × ℕ → Type 0
  IsSmallArc p = AreNodes side p.0 × (p.1 ≤ 100)

  pub all_small : All IsSmallArc drawn
  all_small =
      all_zip (AreNodes side) (λ w. w ≤ 100) (grid_arcs side) (weights_behind x (length (grid_arcs side))) (ends_are_nodes side)
      (weights_are_small x (length (grid_arcs side)))

  -- the lines of these arcs say them
  pub all_say : All (SaysRecord weights (λ p. line_of_fields (codes "a") (arc_fields (arc_of p))) arc_of) drawn
  all_say =
      All-weaker IsSmallArc (SaysRecord weights (λ p. line_of_fields (codes "a") (arc_fields (arc_of p))) arc_of)
      (λ p small. let nodes = few_nodes side within in
      says_arc (arc_of p) (omega (arith, small.0.tail.1)) (omega (arith, small.0.head.1)) (omega (arith, small.1))) drawn all_small

  node_test : (v : ℕ) → IsNode (node_count side) v → is_node (node_count side) v ≡ true
  node_test v is = both _ _ (le-leb 1 v is.0) (le-leb v (node_count side) is.1)

  -- and they are within the ranges of a file of so many nodes
  pub all_in_range : (arcs : ℕ) → All (λ p. IsWithinRange weights (record { nodes = node_count side; arcs = arcs }) (arc_of p)) drawn
  all_in_range arcs =
      All-weaker IsSmallArc (λ p. IsWithinRange weights (record { nodes = node_count side; arcs = arcs }) (arc_of p))
      (λ p small. record {
        nodes = both _ _ (node_test p.0.0 small.0.tail) (node_test p.0.1 small.0.head);
        weight = lt-ltb p.1 (2 ^ 32) (omega (arith, small.1));
      }) drawn all_small
