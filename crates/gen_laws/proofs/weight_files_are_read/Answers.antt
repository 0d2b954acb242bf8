use Rattle.std.proofs.Common.{◌≡◌, ◌∙◌, ℕ, ◌≤◌, ◌^◌, codes, length, map, sym, subst, arith}
use Rattle.std.proofs.lemmas.Bool.{le-leb}
use Rattle.std.proofs.lemmas.List.{length-map}
use Rattle.std.proofs.Math.Nat.{mul-le-mul_left}
use Rattle.line_text.proofs.WrittenLineLemmas.{line_of_fields}
use Rattle.gr_reader.specs.Grammar.{weights}
use Rattle.gr_reader.specs.Rules.LineForm.{Problem}
use Rattle.gr_reader.proofs.WrittenFileLemmas.{SaysForm, is_file}
use Rattle.gr_reader.proofs.WrittenWeightLemmas.{arc_fields, says_sizes, size_fields}
use Rattle.graph_gen.specs.Grids.{arc_count, node_count}
use Rattle.graph_gen.specs.Sequence.{first_number}
use Rattle.gen_laws.specs.Laws.{arc_of}
use Rattle.gen_laws.proofs.WeightLemmas.{all_in_range, all_say, both, drawn, few_arcs, few_nodes, length-drawn}
use Rattle.gen_laws.proofs.weight_files_are_read.Goals as goal

pub returns : goal.returns
returns c = λ limits plan criterion room is.
    let side = plan.side in
    let x = first_number plan.start criterion in
    let xs = drawn side x is.side in
    let nodes = few_nodes side is.side in
    let arcs = few_arcs side is.side in
    let some : 1 ≤ node_count side = omega (arith, is.some_side, mul-le-mul_left side is.some_side) in
    let count : length (map arc_of xs) ≡ arc_count side = length-map xs arc_of ∙ length-drawn side x is.side in
    let sizes = line_of_fields (codes "p") (size_fields (node_count side) (arc_count side)) in
    let says = subst (λ (k : ℕ). SaysForm weights sizes (Problem (record { nodes = node_count side; arcs = k }))) (sym count)
    (says_sizes (node_count side) (arc_count side) (omega arith) (omega arith)) in
    is_file weights (λ p. line_of_fields (codes "a") (arc_fields (arc_of p))) arc_of limits sizes _ xs room.line room.file says (all_say side x is.side)
    (omega (arith, length-drawn side x is.side))
    (both _ _ (both _ _ (le-leb 1 (node_count side) some) (le-leb (node_count side) (2 ^ 23) (omega arith))) (le-leb _ (2 ^ 24) (omega arith)))
    (sym (length-map xs arc_of)) (all_in_range side x is.side _)
