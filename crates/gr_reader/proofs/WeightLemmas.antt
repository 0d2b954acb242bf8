-- An arc with capped numbers has the faults that it had: one of more than 32 bits is out of every range, whichever it is.
use Rattle.std.proofs.Common.{◌≡◌, ℕ, ◌^◌, ◌≤◌, nat_lt, true, Some, refl, arith}
use Rattle.std.proofs.lemmas.Bool.Decides.{nat_tests}
use Rattle.road_network.specs.Limits.{max_nodes}
use Rattle.arc_graph.specs.declared.file.ArcLine.{ArcLine}
use Rattle.gr_reader.specs.declared.weights.Sizes.{Sizes}
use Rattle.gr_reader.specs.Capped.{capped_number}
use Rattle.gr_reader.specs.Grammar.{is_node, weights}
use Rattle.gr_reader.specs.Rules.{LineForm}
use Rattle.gr_reader.specs.Rules.LineForm.{Problem, Record, Malformed}
use Rattle.gr_reader.specs.Table.{form_kind}
use Rattle.gr_reader.specs.WeightForms.{capped}

is_node-capped : (nodes v : ℕ) → nodes ≤ max_nodes → is_node nodes (capped_number v) ≡ is_node nodes v
is_node-capped nodes v small = grind (arith, nat_tests)

weight-capped : (weight : ℕ) → nat_lt (capped_number weight) (2 ^ 32) ≡ nat_lt weight (2 ^ 32)
weight-capped weight = grind (arith, nat_tests)

most_nodes : (sizes : Sizes) → weights.is_size sizes ≡ true → sizes.nodes ≤ max_nodes
most_nodes sizes e = grind (arith, nat_tests)

-- a line behind the problem line has the same fault with its numbers capped
pub kind-capped : (sizes : Sizes) (come : ℕ) (form : LineForm Sizes ArcLine) → weights.is_size sizes ≡ true
    → form_kind weights (Some sizes) come (capped form) ≡ form_kind weights (Some sizes) come form
kind-capped sizes come (Problem other) right = refl
kind-capped sizes come (Record a) right =
    let small = most_nodes sizes right in
    rw (is_node-capped sizes.nodes a.tail small, is_node-capped sizes.nodes a.head small, weight-capped a.weight) refl
kind-capped sizes come Malformed right = refl
