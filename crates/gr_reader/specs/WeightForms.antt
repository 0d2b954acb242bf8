-- What is read of a line of a weight file, as its grammar says it.
use Rattle.std.specs.Prelude.{ℕ, ◌^◌, ◌&&◌, nat_lt, if◌then◌else◌, Option, Some, None}
use Rattle.arc_graph.specs.declared.file.ArcLine.{ArcLine}
use Rattle.gr_reader.specs.declared.fault.LineKind.{LineKind}
use Rattle.gr_reader.specs.declared.fault.LineKind.TheVariants.{SizeRange, NodeRange, WeightRange}
use Rattle.gr_reader.specs.declared.weights.Sizes.{Sizes}
use Rattle.gr_reader.specs.declared.grammar.LineForm.TheVariants as read
use Rattle.gr_reader.specs.declared.grammar.LineForm.{LineForm as ReadForm}
use Rattle.gr_reader.specs.Capped.{capped_number, map_form}
use Rattle.gr_reader.specs.Rules.{LineForm}
use Rattle.gr_reader.specs.Rules.LineForm.{Problem, Record, Malformed}
use Rattle.gr_reader.specs.Grammar.{is_node, weights}

-- what was read
abbrev pub as_form : ReadForm (ℕ × ℕ) (ℕ × ℕ × ℕ) → LineForm Sizes ArcLine
as_form (read.Problem (nodes, arcs)) = Problem (record { nodes = nodes; arcs = arcs })
as_form (read.Record (tail, head, weight)) = Record (record { tail = tail; head = head; weight = weight })
as_form read.Malformed = Malformed

-- the same, where nothing fits that isn't malformed
abbrev pub or_malformed : Option (ReadForm (ℕ × ℕ) (ℕ × ℕ × ℕ)) → LineForm Sizes ArcLine
or_malformed None = Malformed
or_malformed (Some form) = as_form form

-- the form with its numbers capped
abbrev pub capped : LineForm Sizes ArcLine → LineForm Sizes ArcLine
capped form =
    map_form (λ sizes. record { nodes = capped_number sizes.nodes; arcs = capped_number sizes.arcs })
    (λ arc. record { tail = capped_number arc.tail; head = capped_number arc.head; weight = capped_number arc.weight })
    form

-- the fault of a problem line's numbers
abbrev pub size_kind : ℕ → ℕ → Option LineKind
size_kind nodes arcs = if weights.is_size (record { nodes = nodes; arcs = arcs }) then None else Some SizeRange

-- the fault of an arc's numbers
abbrev pub range_kind : ℕ → ℕ → ℕ → ℕ → Option LineKind
range_kind nodes tail head weight =
    if is_node nodes tail && is_node nodes head
    then (if nat_lt weight (2 ^ 32) then None else Some WeightRange)
    else Some NodeRange
