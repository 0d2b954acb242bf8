-- What is read of a line of a file of pairs, as its grammar says it.
use Rattle.std.specs.Prelude.{ℕ, ◌&&◌, if◌then◌else◌, Option, Some, None}
use Rattle.gr_reader.specs.declared.fault.LineKind.{LineKind}
use Rattle.gr_reader.specs.declared.fault.LineKind.TheVariants.{SizeRange, NodeRange}
use Rattle.gr_reader.specs.Capped.{capped_number, map_form}
use Rattle.gr_reader.specs.Rules.{LineForm}
use Rattle.gr_reader.specs.Rules.LineForm.{Problem, Record, Malformed}
use Rattle.gr_reader.specs.declared.grammar.LineForm.TheVariants as read
use Rattle.gr_reader.specs.declared.grammar.LineForm.{LineForm as ReadForm}
use Rattle.query_reader.specs.declared.pairs.Pair.{Pair}
use Rattle.query_reader.specs.Grammar.{may_be_node, pairs}

-- what was read
abbrev pub as_form : ReadForm ℕ (ℕ × ℕ) → LineForm ℕ Pair
as_form (read.Problem count) = Problem count
as_form (read.Record (from, to)) = Record (record { from = from; to = to })
as_form read.Malformed = Malformed

-- the same, where nothing fits that isn't malformed
abbrev pub or_malformed : Option (ReadForm ℕ (ℕ × ℕ)) → LineForm ℕ Pair
or_malformed None = Malformed
or_malformed (Some form) = as_form form

-- the form with its numbers capped
abbrev pub capped : LineForm ℕ Pair → LineForm ℕ Pair
capped form =
    map_form capped_number (λ pair. record { from = capped_number pair.from; to = capped_number pair.to }) form

-- the fault of a problem line's number
abbrev pub size_kind : ℕ → Option LineKind
size_kind count = if pairs.is_size count then None else Some SizeRange

-- the fault of a pair's numbers
abbrev pub range_kind : ℕ → ℕ → Option LineKind
range_kind from to = if may_be_node from && may_be_node to then None else Some NodeRange
