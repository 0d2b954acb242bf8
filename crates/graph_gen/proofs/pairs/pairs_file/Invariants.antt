use Rattle.std.proofs.Common.{◌≡◌, ◌++◌, ◌-◌}
use Rattle.std.specs.List.{flat_map, range_with_len}
use Rattle.graph_gen.specs.Texts.{pair_line}
use Rattle.graph_gen.proofs.pairs.pairs_file.Given as goal

-- the pairs so far were put behind the first line
abbrev pub invariant-loop-number : goal.invariant-loop-number
invariant-loop-number l = l.text.items ≡ l.initial.text.items ++ flat_map (pair_line l.plan) (range_with_len 1 (l.number - 1))
