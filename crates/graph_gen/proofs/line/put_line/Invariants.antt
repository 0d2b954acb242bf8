use Rattle.std.proofs.Common.{◌≡◌, ◌++◌, take}
use Rattle.std.specs.List.{flat_map}
use Rattle.graph_gen.specs.Texts.{and_number}
use Rattle.graph_gen.proofs.line.put_line.Given as goal

-- the word and the numbers so far were put
abbrev pub invariant-loop-number : goal.invariant-loop-number
invariant-loop-number l = l.text.items ≡ l.fn.text.items ++ l.word ++ flat_map and_number (take l.number-index l.numbers)
