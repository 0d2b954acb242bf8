use Rattle.std.proofs.Common.{ℕ, List, ◌++◌, take}
use Rattle.line_text.specs.LastFields.{Shows}
use Rattle.line_text.proofs.http.LastField.behind.Given as goal

abbrev pub invariant-loop-byte : goal.invariant-loop-byte
invariant-loop-byte l = (text : List ℕ) → Shows l.fn.self text → Shows l.last (text ++ take l.byte-index l.fn.bytes)
