use Rattle.std.proofs.Common.{◌≡◌, ◌≤◌, length}
use Rattle.front_cert.specs.Offsets.{AreOffsets, AreUpTo}
use Rattle.front_cert.proofs.offsets.offsets_of.Given as goal

-- the offsets of the numbers so far, and where the last one ends
abbrev pub invariant-loop-node : goal.invariant-loop-node
invariant-loop-node l = record {
  count : length l.offsets.items ≡ l.node;
  offsets : AreOffsets l.labels l.offsets.items;
  within : l.end ≤ length l.labels;
  up_to : AreUpTo l.labels l.node l.end;
}
