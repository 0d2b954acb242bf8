use Rattle.std.proofs.Common.{false, ◌+◌, ◌-◌, length}
use Rattle.std.specs.Io.KnownBytes.{Consumes}
use Rattle.route_io.specs.Sources.{ReadsFrom}
use Rattle.route_top.specs.Lanes.{max_script}
use Rattle.route_top.proofs.script.read_whole.Given as goal

-- the bytes so far were taken from the source, and nothing has failed
abbrev pub invariant-loop-buffer : goal.invariant-loop-buffer
invariant-loop-buffer g l = record {
  taken : Consumes (g.S.Source.state l.fn.source).left (g.S.Source.state l.source).left l.bytes.items;
  reads : ReadsFrom (g.S.Source.state l.fn.source) (g.S.Source.state l.source) false;
}

abbrev pub decreases-loop-buffer : goal.decreases-loop-buffer
decreases-loop-buffer g l = max_script + 1 - length l.bytes.items
