use Rattle.std.proofs.Common.{None, take}
use Rattle.std.specs.List.{AllZip}
use Rattle.route_io.specs.Sources.{ReadsFiles}
use Rattle.route_top.specs.Follow.{numbered}
use Rattle.route_top.specs.Lanes.{SaysScript}
use Rattle.route_top.proofs.follow.read_numbered.Given as goal

-- the files so far were read, and nothing has failed
abbrev pub invariant-loop-place : goal.invariant-loop-place
invariant-loop-place g l = record {
  folder : ReadsFiles (g.F.Source.state l.fn.folder) (g.F.Source.state l.folder) None;
  read : AllZip (SaysScript (g.F.Source.state l.fn.folder).files) (take l.place (numbered l.stem l.count)) l.all.items;
}
