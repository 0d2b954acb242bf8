use Rattle.std.proofs.Common.{◌≡◌, None, map, take}
use Rattle.route_io.specs.Sources.{ReadsFiles}
use Rattle.still_commands.specs.ReadResults.{HasRead}
use Rattle.still_commands.proofs.network.read_files.Given as goal

-- the files so far have come whole to the joiner, and nothing has failed
abbrev pub invariant-loop-name : goal.invariant-loop-name
invariant-loop-name g l = record {
  begun : l.joiner.begun ≡ l.name-index;
  whole : l.joiner.come ≡ l.joiner.due_arcs;
  folder : ReadsFiles (g.F.Source.state l.fn.folder) (g.F.Source.state l.folder) None;
  read : HasRead (g.F.Source.state l.fn.folder).files (take l.name-index (map (λ name. name.now) l.names)) l.joiner;
}
