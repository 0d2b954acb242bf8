use Rattle.std.proofs.Common.{◌≡◌, [], None, map, take}
use Rattle.std.specs.List.{All, AllZip}
use Rattle.route_io.specs.Sources.{ReadsFiles}
use Rattle.command_words.specs.Words.{scripts_of}
use Rattle.route_top.specs.Lanes.{SaysScript}
use Rattle.route_top.proofs.lanes.read_scripts.Given as goal

-- the scripts so far were read, nothing was sent on their links, and nothing has failed
abbrev pub invariant-loop-number : goal.invariant-loop-number
invariant-loop-number g l = record {
  folder : ReadsFiles (g.F.Source.state l.fn.folder) (g.F.Source.state l.folder) None;
  read : AllZip (SaysScript (g.F.Source.state l.fn.folder).files) (take l.number (scripts_of l.asked))
      (map (λ link. link.from) l.links.items);
  unsent : All (λ link. link.to ≡ record { sent = []; wants = 0 }) l.links.items;
}
