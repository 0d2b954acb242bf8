use Rattle.std.proofs.Common.{rules, ◌+◌, arith}
use Rattle.std.proofs.lemmas.List.FromFn.{map-range_with_len_more}
use Rattle.link_doors.specs.Forms.{new_host_door}
use Rattle.link_doors.proofs.host_town.HostTown.open_doors.Goals as goal

pub loop-lane-preserved : goal.loop-lane-preserved
loop-lane-preserved g c =
    let more = map-range_with_len_more (new_host_door c.args.links) 0 (c.loop-lane.lane + 1) (c.loop-lane.lane + 1) (omega arith) in
    search (rules, more)
