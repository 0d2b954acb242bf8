use Rattle.std.proofs.Common.{◌≡◌, ◌+◌, ◌≤◌, vec_len, vec_capacity}
use Rattle.link_doors.specs.Forms.{new_host_doors}
use Rattle.link_doors.proofs.host_town.HostTown.open_doors.Given as goal

abbrev pub invariant-loop-lane : goal.invariant-loop-lane
invariant-loop-lane g l = (l.lane ≤ l.lanes) × (l.lane-end ≡ l.lanes) × (vec_len l.doors ≡ l.lane + 1)
    × (l.lanes + 1 ≤ vec_capacity l.doors) × (l.doors.items ≡ new_host_doors l.links (l.lane + 1))
