use Rattle.std.proofs.Common.{◌≡◌, ◌+◌, ◌++◌, length, map}
use Rattle.std.specs.Prelude.{vec_capacity, vec_len}
use Rattle.route_lanes.specs.Served.{report_of}
use Rattle.route_lanes.proofs.session_lane.report_sessions.Given as goal

-- so many lanes were reported of, in the room that was there
abbrev pub invariant-loop-lane : goal.invariant-loop-lane
invariant-loop-lane g l = record {
  reports : l.reports.items ≡ l.fn.reports.items ++ map (report_of l.last) l.yielded;
  count : vec_len l.reports ≡ vec_len l.fn.reports + length l.yielded;
  room : vec_capacity l.reports ≡ vec_capacity l.fn.reports;
}
