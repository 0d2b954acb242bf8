use Rattle.std.proofs.Common.{◌≡◌, false}
use Rattle.std.specs.List.{AllWithin}
use Rattle.session_core.specs.Links.{is_starved}
use Rattle.route_lanes.specs.Lanes.{LaneReport}
use Rattle.route_top.proofs.lanes.memory_sufficed.Given as goal

abbrev pub invariant-loop-report : goal.invariant-loop-report
invariant-loop-report l = AllWithin (λ (r : LaneReport). is_starved r.end ≡ false) l.reports 0 l.report-index
