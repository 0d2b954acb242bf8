use Rattle.std.proofs.Common.{◌≡◌, false}
use Rattle.std.specs.List.{AllWithin}
use Rattle.epoch_follow.specs.Takes.{feed_starved}
use Rattle.route_lanes.specs.declared.feed_lane.FeedReport.{FeedReport}
use Rattle.route_top.proofs.follow.feeds_sufficed.Given as goal

abbrev pub invariant-loop-report : goal.invariant-loop-report
invariant-loop-report l = AllWithin (λ (r : FeedReport). feed_starved r.end ≡ false) l.reports 0 l.report-index
