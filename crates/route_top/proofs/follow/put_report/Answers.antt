use Rattle.route_io.proofs.SendsLemmas.{Sends-then}
use Rattle.route_top.proofs.follow.put_report.Goals as goal

pub returns : goal.returns
returns g c = Sends-then _ _ _ _ _ c.put_lanes.result c.in_ok-put_feeds.ensures c.put_lanes.ensures
