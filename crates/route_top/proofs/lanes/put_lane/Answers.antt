use Rattle.route_io.proofs.SendsLemmas.{Sends-then}
use Rattle.route_top.proofs.lanes.put_lane.Goals as goal

pub returns : goal.returns
returns g c = Sends-then _ _ _ _ _ c.put_all.result c.in_ok-put_heading.ensures (rw c.sent.ensures at c.put_all.ensures.sent)
