use Rattle.std.proofs.Common.{arith}
use Rattle.route_top.proofs.LaneScripts.{session_at}
use Rattle.route_top.proofs.lanes.script_at.Goals as goal

pub returns : goal.returns
returns c = rw c.text-stem.ensures (session_at c.args.asked.now c.args.number (omega (arith, c.if-number-eq0.false)) c.requires)
