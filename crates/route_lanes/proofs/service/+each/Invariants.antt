use Rattle.std.proofs.Common.{◌+◌, ◌-◌, ◌*◌, length}
use Rattle.route_lanes.proofs.service.+each.Given as goal

abbrev pub decreases-serve_each : goal.decreases-serve_each
decreases-serve_each g l = 3 * length l.parties.now

abbrev pub decreases-serve_halves : goal.decreases-serve_halves
decreases-serve_halves g l = 3 * (length l.left.now + length l.right.now) - 1

abbrev pub decreases-serve_halves-join_mut+arg2 : goal.decreases-serve_halves-join_mut+arg2
decreases-serve_halves-join_mut+arg2 g l = 3 * length l.left.now + 1

abbrev pub decreases-serve_halves-join_mut+arg3 : goal.decreases-serve_halves-join_mut+arg3
decreases-serve_halves-join_mut+arg3 g l = 3 * length l.right.now + 1
