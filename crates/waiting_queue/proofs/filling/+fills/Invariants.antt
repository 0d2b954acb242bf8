use Rattle.std.proofs.Common.{◌+◌, ◌*◌, length}
use Rattle.waiting_queue.proofs.filling.+fills.Given as goal

abbrev pub decreases-fill_from : goal.decreases-fill_from
decreases-fill_from g l = 3 * length l.parts.now

abbrev pub decreases-fill_both : goal.decreases-fill_both
decreases-fill_both g l = 3 * length l.others.now + 2

abbrev pub decreases-fill_both-rest : goal.decreases-fill_both-rest
decreases-fill_both-rest g l = 3 * length l.others.now + 1
