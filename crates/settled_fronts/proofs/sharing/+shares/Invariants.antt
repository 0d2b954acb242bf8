use Rattle.std.proofs.Common.{◌+◌, ◌*◌, length}
use Rattle.settled_fronts.proofs.sharing.+shares.Given as goal

abbrev pub decreases-share : goal.decreases-share
decreases-share g l = 3 * length l.numbers.now

abbrev pub decreases-share_both : goal.decreases-share_both
decreases-share_both g l = 3 * length l.later.now + 2

abbrev pub decreases-share_both-beside : goal.decreases-share_both-beside
decreases-share_both-beside g l = 3 * length l.later.now + 1
