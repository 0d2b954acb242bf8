use Rattle.std.proofs.Common.{◌+◌, ◌*◌}
use Rattle.work_claim.proofs.job_run.+run.Given as goal

abbrev pub decreases-JobRun::run : goal.decreases-JobRun::run
decreases-JobRun::run g l = 3 * l.workers

abbrev pub decreases-JobRun::run_both : goal.decreases-JobRun::run_both
decreases-JobRun::run_both g l = 3 * l.count + 2

abbrev pub decreases-JobRun::run_both-join+arg3 : goal.decreases-JobRun::run_both-join+arg3
decreases-JobRun::run_both-join+arg3 g l = 3 * l.count + 1
