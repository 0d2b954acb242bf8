use Rattle.work_claim.proofs.job_run.+run.Goals as goal

pub JobRun::run_both-returns : goal.JobRun::run_both-returns
JobRun::run_both-returns g t c = c.together.ensures 1 c.args.count c.join-first.ensures.first c.join-first.ensures.second
