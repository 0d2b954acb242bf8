use Rattle.std.proofs.Common.{◌≡◌, ◌-◌, IfOk, length}
use Rattle.work_claim.specs.Claims.{past}
use Rattle.work_claim.specs.Results.{AreDone}
use Rattle.work_claim.proofs.job_run.JobRun.work.Given as goal

abbrev pub invariant-loop-piece : goal.invariant-loop-piece
invariant-loop-piece g l = record {
  seated : l.seat.table ≡ l.self.counter.table;
  one : l.seat.draws.workers ≡ 1;
  none_past : past l.self.counter.pieces l.seat.draws.numbers ≡ 0;
  results : IfOk l.done (λ d. AreDone (g.J.Job.gives l.self.job.now) l.self.counter.pieces l.seat.draws.numbers d.items);
}

abbrev pub decreases-loop-piece : goal.decreases-loop-piece
decreases-loop-piece g l = l.self.counter.pieces - length l.seat.draws.numbers
