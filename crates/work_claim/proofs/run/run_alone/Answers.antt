use Rattle.work_claim.proofs.OrderLemmas.{gives_more}
use Rattle.work_claim.proofs.run.run_alone.Goals as goal

pub loop-piece-preserved : goal.loop-piece-preserved
loop-piece-preserved g c =
    rw c.in_ok-push.ensures.items (gives_more (g.J.Job.gives c.args.job.now) _ _ _ c.loop-piece.invariant c.in_ok-run.ensures)
