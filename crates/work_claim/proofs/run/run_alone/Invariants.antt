use Rattle.work_claim.specs.Results.{GivesAll}
use Rattle.work_claim.proofs.run.run_alone.Given as goal

abbrev pub invariant-loop-piece : goal.invariant-loop-piece
invariant-loop-piece g l = GivesAll (g.J.Job.gives l.job) l.piece l.outs.items
