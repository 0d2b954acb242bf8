use Rattle.std.proofs.Common.{sym, ◌∙◌}
use Rattle.waiting_queue.proofs.PassingLemmas.{run_last, run_passed}
use Rattle.waiting_queue.proofs.passing.pass_all.Goals as goal

pub returns-in_default-clause-passed : goal.returns-in_default-clause-passed
returns-in_default-clause-passed g c =
    let run = rw c.deref.ensures.value at c.count_shadowed.ensures in
    rw (c.in_ok-extend_from_slice.ensures.items, c.split_at.ensures.front) (c.loop-item.invariant.passed _ _ _
    (run_last g.C.StoredCost.components (g.K.Look.IsOpen c.args.look.now) run (rw c.split_at.ensures.back at c.in_default.ensures.cases)))

pub loop-item-preserved : goal.loop-item-preserved
loop-item-preserved g c =
    let run = rw c.deref.ensures.value at c.count_shadowed.ensures in record {
      descends = c.in_ok-look_at.ensures.descends;
      passed = λ costs took rest on. c.loop-item.invariant.passed costs took rest
          (run_passed g.C.StoredCost.components (g.K.Look.IsOpen c.args.look.now) run (sym c.split_at.ensures.back ∙ c.in-Some.ensures.cases.0)
          c.in_ok-look_at.ensures.descends c.in_ok-look_at.ensures.looked (rw (c.in_ok-extend_from_slice.ensures.items, c.split_at.ensures.front) at on));
    }
