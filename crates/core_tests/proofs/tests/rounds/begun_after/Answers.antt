use Rattle.std.proofs.Common.{arith}
use Rattle.bulk_search.proofs.LoopLemmas.{after_none, at_next, is_open}
use Rattle.bulk_search.proofs.TaskLemmas.{task_is}
use Rattle.core_tests.proofs.tests.rounds.begun_after.Goals as goal

pub loop-round-init : goal.loop-round-init
loop-round-init g c =
    let is = task_is c.args.network.now c.args.query.now c.nodes.ensures.network.network c.requires.query in
    record {
      after = after_none 2 c.args.network.now c.args.query.now _ is c.requires.criteria c.in_ok-search.ensures;
      counted = omega arith;
    }

pub finish-requires-clause-is_open : goal.finish-requires-clause-is_open
finish-requires-clause-is_open g c κs within =
    let is = task_is c.args.network.now c.args.query.now c.nodes.ensures.network.network c.requires.query in
    is_open _ is _ _ _ c.loop-round.invariant.after _ c.in_ok-begin.ensures.takes c.requires.query.budget

pub loop-round-preserved : goal.loop-round-preserved
loop-round-preserved g c =
    let is = task_is c.args.network.now c.args.query.now c.nodes.ensures.network.network c.requires.query in
    record {
      after = at_next _ is _ _ _ c.loop-round.invariant.after _ _ c.in_ok-begin.ensures.takes c.in_ok-finish.ensures;
      counted = omega (arith, c.in_ok-begin.ensures.step, c.loop-round.invariant.counted);
    }
