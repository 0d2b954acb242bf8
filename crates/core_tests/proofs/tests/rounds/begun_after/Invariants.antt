use Rattle.std.specs.Prelude.{◌≡◌, ◌+◌}
use Rattle.bulk_search.specs.Counting.{task_of}
use Rattle.bulk_search.specs.Rounds.{IsAfter}
use Rattle.core_tests.proofs.tests.rounds.begun_after.Given as goal

-- the rounds that were passed were made and counted
abbrev pub invariant-loop-round : goal.invariant-loop-round
invariant-loop-round g l = record {
  after : IsAfter (task_of l.network l.query) l.query.budget l.round-index l.search;
  counted : l.steps ≡ l.fn.steps + l.round-index;
}
