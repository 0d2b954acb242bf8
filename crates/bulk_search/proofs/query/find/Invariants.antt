use Rattle.std.proofs.Common.{◌≡◌, ◌+◌}
use Rattle.bulk_search.specs.Counting.{task_of}
use Rattle.bulk_search.specs.Rounds.{IsAfter}
use Rattle.bulk_search.specs.Widths.{core_of}
use Rattle.bulk_search.proofs.query.find.Given as goal

-- so many rounds were made as steps were counted
abbrev pub invariant-rounds : goal.invariant-rounds
invariant-rounds g l = record {
  after : IsAfter (task_of l.network l.query) l.query.budget l.counter (core_of l.rounds);
  counted : l.steps ≡ l.fn.steps + l.counter;
}
