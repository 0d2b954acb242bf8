use Rattle.std.proofs.Common.{◌≡◌, []}
use Rattle.serving_tests.proofs.tests.feeds.take_all.Given as goal

-- nothing is pending
abbrev pub invariant-loop-feed : goal.invariant-loop-feed
invariant-loop-feed g l = l.operator.pending ≡ []
