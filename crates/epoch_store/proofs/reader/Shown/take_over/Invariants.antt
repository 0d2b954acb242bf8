use Rattle.epoch_store.specs.StoreRule.{IsBrought}
use Rattle.epoch_store.proofs.reader.Shown.take_over.Given as goal

-- the pages so far are those of the epoch that was found, and the others are as they were
abbrev pub invariant-loop-page : goal.invariant-loop-page
invariant-loop-page g l =
    IsBrought l.page l.published-inside.weights l.initial.self-inside.snapshot.weights l.self-inside.snapshot.weights
