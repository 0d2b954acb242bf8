use mathlib.Core.List.{IsPrefix}
use Rattle.epoch_store.proofs.reader.EpochReader.look_until.Given as goal

abbrev pub invariant-loop : goal.invariant-loop
invariant-loop g l = IsPrefix l.initial.self.seen l.self.seen
