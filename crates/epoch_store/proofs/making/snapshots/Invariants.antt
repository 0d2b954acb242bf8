use Rattle.std.proofs.Common.{◌≡◌, []}
use Rattle.std.specs.Prelude.{All, vec_len}
use Rattle.epoch_store.proofs.making.snapshots.Given as goal

-- so many snapshots were made, each of the first epoch
abbrev pub invariant-loop : goal.invariant-loop
invariant-loop g l = record {
  count : vec_len l.all ≡ l.counter;
  unread : All (λ h. h ≡ []) l.all.items;
}
