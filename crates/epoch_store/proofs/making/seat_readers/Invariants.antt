use Rattle.std.proofs.Common.{◌≡◌, ◌+◌, []}
use Rattle.std.specs.Prelude.{All, vec_len}
use Rattle.epoch_store.specs.Readers.{unread}
use Rattle.epoch_store.proofs.making.seat_readers.Given as goal

-- each snapshot waits or has its reader, and is of the first epoch
abbrev pub invariant-loop-shown : goal.invariant-loop-shown
invariant-loop-shown g l = record {
  count : vec_len l.rest + vec_len l.seated ≡ vec_len l.initial.rest;
  waiting : All (λ h. h ≡ []) l.rest.items;
  seated : All (λ x. x ≡ unread) l.seated.items;
}

abbrev pub decreases-loop-shown : goal.decreases-loop-shown
decreases-loop-shown g l = vec_len l.rest
