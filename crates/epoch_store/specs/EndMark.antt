-- The mark that no further epoch will come.
use Rattle.std.specs.Prelude.{◌≡◌, ◌+◌, false, List, [], ◌∷◌}
use Rattle.epoch_store.specs.declared.end_mark.Closing.{Closing}
use Rattle.epoch_store.specs.declared.end_mark.EndMark.{EndMark}
use Rattle.epoch_store.specs.declared.sight.MarkSight.{MarkSight}

-- what waits to be shown is that the store is closed, and nothing else
pub record IsReady (waiting : List Closing) : Type 0 where
  pub closing : Closing
  pub alone : waiting ≡ closing ∷ []

-- what a reader knows before its first look for the mark
abbrev pub unlooked : MarkSight
unlooked = record { looks = 0; closed = false }

-- What a look for the mark tells, which is counted: whether it was set.
pub record LooksForMark (before : MarkSight) (mark : EndMark) (after : MarkSight) : Type 0 where
  pub counted : after.looks ≡ before.looks + 1
  pub found : after.closed ≡ mark.closed
