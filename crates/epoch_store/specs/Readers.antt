-- What a reader of epochs has seen, and its looks.
use Rattle.std.specs.Prelude.{◌≡◌, ℕ, ◌+◌, Bool, false, []}
use Rattle.arc_graph.specs.History.{History, ends_closed}

-- a reader: the history that it has seen or learnt, how many looks it has made at the epochs and for the end mark, and whether
-- the last of these found the mark set
pub record EpochReader : Type 0 where
  pub seen : History
  pub looks : ℕ
  pub mark_looks : ℕ
  pub marked : Bool

-- a reader that hasn't looked
abbrev pub unread : EpochReader
unread = record { seen = []; looks = 0; mark_looks = 0; marked = false }

-- It looked for the end mark, and at the epochs: what it has seen since is closed exactly where it found the mark set.
pub record LooksOnce (before after : EpochReader) : Type 0 where
  pub mark : after.mark_looks ≡ before.mark_looks + 1
  pub epochs : after.looks ≡ before.looks + 1
  pub ends : ends_closed after.seen ≡ after.marked

-- it looked, unless it knew before that no further epoch will come
abbrev pub HasLooked : EpochReader → EpochReader → Type 0
HasLooked before after = ends_closed before.seen ≡ false → LooksOnce before after
