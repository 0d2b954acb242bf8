-- What taking a feed does: which of its bytes were taken, and what history they led to.
use Rattle.std.specs.Prelude.{◌≡◌, ⊤, ◌⊎◌, ℕ, ◌+◌, ◌<◌, ◌≤◌, nat_lt, Bool, true, false, List, [], ◌++◌, Option, Some, length, take}
use Rattle.std.specs.Io.KnownBytes.{Consumes, IsAtEnd}
use Rattle.arc_graph.specs.History.{History, sets}
use Rattle.line_text.specs.Lines.{lines_ended, lines_of}
use Rattle.line_text.specs.Reading.{max_held}
use Rattle.epoch_follow.specs.declared.feed_end.FeedEnd.{FeedEnd}
use Rattle.epoch_follow.specs.declared.feed_end.FeedEnd.TheVariants.{Whole, Cut, Read, OutOfMemory}
use Rattle.epoch_follow.specs.Runs.{FeedRun, begun, feed_run, run_lines}
use Rattle.epoch_follow.specs.Text.{FeedHead}

-- the test that a feed ended by a fault of its source
abbrev pub is_read : FeedEnd → Bool
is_read Read = true
is_read end = false

-- the test that a feed ended for want of memory
abbrev pub feed_starved : FeedEnd → Bool
feed_starved (OutOfMemory want) = true
feed_starved end = false

-- the test that no line ended a feed
abbrev pub goes_on : FeedEnd → Bool
goes_on Whole = true
goes_on Cut = true
goes_on end = false

-- what so many first lines of a feed do
abbrev pub first_run : FeedHead → ℕ → History → List ℕ → ℕ → FeedRun
first_run head total old bytes count = run_lines head total (length bytes) (begun old) (take count (lines_of bytes))

-- what the lines do that an LF ends in this front of a feed
abbrev pub front_run : FeedHead → ℕ → History → List ℕ → List ℕ → FeedRun
front_run head total old bytes front = first_run head total old bytes (lines_ended front)

-- The lines that an LF ends in this front of a feed led to this history, and none of them ended the feed.
pub record LeadsOn (head : FeedHead) (total : ℕ) (old : History) (bytes front : List ℕ) (now : History) : Type 0 where
  pub history : (front_run head total old bytes front).history ≡ now
  pub goes_on : goes_on (front_run head total old bytes front).end ≡ true

-- the most bytes that are taken behind the lines that let a feed go on: of a line, with CR and LF, and those that a reader holds
abbrev pub max_ahead : ℕ
max_ahead = 1026 + max_held

-- The lines of a front of what was taken led to this history and let the feed go on. Hardly more was taken than these.
pub record StopsBehind (head : FeedHead) (total : ℕ) (old : History) (bytes taken : List ℕ) (now : History) : Type 0 where
  pub front : List ℕ
  pub more : List ℕ
  pub parts : taken ≡ front ++ more
  pub soon : length more ≤ max_ahead
  pub leads : LeadsOn head total old bytes front now

-- the test that a line takes memory behind which a feed ends so, and before which so, with so many sets: it is a change within a
-- message, or the end of one that is published
abbrev pub line_takes_memory : FeedEnd → FeedEnd → ℕ → ℕ → Bool
line_takes_memory Whole before old new = nat_lt old new
line_takes_memory Cut Cut old new = true
line_takes_memory behind before old new = false

-- the same of a line that leads from one run to another
abbrev pub takes_memory : FeedRun → FeedRun → Bool
takes_memory before behind = line_takes_memory behind.end before.end (sets before.history) (sets behind.history)

-- The same, and the line that follows those of the front takes memory.
pub record StarvesAt (head : FeedHead) (total : ℕ) (old : History) (bytes taken : List ℕ) (now : History) : Type 0 where
  pub stops : StopsBehind head total old bytes taken now
  pub there : lines_ended stops.front < length (lines_of bytes)
  pub memory : takes_memory (front_run head total old bytes stops.front)
      (first_run head total old bytes (lines_ended stops.front + 1)) ≡ true

-- what of a feed was taken, by its end: all of it; or what the source gave before it failed, of which each whole line counts;
-- or no more than up to the line that ended it, or for which memory ran out, and what a reader holds behind it; or nothing,
-- where there was no memory to begin
abbrev pub TakesBytes : FeedHead → ℕ → History → List ℕ → List ℕ → Option (List ℕ) → FeedEnd → History → Type 0
TakesBytes head total old bytes taken after Whole new = IsAtEnd after
TakesBytes head total old bytes taken after Cut new = IsAtEnd after
TakesBytes head total old bytes taken after Read new = LeadsOn head total old bytes taken new
TakesBytes head total old bytes taken after (OutOfMemory want) new =
    StarvesAt head total old bytes taken new ⊎ ((taken ≡ []) × (new ≡ old))
TakesBytes head total old bytes taken after end new = StopsBehind head total old bytes taken new

-- the history and the end are those of the feed's run, but where its source failed or memory ran out
abbrev pub RunsTo : FeedHead → ℕ → History → List ℕ → FeedEnd → History → Type 0
RunsTo head total old bytes Read new = ⊤
RunsTo head total old bytes (OutOfMemory want) new = ⊤
RunsTo head total old bytes end new = feed_run head total old bytes ≡ record { history = new; end = end }

-- A feed was taken, of which the source had these bytes left before and those afterwards. Nothing is taken behind its end.
pub record TakesFeed (head : FeedHead) (total : ℕ) (old : History) (bytes : List ℕ) (after : Option (List ℕ)) (end : FeedEnd)
    (new : History) : Type 0 where
  pub taken : List ℕ
  pub takes : Consumes (Some bytes) after taken
  pub within : length taken ≤ total + 1
  pub reads : TakesBytes head total old bytes taken after end new
  pub runs : RunsTo head total old bytes end new
