-- What a follower does with one line of a feed after another.
use Rattle.std.specs.Prelude.{◌≡◌, ◌⊎◌, ℕ, ◌+◌, ◌<◌, ◌≤◌, nat_lt, ◌&&◌, Bool, true, false, List, [], ◌∷◌, ◌++◌, length, Option, Some, None, IfSome, Result, Ok, Err}
use Rattle.std.specs.Io.KnownBytes.{prepend_known}
use Rattle.route_io.specs.Sources.{SourceState}
use Rattle.arc_graph.specs.declared.change.Change.{Change}
use Rattle.arc_graph.specs.History.{History, Operator, max_pending, sets}
use Rattle.line_text.specs.Lines.{first_lf, lines_ended, lines_of}
use Rattle.line_text.specs.Marks.{first_fault}
use Rattle.line_text.specs.Reading.{InLimits, KnowsEnd, Lines, TakesLine}
use Rattle.line_text.specs.declared.limits.LineFault.{LineFault}
use Rattle.epoch_follow.specs.declared.due.Due.{Due}
use Rattle.epoch_follow.specs.declared.due.Due.TheVariants as due
use Rattle.epoch_follow.specs.declared.feed_end.FeedEnd.{FeedEnd}
use Rattle.epoch_follow.specs.declared.feed_end.FeedEnd.TheVariants.{Whole, Cut, Read, OutOfMemory}
use Rattle.epoch_follow.specs.Runs.{Place, State, Step, begun, behind_line, end_by, last_epoch, number_in, run_lines}
use Rattle.epoch_follow.specs.Runs.Place.{First, Between, Within}
use Rattle.epoch_follow.specs.Runs.Step.{GoesOn, Ends}
use Rattle.epoch_follow.specs.Takes.{is_read}
use Rattle.epoch_follow.specs.Text.{FeedHead}

-- ---- fields

-- the test that there are as many fields as tests, and each field meets its test
abbrev pub meets : List (List ℕ → Bool) → List (List ℕ) → Bool
meets [] [] = true
meets [] (field ∷ fields) = false
meets (test ∷ tests) [] = false
meets (test ∷ tests) (field ∷ fields) = test field && meets tests fields

-- no fields meet these tests of which the first is this one
abbrev pub NoneMeets : (List ℕ → Bool) → List (List ℕ) → Type 0
NoneMeets test fields = (tests : List (List ℕ → Bool)) → meets (test ∷ tests) fields ≡ false

-- the first field meets the test, and these are the others
abbrev pub FirstMeets : (List ℕ → Bool) → List (List ℕ) → List (List ℕ) → Type 0
FirstMeets test fields others = (tests : List (List ℕ → Bool)) → meets (test ∷ tests) fields ≡ meets tests others

-- the number that the first of these fields writes, where it is in range
abbrev pub front_in : ℕ → ℕ → List (List ℕ) → Option ℕ
front_in least greatest [] = None
front_in least greatest (field ∷ fields) = number_in least greatest field

-- The first of these fields writes this number, which is in range, and the others stand behind it.
pub record FirstIn (least greatest : ℕ) (fields : List (List ℕ)) (number : ℕ) (others : List (List ℕ)) : Type 0 where
  pub field : List ℕ
  pub parts : fields ≡ field ∷ others
  pub writes : number_in least greatest field ≡ Some number

-- ---- one line

-- the place of the next line, where these changes of its message are pending
abbrev pub place_of : Due → List Change → Place
place_of due.First pending = First
place_of due.Begin pending = Between
place_of (due.Within epoch left) pending =
    Within (record { epoch = epoch; due = length pending + left; changes = pending })

-- what the operator has is what is due after: a message that has begun is of the next epoch at most, and nothing else is pending
abbrev pub Awaits : FeedHead → Operator → Due → Type 0
Awaits head operator due.First = operator.pending ≡ []
Awaits head operator due.Begin = operator.pending ≡ []
Awaits head operator (due.Within epoch left) =
    (epoch ≤ last_epoch head operator.published + 1) × (length operator.pending + left ≤ max_pending)

-- the test that a step takes memory: one change more is pending, or one set more is published
abbrev pub needs_memory : History → Step → Bool
needs_memory h (Ends end) = false
needs_memory h (GoesOn new First) = false
needs_memory h (GoesOn new Between) = nat_lt (sets h) (sets new)
needs_memory h (GoesOn new (Within m)) = nat_lt 0 (length m.changes)

-- what a line with these fields does, by the answer to it
abbrev pub LineTells : FeedHead → ℕ → Operator → Due → List (List ℕ) → Operator → Result Due FeedEnd → Type 0
LineTells head n old due fields new (Ok next) =
    (behind_line head n old.published (place_of due old.pending) fields ≡ GoesOn new.published (place_of next new.pending))
    × Awaits head new next
LineTells head n old due fields new (Err (OutOfMemory want)) =
    (needs_memory old.published (behind_line head n old.published (place_of due old.pending) fields) ≡ true)
    × (new.published ≡ old.published)
LineTells head n old due fields new (Err end) =
    (behind_line head n old.published (place_of due old.pending) fields ≡ Ends end) × (new.published ≡ old.published)

-- ---- all lines

-- what is left of a feed: what the reader holds, and then what the source has left
abbrev pub rest_behind : Lines → SourceState → Option (List ℕ)
rest_behind lines source = prepend_known lines.held source.left

-- No line was taken, and all of the rest is left.
pub record LeavesRest (old new : Lines) (rest : List ℕ) (after : Option (List ℕ)) : Type 0 where
  pub passed : new.passed ≡ old.passed
  pub left : after ≡ Some rest

-- The next line breaks a limit, and the feed ends by that.
pub record BreaksBy (old new : Lines) (rest : List ℕ) (after : Option (List ℕ)) (end : FeedEnd) : Type 0 where
  pub fault : LineFault
  pub some : 0 < length rest
  pub broken : first_fault old.limits old.passed rest ≡ Some fault
  pub known : end ≡ end_by fault (old.number + 1)
  pub leaves : LeavesRest old new rest after

-- The source failed before the end of its input, where no whole line was held.
pub record FailsBefore (old new : Lines) (rest : List ℕ) (after : Option (List ℕ)) : Type 0 where
  pub part : first_lf new.held ≡ length new.held
  pub more : old.ended ≡ false
  pub leaves : LeavesRest old new rest after

-- what the answer to the next line says of the rest
abbrev pub NextTells : Lines → Lines → List ℕ → Option (List ℕ) → Result Bool FeedEnd → Type 0
NextTells old new rest after (Ok true) = TakesLine old new rest after
NextTells old new rest after (Ok false) = (rest ≡ []) × LeavesRest old new rest after
NextTells old new rest after (Err Read) = FailsBefore old new rest after
NextTells old new rest after (Err end) = BreaksBy old new rest after end

-- What the next line does to a reader and a source, in which the reader knows the end of its input.
pub record ReadsOn (old new : Lines) (before after : SourceState) (result : Result Bool FeedEnd) : Type 0 where
  pub limits : new.limits ≡ old.limits
  pub in_limits : InLimits new
  pub knows_end : KnowsEnd new after
  pub tells : IfSome (rest_behind old before) (λ rest. NextTells old new rest (rest_behind new after) result)

-- what stands before the next line
abbrev pub state_of : Operator → Due → Lines → State
state_of operator due lines = record {
  history = operator.published;
  place = place_of due operator.pending;
  number = lines.number;
  passed = lines.passed;
}

-- The first lines of a feed led to this state, and the others are those of the rest. An LF ends each of them, but for the last
-- one at the end of input.
pub record HasRun (head : FeedHead) (total : ℕ) (old : History) (bytes : List ℕ) (state : State) (ended : Bool) (rest : List ℕ)
    : Type 0 where
  pub taken : List (List ℕ)
  pub parts : lines_of bytes ≡ taken ++ lines_of rest
  pub passed : List ℕ
  pub behind : bytes ≡ passed ++ rest
  pub size : length passed ≡ state.passed
  pub count : (lines_ended passed ≡ length taken) ⊎ ((rest ≡ []) × (ended ≡ true))
  pub runs : (more : List (List ℕ))
      → run_lines head total (length bytes) (begun old) (taken ++ more) ≡ run_lines head total (length bytes) state more

-- the end of a feed where the input ends, by what is due
abbrev pub end_due : Due → FeedEnd
end_due due.First = Cut
end_due due.Begin = Whole
end_due (due.Within epoch left) = Cut

-- the end of a feed whose lines were taken
abbrev pub end_of : Result Due FeedEnd → FeedEnd
end_of (Ok due) = end_due due
end_of (Err end) = end

-- the test that this answer says that the source failed
abbrev pub has_read_fault : {T : Type 0} → Result T FeedEnd → Bool
has_read_fault (Ok value) = false
has_read_fault (Err end) = is_read end
