-- What a feed says to a follower: a fold over its lines.
use Rattle.std.specs.Prelude.{ℕ, ◌+◌, ◌-◌, ◌==◌, ◌&&◌, nat_le, nat_lt, min, sum, if◌then◌else◌, Bool, false, List, [], ◌∷◌, ◌++◌}
use Rattle.std.specs.Prelude.{length, codes, Option, Some, None}
use Rattle.std.specs.Option.{option_and_then}
use Rattle.std.specs.Str.{bytes_eq}
use Rattle.arc_graph.specs.declared.change.Change.{Change}
use Rattle.arc_graph.specs.History.{History, max_pending, number_after, sets}
use Rattle.arc_graph.specs.History.HistoryEntry.{Changes}
use Rattle.line_text.specs.Fields.{fields_of}
use Rattle.line_text.specs.Lines.{lines_of, without_cr}
use Rattle.line_text.specs.Marks.{line_fault}
use Rattle.line_text.specs.Numerals.{is_digits, value_of}
use Rattle.line_text.specs.declared.limits.LineFault.{LineFault}
use Rattle.line_text.specs.declared.limits.LineFault.TheVariants as fault
use Rattle.line_text.specs.declared.limits.LineLimits.{LineLimits}
use Rattle.road_network.specs.Limits.{max_epoch}
use Rattle.session_requests.specs.Readings.{operator_behind, pair_of}
use Rattle.session_requests.specs.declared.operator.OperatorRequest.{OperatorRequest}
use Rattle.session_requests.specs.declared.operator.OperatorRequest.TheVariants as asks
use Rattle.epoch_follow.specs.declared.feed_end.FeedEnd.{FeedEnd}
use Rattle.epoch_follow.specs.declared.feed_end.FeedEnd.TheVariants.{Whole, Cut, Bad, Gap, Long, Read}
use Rattle.epoch_follow.specs.Text.{FeedHead}

-- a line has at most 1,024 bytes, and the whole feed at most `total`
abbrev pub feed_limits : ℕ → LineLimits
feed_limits total = record { line = 1024; total = total }

-- ---- lines

-- the number that a field writes in digits, where it is from `least` to `greatest`
abbrev pub number_in : ℕ → ℕ → List ℕ → Option ℕ
number_in least greatest field =
    if is_digits field && (nat_le least (value_of field) && nat_le (value_of field) greatest)
    then Some (value_of field)
    else None

-- the test that a field writes this number
abbrev pub writes : ℕ → List ℕ → Bool
writes n field = is_digits field && value_of field == n

-- the test that these fields are `feed M D B`
abbrev pub is_head : FeedHead → List (List ℕ) → Bool
is_head head (word ∷ m ∷ d ∷ b ∷ []) =
    bytes_eq word (codes "feed") && (writes head.arcs m && (writes head.criteria d && writes head.first b))
is_head head fields = false

-- the epoch and how many changes the fields `g E P` say, an epoch from 1 on
abbrev pub begin_from : List (List ℕ) → Option (ℕ × ℕ)
begin_from (word ∷ e ∷ p ∷ []) =
    if bytes_eq word (codes "g") then pair_of (number_in 1 max_epoch e) (number_in 0 max_pending p) else None
begin_from fields = None

-- the test that these fields are `end E`
abbrev pub is_end : ℕ → List (List ℕ) → Bool
is_end epoch (word ∷ e ∷ []) = bytes_eq word (codes "end") && writes epoch e
is_end epoch fields = false

-- the test that there is an arc of this number
abbrev pub is_arc : ℕ → ℕ → Bool
is_arc arcs k = nat_le 1 k && nat_le k arcs

-- the change that an operator's request asks for, where the arc is there and not all weights are 0
abbrev pub change_asked : ℕ → OperatorRequest → Option Change
change_asked arcs (asks.Set k w) =
    if is_arc arcs k && nat_lt 0 (sum w) then Some (record { arc = record { 0 = k }; weight = Some w }) else None
change_asked arcs (asks.Shut k) = if is_arc arcs k then Some (record { arc = record { 0 = k }; weight = None }) else None
change_asked arcs request = None

-- the change that the fields `s A W1 .. WD` or `x A` say, as they say it to an operator
abbrev pub change_from : FeedHead → List (List ℕ) → Option Change
change_from head [] = None
change_from head (word ∷ fields) = option_and_then (change_asked head.arcs) (operator_behind head.criteria word fields)

-- ---- one line more

-- a message that has begun: its epoch, how many changes it has, and those that have come
pub record Message : Type 0 where
  pub epoch : ℕ
  pub due : ℕ
  pub changes : List Change

-- where a line stands: first of all, between two messages, or within a message
pub data Place : Type 0 where
  First : Place
  Between : Place
  Within : Message → Place

-- what a line does: the feed goes on from a history and a place, or it ends
pub data Step : Type 0 where
  GoesOn : History → Place → Step
  Ends : FeedEnd → Step

-- the number of the last epoch, K
abbrev pub last_epoch : FeedHead → History → ℕ
last_epoch head h = number_after head.first (sets h)

-- the first line was this one, or it is bad
abbrev pub behind_first : ℕ → History → Bool → Step
behind_first n h is = if is then GoesOn h Between else Ends (Bad n)

-- a message begins, which may repeat an epoch but leave none out
abbrev pub behind_begin : FeedHead → ℕ → History → Option (ℕ × ℕ) → Step
behind_begin head n h None = Ends (Bad n)
behind_begin head n h (Some (epoch, due)) =
    if nat_lt (last_epoch head h + 1) epoch
    then Ends (Gap n)
    else GoesOn h (Within (record { epoch = epoch; due = due; changes = [] }))

-- one change more of a message has come
abbrev pub behind_change : ℕ → History → Message → Option Change → Step
behind_change n h m None = Ends (Bad n)
behind_change n h m (Some c) =
    GoesOn h (Within (record { epoch = m.epoch; due = m.due; changes = m.changes ++ c ∷ [] }))

-- the history behind a whole message: the next epoch's changes are one set more, and a repeat changes nothing
abbrev pub with_message : FeedHead → History → Message → History
with_message head h m = if m.epoch == last_epoch head h + 1 then h ++ Changes m.changes ∷ [] else h

-- the last line of a message was this one, or it is bad
abbrev pub behind_end : FeedHead → ℕ → History → Message → Bool → Step
behind_end head n h m is = if is then GoesOn (with_message head h m) Between else Ends (Bad n)

-- what line number n with these fields does, by its place
abbrev pub behind_line : FeedHead → ℕ → History → Place → List (List ℕ) → Step
behind_line head n h First fields = behind_first n h (is_head head fields)
behind_line head n h Between fields = behind_begin head n h (begin_from fields)
behind_line head n h (Within m) fields =
    if nat_lt (length m.changes) m.due
    then behind_change n h m (change_from head fields)
    else behind_end head n h m (is_end m.epoch fields)

-- ---- all lines

-- the history that a feed leads to, and how it ends
pub record FeedRun : Type 0 where
  pub history : History
  pub end : FeedEnd

-- what stands before a line: the history so far, the line's place, and how many lines and bytes
pub record State : Type 0 where
  pub history : History
  pub place : Place
  pub number : ℕ
  pub passed : ℕ

-- the end where the input ends at a place
abbrev pub end_at : Place → FeedEnd
end_at First = Cut
end_at Between = Whole
end_at (Within m) = Cut

-- the end at line number n by a fault of the reader of lines: a line too long is bad
abbrev pub end_by : LineFault → ℕ → FeedEnd
end_by fault.TooLong n = Bad n
end_by fault.Total n = Long
end_by fault.Read n = Read

-- how many bytes a line takes behind `passed` of so many in all: its LF is one of them, which the last line may lack
abbrev pub size_in : ℕ → ℕ → List ℕ → ℕ
size_in size passed line = min (length line + 1) (size - passed)

-- what a line does that breaks no limit; else the feed ends by the fault
abbrev pub unless_broken : ℕ → Option LineFault → Step → Step
unless_broken n (Some fault) step = Ends (end_by fault n)
unless_broken n None step = step

-- what a line does in a feed of so many bytes, of which at most `total` are taken
abbrev pub step_of : FeedHead → ℕ → ℕ → State → List ℕ → Step
step_of head total size state line =
    unless_broken (state.number + 1)
    (line_fault (feed_limits total) state.passed (length line) (size_in size state.passed line))
    (behind_line head (state.number + 1) state.history state.place (fields_of (without_cr line)))

-- what follows a line; at the end the history is that of before the line
abbrev pub go_on : History → Step → (History → Place → FeedRun) → FeedRun
go_on before (Ends end) onward = record { history = before; end = end }
go_on before (GoesOn h place) onward = onward h place

-- what the lines do from a state on
abbrev pub run_lines : FeedHead → ℕ → ℕ → State → List (List ℕ) → FeedRun
run_lines head total size state [] = record { history = state.history; end = end_at state.place }
run_lines head total size state (line ∷ lines) =
    go_on state.history (step_of head total size state line) (λ h place. run_lines head total size
    (record { history = h; place = place; number = state.number + 1; passed = state.passed + size_in size state.passed line }) lines)

-- what stands before the first line
abbrev pub begun : History → State
begun h = record { history = h; place = First; number = 0; passed = 0 }

-- what a feed of at most `total` bytes does to a follower with this history
abbrev pub feed_run : FeedHead → ℕ → History → List ℕ → FeedRun
feed_run head total h bytes = run_lines head total (length bytes) (begun h) (lines_of bytes)
