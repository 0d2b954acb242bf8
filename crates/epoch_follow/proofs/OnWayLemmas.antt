-- A follower that takes the lines of its leader's feed.
use Rattle.std.proofs.Common.{◌≡◌, ℕ, ◌+◌, ◌≤◌, Bool, true, false, List, [], ◌∷◌, Option, Some, None, length, refl, arith}
use Rattle.std.specs.Prelude.{if◌then◌else◌, nat_lt}
use Rattle.std.proofs.lemmas.Bool.Decides.{nat_tests}
use mathlib.Core.List.{IsPrefix}
use Rattle.arc_graph.specs.declared.change.Change.{Change}
use Rattle.arc_graph.specs.History.{History}
use Rattle.epoch_store.proofs.PrefixLemmas.{prefix_self, prefix_trans}
use Rattle.line_text.specs.Fields.{fields_of}
use Rattle.line_text.specs.Lines.{without_cr}
use Rattle.line_text.specs.Marks.{line_fault}
use Rattle.line_text.specs.declared.limits.LineFault.{LineFault}
use Rattle.epoch_follow.specs.declared.feed_end.FeedEnd.TheVariants.{Gap}
use Rattle.epoch_follow.specs.Runs.{Message, Place, State, Step, begin_from, behind_begin, behind_change, behind_end, behind_first, behind_line, change_from, feed_limits, is_end, is_head, last_epoch, run_lines, size_in, step_of, unless_broken, with_message}
use Rattle.epoch_follow.specs.Runs.Place.{First, Between, Within}
use Rattle.epoch_follow.specs.Runs.Step.{GoesOn, Ends}
use Rattle.epoch_follow.specs.Text.{FeedHead}
use Rattle.epoch_follow.proofs.LeaderLemmas.{message_grows}
use Rattle.epoch_follow.proofs.RunLemmas.{behind, run_ends, run_goes}

-- ---- any line

-- what a step says of the history
abbrev pub ForHistory : (History → Type 0) → Step → Type 0
ForHistory P (GoesOn h place) = P h
ForHistory P (Ends end) = Unit {0}

by_limits : (P : History → Type 0) (n : ℕ) (broken : Option LineFault) (step : Step) → ForHistory P step → ForHistory P (unless_broken n broken step)
by_limits P n None step holds = holds
by_limits P n (Some f) step holds = tt

module _ (head : FeedHead) (P : History → Type 0) (n : ℕ) (h : History) (holds : P h) where
  by_first : (is : Bool) → ForHistory P (behind_first n h is)
  by_first true = holds
  by_first false = tt

  by_begin : (begins : Option (ℕ × ℕ)) → ForHistory P (behind_begin head n h begins)
  by_begin None = tt
  by_begin (Some (epoch, due)) = by_test (nat_lt (last_epoch head h + 1) epoch) where
    by_test : (test : Bool) → ForHistory P (if test then Ends (Gap n) else GoesOn h (Within (record { epoch = epoch; due = due; changes = [] })))
    by_test true = tt
    by_test false = holds

  by_change : (m : Message) (change : Option Change) → ForHistory P (behind_change n h m change)
  by_change m None = tt
  by_change m (Some c) = holds

  by_end : (m : Message) → P (with_message head h m) → (is : Bool) → ForHistory P (behind_end head n h m is)
  by_end m whole true = whole
  by_end m whole false = tt

  -- within a message, of which all changes have come or not
  by_within : (m : Message) (fields : List (List ℕ)) → (m.due ≤ length m.changes → P (with_message head h m))
      → ForHistory P (behind_line head n h (Within m) fields)
  by_within m fields whole = by_test (nat_lt (length m.changes) m.due) refl where
    by_test : (test : Bool) → nat_lt (length m.changes) m.due ≡ test
        → ForHistory P (if test then behind_change n h m (change_from head fields) else behind_end head n h m (is_end m.epoch fields))
    by_test true e = by_change m (change_from head fields)
    by_test false e = by_end m (whole (grind (arith, nat_tests))) (is_end m.epoch fields)

-- what holds of the history before a line, and of it with a whole message, holds behind the line
abbrev pub AtEnd : FeedHead → (History → Type 0) → History → Place → Type 0
AtEnd head P h First = Unit {0}
AtEnd head P h Between = Unit {0}
AtEnd head P h (Within m) = m.due ≤ length m.changes → P (with_message head h m)

behind_any : (head : FeedHead) (P : History → Type 0) (n : ℕ) (h : History) (place : Place) (fields : List (List ℕ)) → P h → AtEnd head P h place
    → ForHistory P (behind_line head n h place fields)
behind_any head P n h First fields holds whole = by_first head P n h holds (is_head head fields)
behind_any head P n h Between fields holds whole = by_begin head P n h holds (begin_from fields)
behind_any head P n h (Within m) fields holds whole = by_within head P n h holds m fields whole

pub any_step : (head : FeedHead) (total size : ℕ) (P : History → Type 0) (state : State) (line : List ℕ) → P state.history
    → AtEnd head P state.history state.place → ForHistory P (step_of head total size state line)
any_step head total size P state line holds whole =
    by_limits P (state.number + 1) (line_fault (feed_limits total) state.passed (length line) (size_in size state.passed line))
    (behind_line head (state.number + 1) state.history state.place (fields_of (without_cr line)))
    (behind_any head P (state.number + 1) state.history state.place (fields_of (without_cr line)) holds whole)

-- what a run comes to, by its first step
pub by_step : (head : FeedHead) (total size : ℕ) (P : History → Type 0) (state : State) (line : List ℕ) (lines : List (List ℕ)) → P state.history
    → ForHistory P (step_of head total size state line)
    → ((h : History) (place : Place) → step_of head total size state line ≡ GoesOn h place → P h
    → P (run_lines head total size (behind head total size state line h place) lines).history)
    → P (run_lines head total size state (line ∷ lines)).history
by_step head total size P state line lines holds step onward = by_cases (step_of head total size state line) refl step where
  by_cases : (s : Step) → step_of head total size state line ≡ s → ForHistory P s → P (run_lines head total size state (line ∷ lines)).history
  by_cases (Ends end) e holds_too = rw (run_ends head total size state line lines end e) holds
  by_cases (GoesOn h place) e holds_too = rw (run_goes head total size state line lines h place e) (onward h place e holds_too)

-- a run adds to the history
pub run_grows : (head : FeedHead) (total size : ℕ) (state : State) (lines : List (List ℕ)) → IsPrefix state.history (run_lines head total size state lines).history
run_grows head total size state [] = prefix_self state.history
run_grows head total size state (line ∷ lines) =
    by_step head total size (IsPrefix state.history) state line lines (prefix_self state.history)
    (any_step head total size (IsPrefix state.history) state line (prefix_self state.history) (at_end state.place))
    (λ h place e begins. prefix_trans state.history h (run_lines head total size (behind head total size state line h place) lines).history begins
    (run_grows head total size (behind head total size state line h place) lines)) where
      at_end : (place : Place) → AtEnd head (IsPrefix state.history) state.history place
      at_end First = tt
      at_end Between = tt
      at_end (Within m) = λ all. message_grows head state.history m
