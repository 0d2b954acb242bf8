-- What ends a feed at a line.
use Rattle.std.proofs.Common.{◌≡◌, ℕ, ◌+◌, ◌<◌, ◌≤◌, Bool, true, false, List, [], ◌∷◌, ◌++◌, Option, Some, None, cond, eqb, ltb, length, length-append, refl, sym, ap, subst, ◌∙◌, arith}
use Rattle.std.proofs.lemmas.Bool.Decides.{nat_tests}
use Rattle.arc_graph.specs.declared.change.Change.{Change}
use Rattle.arc_graph.specs.History.{History, sets}
use Rattle.arc_graph.specs.History.HistoryEntry.{Changes}
use Rattle.arc_graph.proofs.HistoryLemmas.{count_with_set}
use Rattle.line_text.specs.Fields.{fields_of}
use Rattle.line_text.specs.Lines.{lines_of, without_cr}
use Rattle.line_text.specs.Marks.{line_fault}
use Rattle.line_text.specs.declared.limits.LineFault.{LineFault}
use Rattle.line_text.specs.declared.limits.LineFault.TheVariants as fault
use Rattle.epoch_follow.specs.declared.feed_end.FeedEnd.{FeedEnd}
use Rattle.epoch_follow.specs.declared.feed_end.FeedEnd.TheVariants.{Bad, Gap, Long}
use Rattle.epoch_follow.specs.Runs.{FeedRun, Message, Place, State, Step, begun, behind_begin, behind_change, behind_end, behind_first, behind_line, begin_from, change_from, end_at, feed_limits, feed_run, is_end as ends_message, is_head, last_epoch, run_lines, size_in, step_of, unless_broken}
use Rattle.epoch_follow.specs.Runs.Place.{First, Between, Within}
use Rattle.epoch_follow.specs.Runs.Step.{GoesOn, Ends}
use Rattle.epoch_follow.specs.Reads.{needs_memory}
use Rattle.epoch_follow.specs.Takes.{takes_memory}
use Rattle.epoch_follow.specs.Text.{FeedHead}
use Rattle.epoch_follow.proofs.RunLemmas.{behind, run_ends, run_goes}

-- the ends that a line's fields make: it is bad, or stands behind a gap
pub data IsRefusal : FeedEnd → Type 0 where
  bad : {n : ℕ} → IsRefusal (Bad n)
  gap : {n : ℕ} → IsRefusal (Gap n)

ends_so : (s : FeedEnd) (end : FeedEnd) → IsRefusal s → Ends s ≡ Ends end → IsRefusal end
ends_so s end refused e = subst IsRefusal (let same : s ≡ end = cc in same) refused

module _ (head : FeedHead) (n : ℕ) (h : History) (end : FeedEnd) where
  by_first : (is : Bool) → behind_first n h is ≡ Ends end → IsRefusal end
  by_first true e = absurd cc
  by_first false e = ends_so (Bad n) end bad e

  by_begin : (begins : Option (ℕ × ℕ)) → behind_begin head n h begins ≡ Ends end → IsRefusal end
  by_begin None e = ends_so (Bad n) end bad e
  by_begin (Some (epoch, due)) e = by_far (ltb (last_epoch head h + 1) epoch) e where
    by_far : (far : Bool) → cond far (Ends (Gap n)) (GoesOn h (Within (record { epoch = epoch; due = due; changes = [] }))) ≡ Ends end → IsRefusal end
    by_far true e = ends_so (Gap n) end gap e
    by_far false e = absurd cc

  by_change : (m : Message) (change : Option Change) → behind_change n h m change ≡ Ends end → IsRefusal end
  by_change m None e = ends_so (Bad n) end bad e
  by_change m (Some c) e = absurd cc

  by_end : (m : Message) (is : Bool) → behind_end head n h m is ≡ Ends end → IsRefusal end
  by_end m true e = absurd cc
  by_end m false e = ends_so (Bad n) end bad e

  -- the fields of a line end a feed in no other way
  pub is_refusal : (place : Place) (fields : List (List ℕ)) → behind_line head n h place fields ≡ Ends end → IsRefusal end
  is_refusal First fields e = by_first (is_head head fields) e
  is_refusal Between fields e = by_begin (begin_from fields) e
  is_refusal (Within m) fields e = by_more (ltb (length m.changes) m.due) e where
    by_more : (more : Bool) → cond more (behind_change n h m (change_from head fields)) (behind_end head n h m (ends_message m.epoch fields)) ≡ Ends end
        → IsRefusal end
    by_more true e = by_change m (change_from head fields) e
    by_more false e = by_end m (ends_message m.epoch fields) e

-- ---- lines that take memory

module _ (head : FeedHead) (n : ℕ) (h new : History) where
  abbrev changes_at : Place → ℕ
  changes_at First = 0
  changes_at Between = 0
  changes_at (Within m) = length m.changes

  begun_empty : (begins : Option (ℕ × ℕ)) (m : Message) → behind_begin head n h begins ≡ GoesOn new (Within m) → length m.changes ≡ 0
  begun_empty None m e = absurd cc
  begun_empty (Some (epoch, due)) m e = by_far (ltb (last_epoch head h + 1) epoch) e where
    by_far : (far : Bool) → cond far (Ends (Gap n)) (GoesOn h (Within (record { epoch = epoch; due = due; changes = [] }))) ≡ GoesOn new (Within m)
        → length m.changes ≡ 0
    by_far true e = absurd cc
    by_far false e = let same : Within (record { epoch = epoch; due = due; changes = [] }) ≡ Within m = cc e in ap changes_at (sym same)

  begun_within : (is : Bool) (m : Message) → behind_first n h is ≡ GoesOn new (Within m) → ⊥
  begun_within true m e = cc
  begun_within false m e = cc

  -- a step that takes memory leads from one run to another
  pub memory_taken : (place next : Place) (fields : List (List ℕ)) → behind_line head n h place fields ≡ GoesOn new next
      → needs_memory h (GoesOn new next) ≡ true
      → takes_memory (record { history = h; end = end_at place }) (record { history = new; end = end_at next }) ≡ true
  memory_taken place First fields e needs = absurd cc
  memory_taken place Between fields e needs = needs
  memory_taken First (Within m) fields e needs = absurd (begun_within (is_head head fields) m e)
  memory_taken Between (Within m) fields e needs =
      let none = begun_empty (begin_from fields) m e in
      let some : 0 < length m.changes = grind (arith, nat_tests) in absurd (omega (arith, none, some))
  memory_taken (Within before) (Within m) fields e needs = refl

module _ (head : FeedHead) (n : ℕ) (h : History) (epoch : ℕ) (pending : List Change) (fields : List (List ℕ)) where
  abbrev message_so : ℕ → List Change → Message
  message_so left cs = record { epoch = epoch; due = length pending + left; changes = cs }

  -- a change takes memory
  pub change_needs : (left : ℕ) (change : Change) → 0 < left → change_from head fields ≡ Some change
      → needs_memory h (behind_line head n h (Within (message_so left pending)) fields) ≡ true
  change_needs left change some is =
      let m = message_so left pending in
      let more : ltb (length pending) (length pending + left) ≡ true = grind (arith, nat_tests) in
      let goes : behind_line head n h (Within m) fields ≡ GoesOn h (Within (message_so left (pending ++ change ∷ []))) =
      ap (λ b. cond b (behind_change n h m (change_from head fields)) (behind_end head n h m (ends_message epoch fields))) more
      ∙ ap (behind_change n h m) is in
      let any : ltb 0 (length (pending ++ change ∷ [])) ≡ true = let size = length-append pending (change ∷ []) in grind (arith, nat_tests) in
      ap (needs_memory h) goes ∙ any

  -- the end of the next epoch's message takes memory
  pub end_needs : epoch ≡ last_epoch head h + 1 → ends_message epoch fields ≡ true
      → needs_memory h (behind_line head n h (Within (message_so 0 pending)) fields) ≡ true
  end_needs next is =
      let m = message_so 0 pending in
      let whole : ltb (length pending) (length pending + 0) ≡ false = grind (arith, nat_tests) in
      let last : eqb epoch (last_epoch head h + 1) ≡ true = grind (arith, nat_tests) in
      let goes : behind_line head n h (Within m) fields ≡ GoesOn (h ++ Changes pending ∷ []) Between =
      ap (λ b. cond b (behind_change n h m (change_from head fields)) (behind_end head n h m (ends_message epoch fields))) whole
      ∙ ap (behind_end head n h m) is ∙ ap (λ b. GoesOn (cond b (h ++ Changes pending ∷ []) h) Between) last in
      let more : ltb (sets h) (sets (h ++ Changes pending ∷ [])) ≡ true = let size = count_with_set h pending in grind (arith, nat_tests) in
      ap (needs_memory h) goes ∙ more

-- ---- feeds that aren't longer than may be taken

not_long : {end : FeedEnd} → IsRefusal end → end ≡ Long → ⊥
not_long bad e = cc
not_long gap e = cc

within_total : (total passed raw size : ℕ) → passed + size ≤ total → line_fault (feed_limits total) passed raw size ≡ Some fault.Total → ⊥
within_total total passed raw size short e = grind (arith, nat_tests)

module _ (head : FeedHead) (total size : ℕ) (short : size ≤ total) where
  step_short : (state : State) (line : List ℕ) → state.passed ≤ size → step_of head total size state line ≡ Ends Long → ⊥
  step_short state line within e =
      by (line_fault (feed_limits total) state.passed (length line) (size_in size state.passed line)) refl e where
        n : ℕ
        n = state.number + 1

        does : Step
        does = behind_line head n state.history state.place (fields_of (without_cr line))

        by : (f : Option LineFault) → line_fault (feed_limits total) state.passed (length line) (size_in size state.passed line) ≡ f
            → unless_broken n f does ≡ Ends Long → ⊥
        by None is e = not_long (is_refusal head n state.history Long state.place (fields_of (without_cr line)) e) refl
        by (Some fault.TooLong) is e = cc
        by (Some fault.Total) is e = within_total total state.passed (length line) (size_in size state.passed line) (omega (arith, within, short)) is
        by (Some fault.Read) is e = cc

  run_short : (state : State) (lines : List (List ℕ)) → state.passed ≤ size → (run_lines head total size state lines).end ≡ Long → ⊥
  run_short state [] within e = at state.place e where
    at : (place : Place) → end_at place ≡ Long → ⊥
    at First e = cc
    at Between e = cc
    at (Within m) e = cc
  run_short state (line ∷ lines) within e =
      by (step_of head total size state line) refl
      (λ h place. run_short (behind head total size state line h place) lines (omega (arith, within))) where
        by : (s : Step) → step_of head total size state line ≡ s
            → ((h : History) (place : Place) → (run_lines head total size (behind head total size state line h place) lines).end ≡ Long → ⊥) → ⊥
        by (Ends end) is onward =
            let long : end ≡ Long = sym (ap (λ (r : FeedRun). r.end) (run_ends head total size state line lines end is)) ∙ e in
            step_short state line within (is ∙ ap Ends long)
        by (GoesOn h place) is onward =
            onward h place (sym (ap (λ (r : FeedRun). r.end) (run_goes head total size state line lines h place is)) ∙ e)

-- they aren't told to be
pub never_long : (head : FeedHead) (total : ℕ) (old : History) (bytes : List ℕ) → length bytes ≤ total → (feed_run head total old bytes).end ≡ Long → ⊥
never_long head total old bytes short long = run_short head total (length bytes) short (begun old) (lines_of bytes) (omega arith) long
