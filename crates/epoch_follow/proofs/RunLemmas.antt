-- The run of a feed, line by line.
use Rattle.std.proofs.Common.{◌≡◌, ◌⊎◌, inl, inr, ⊎_elim, ℕ, ◌+◌, ◌-◌, ◌<◌, ◌≤◌, min, Bool, true, false, List, [], ◌∷◌, ◌++◌, Option, Some, None, filter, length, take, refl, sym, ap, ◌∙◌, arith, append_assoc, append-nil, length-append}
use Rattle.std.proofs.Math.Seq.{take-append_seam}
use Rattle.std.proofs.lemmas.Bool.{cases_lt}
use Rattle.std.proofs.lemmas.List.{length-drop, length-take, nil_from_length, take-append-drop}
use Rattle.std.proofs.lemmas.List.Elements.{filter-append}
use Rattle.arc_graph.specs.declared.change.Change.{Change}
use Rattle.arc_graph.specs.History.{History}
use Rattle.line_text.specs.Fields.{fields_of}
use Rattle.line_text.specs.Lines.{is_lf, first_lf, raw_line, after_line, line_size, lines_ended, lines_of, without_cr}
use Rattle.line_text.specs.Marks.{first_fault, line_fault}
use Rattle.line_text.specs.declared.limits.LineFault.{LineFault}
use Rattle.line_text.proofs.LineLemmas.{first_lf-le, length-raw_line, one_ended}
use Rattle.epoch_follow.specs.declared.due.Due.{Due}
use Rattle.epoch_follow.specs.declared.due.Due.TheVariants as due
use Rattle.epoch_follow.specs.declared.feed_end.FeedEnd.{FeedEnd}
use Rattle.epoch_follow.specs.declared.feed_end.FeedEnd.TheVariants.{Whole, Cut, Bad, Gap, Long, Read, OutOfMemory}
use Rattle.epoch_follow.specs.Reads.{HasRun, end_due, place_of}
use Rattle.epoch_follow.specs.Runs.{FeedRun, Place, State, Step, begun, behind_line, end_at, end_by, feed_limits, feed_run, go_on, run_lines, size_in, step_of, unless_broken}
use Rattle.epoch_follow.specs.Runs.Place.{First, Between, Within}
use Rattle.epoch_follow.specs.Runs.Step.{GoesOn, Ends}
use Rattle.epoch_follow.specs.Takes.{LeadsOn, RunsTo, first_run, front_run, goes_on}
use Rattle.epoch_follow.specs.Text.{FeedHead}

-- the end where the input ends is that of the place
pub end_is : (d : Due) (pending : List Change) → end_at (place_of d pending) ≡ end_due d
end_is due.First pending = refl
end_is due.Begin pending = refl
end_is (due.Within epoch left) pending = refl

-- no line has ended a feed that stands at a place
pub place_goes_on : (place : Place) → goes_on (end_at place) ≡ true
place_goes_on First = refl
place_goes_on Between = refl
place_goes_on (Within m) = refl

-- a run that is known is what a feed comes to
pub runs_to : (head : FeedHead) (total : ℕ) (old : History) (bytes : List ℕ) (new : History) (end : FeedEnd)
    → feed_run head total old bytes ≡ record { history = new; end = end } → RunsTo head total old bytes end new
runs_to head total old bytes new Whole e = e
runs_to head total old bytes new Cut e = e
runs_to head total old bytes new (Bad line) e = e
runs_to head total old bytes new (Gap line) e = e
runs_to head total old bytes new Long e = e
runs_to head total old bytes new Read e = tt
runs_to head total old bytes new (OutOfMemory want) e = tt

abbrev state_with : History → Place → ℕ → ℕ → State
state_with h place number passed = record { history = h; place = place; number = number; passed = passed }

module _ (head : FeedHead) (total size : ℕ) (state : State) (line : List ℕ) where
  -- the state behind the line, with this history and this place
  abbrev pub behind : History → Place → State
  behind h place = record { history = h; place = place; number = state.number + 1; passed = state.passed + size_in size state.passed line }

  abbrev fault : Option LineFault
  fault = line_fault (feed_limits total) state.passed (length line) (size_in size state.passed line)

  abbrev does : Step
  does = behind_line head (state.number + 1) state.history state.place (fields_of (without_cr line))

  -- a line that breaks no limit does what its fields say
  pub step_is : fault ≡ None → (step : Step) → does ≡ step → step_of head total size state line ≡ step
  step_is none step e = ap (λ f. unless_broken (state.number + 1) f does) none ∙ e

  -- one that breaks a limit ends the feed
  pub step_breaks : (broken : LineFault) → fault ≡ Some broken → step_of head total size state line ≡ Ends (end_by broken (state.number + 1))
  step_breaks broken some = ap (λ f. unless_broken (state.number + 1) f does) some

  module _ (lines : List (List ℕ)) where
    pub run_goes : (h : History) (place : Place) → step_of head total size state line ≡ GoesOn h place
        → run_lines head total size state (line ∷ lines) ≡ run_lines head total size (behind h place) lines
    run_goes h place e = ap (λ s. go_on state.history s (λ h place. run_lines head total size (behind h place) lines)) e

    pub run_ends : (end : FeedEnd) → step_of head total size state line ≡ Ends end
        → run_lines head total size state (line ∷ lines) ≡ record { history = state.history; end = end }
    run_ends end e = ap (λ s. go_on state.history s (λ h place. run_lines head total size (behind h place) lines)) e

same_state : (h : History) (place : Place) (n m p q : ℕ) → n ≡ m → p ≡ q → state_with h place n p ≡ state_with h place m q
same_state h place n m p q a b = ap (λ k. state_with h place k p) a ∙ ap (state_with h place m) b

-- a feed before its first line
pub run_begun : (head : FeedHead) (total : ℕ) (old : History) (bytes : List ℕ) → HasRun head total old bytes (begun old) false bytes
run_begun head total old bytes =
    record { taken = []; parts = refl; passed = []; behind = refl; size = refl; count = inl refl; runs = λ more. refl }

-- bytes in which no line ends lead no further
pub leads_behind : (head : FeedHead) (total : ℕ) (old : History) (bytes front more : List ℕ) (now : History) → lines_ended more ≡ 0
    → LeadsOn head total old bytes front now → LeadsOn head total old bytes (front ++ more) now
leads_behind head total old bytes front more now none leads =
    let same : lines_ended (front ++ more) ≡ lines_ended front =
    omega (arith, none, ap length (filter-append is_lf front more), length-append (filter is_lf front) (filter is_lf more)) in
    let run : ℕ → FeedRun = λ n. run_lines head total (length bytes) (begun old) (take n (lines_of bytes)) in record {
      history = ap (λ n. (run n).history) same ∙ leads.history;
      goes_on = ap (λ n. goes_on (run n).end) same ∙ leads.goes_on;
    }

module _ (head : FeedHead) (total : ℕ) (old : History) (bytes : List ℕ) (state : State) (ended : Bool) (rest : List ℕ)
    (run : HasRun head total old bytes state ended rest) where
  abbrev size : ℕ
  size = length bytes

  all_size : size ≡ state.passed + length rest
  all_size = omega (arith, ap length run.behind, length-append run.passed rest, run.size)

  run_is : feed_run head total old bytes ≡ run_lines head total size state (lines_of rest)
  run_is = ap (run_lines head total size (begun old)) run.parts ∙ run.runs (lines_of rest)

  -- no line is left
  pub run_done : rest ≡ [] → RunsTo head total old bytes (end_at state.place) state.history
  run_done none = runs_to head total old bytes state.history (end_at state.place) (run_is ∙ ap (λ r. run_lines head total size state (lines_of r)) none)

  -- an LF ends each line so far
  pub all_ended : (0 < length rest) ⊎ (ended ≡ false) → lines_ended run.passed ≡ length run.taken
  all_ended more = by run.count more where
    by : (lines_ended run.passed ≡ length run.taken) ⊎ ((rest ≡ []) × (ended ≡ true)) → (0 < length rest) ⊎ (ended ≡ false)
        → lines_ended run.passed ≡ length run.taken
    by (inl count) more = count
    by (inr last) (inl some) = absurd (omega (arith, some, ap length last.0))
    by (inr last) (inr going) = let both : true ≡ false = sym last.1 ∙ going in absurd cc

  -- what the lines so far led to
  pub run_so_far : lines_ended run.passed ≡ length run.taken
      → front_run head total old bytes run.passed ≡ record { history = state.history; end = end_at state.place }
  run_so_far count =
      ap (λ n. run_lines head total size (begun old) (take n (lines_of bytes))) count
      ∙ ap (λ ls. run_lines head total size (begun old) (take (length run.taken) ls)) run.parts
      ∙ ap (run_lines head total size (begun old)) (take-append_seam run.taken (lines_of rest) ∙ sym (append-nil run.taken)) ∙ run.runs []

  pub leads_on : lines_ended run.passed ≡ length run.taken → LeadsOn head total old bytes run.passed state.history
  leads_on count =
      let is = run_so_far count in
      record { history = ap (λ r. r.history) is; goes_on = ap (λ r. goes_on r.end) is ∙ place_goes_on state.place }

  size_is : size_in size state.passed (raw_line rest) ≡ line_size rest
  size_is =
      let left : size - state.passed ≡ length rest = omega (arith, all_size) in
      ap (min (length (raw_line rest) + 1)) left

  fault_is : line_fault (feed_limits total) state.passed (length (raw_line rest)) (size_in size state.passed (raw_line rest))
      ≡ first_fault (feed_limits total) state.passed rest
  fault_is = ap (line_fault (feed_limits total) state.passed (length (raw_line rest))) size_is

  module _ (lines : lines_of rest ≡ raw_line rest ∷ lines_of (after_line rest)) where
    some_left : 0 < length rest
    some_left = by rest lines where
      by : (r : List ℕ) → lines_of r ≡ raw_line rest ∷ lines_of (after_line rest) → 0 < length r
      by [] e = absurd cc
      by (byte ∷ r) e = omega arith

    -- the next line ends the feed
    pub run_stops : (end : FeedEnd) → step_of head total size state (raw_line rest) ≡ Ends end → RunsTo head total old bytes end state.history
    run_stops end e =
        runs_to head total old bytes state.history end
        (run_is ∙ ap (run_lines head total size state) lines ∙ run_ends head total size state (raw_line rest) (lines_of (after_line rest)) end e)

    -- it breaks a limit
    pub run_breaks : (broken : LineFault) → first_fault (feed_limits total) state.passed rest ≡ Some broken
        → RunsTo head total old bytes (end_by broken (state.number + 1)) state.history
    run_breaks broken e = run_stops (end_by broken (state.number + 1)) (step_breaks head total size state (raw_line rest) broken (fault_is ∙ e))

    -- it breaks none
    module _ (none : first_fault (feed_limits total) state.passed rest ≡ None) where
      abbrev step : Step
      step = behind_line head (state.number + 1) state.history state.place (fields_of (without_cr (raw_line rest)))

      pub run_stops_by : (end : FeedEnd) → step ≡ Ends end → RunsTo head total old bytes end state.history
      run_stops_by end e = run_stops end (step_is head total size state (raw_line rest) (fault_is ∙ none) (Ends end) e)

      -- one line more of the run
      pub run_one_more : lines_ended run.passed ≡ length run.taken → (h : History) (place : Place) → step ≡ GoesOn h place
          → first_run head total old bytes (lines_ended run.passed + 1) ≡ record { history = h; end = end_at place }
      run_one_more count h place e =
          let one : List (List ℕ) = raw_line rest ∷ [] in
          let size_one : lines_ended run.passed + 1 ≡ length (run.taken ++ one) = omega (arith, count, length-append run.taken one) in
          let parts : lines_of bytes ≡ (run.taken ++ one) ++ lines_of (after_line rest) =
          run.parts ∙ ap (λ ls. run.taken ++ ls) lines ∙ sym (append_assoc run.taken one (lines_of (after_line rest))) in
          ap (λ n. run_lines head total size (begun old) (take n (lines_of bytes))) size_one
          ∙ ap (λ ls. run_lines head total size (begun old) (take (length (run.taken ++ one)) ls)) parts
          ∙ ap (run_lines head total size (begun old)) (take-append_seam (run.taken ++ one) (lines_of (after_line rest))) ∙ run.runs one
          ∙ run_goes head total size state (raw_line rest) [] h place (step_is head total size state (raw_line rest) (fault_is ∙ none) (GoesOn h place) e)

      -- the line is there
      pub one_there : lines_ended run.passed ≡ length run.taken → lines_ended run.passed < length (lines_of bytes)
      one_there count = omega (arith, count, ap length run.parts, ap length lines, length-append run.taken (lines_of rest))

      abbrev line : List ℕ
      line = take (first_lf rest + 1) rest

      -- the line ends by an LF, unless it is the last one
      count_more : (new_ended : Bool) → (first_lf rest ≡ length rest → new_ended ≡ true)
          → (lines_ended (run.passed ++ line) ≡ length (run.taken ++ raw_line rest ∷ [])) ⊎ ((after_line rest ≡ []) × (new_ended ≡ true))
      count_more new_ended last = ⊎_elim whole part (cases_lt (first_lf rest) (length rest)) where
        whole : first_lf rest < length rest → (lines_ended (run.passed ++ line) ≡ length (run.taken ++ raw_line rest ∷ [])) ⊎ ((after_line rest ≡ []) × (new_ended ≡ true))
        whole within = inl (omega (
          arith,
          all_ended (inl some_left),
          one_ended rest within,
          ap length (filter-append is_lf run.passed line),
          length-append (filter is_lf run.passed) (filter is_lf line),
          length-append run.taken (raw_line rest ∷ []),
        ))

        part : length rest ≤ first_lf rest → (lines_ended (run.passed ++ line) ≡ length (run.taken ++ raw_line rest ∷ [])) ⊎ ((after_line rest ≡ []) × (new_ended ≡ true))
        part behind = inr (
          nil_from_length (after_line rest) (omega (arith, behind, length-drop (first_lf rest + 1) rest)),
          last (omega (arith, behind, first_lf-le rest)),
        )

      pub run_more : (new : State) (new_ended : Bool) → step ≡ GoesOn new.history new.place → new.number ≡ state.number + 1
          → new.passed ≡ state.passed + line_size rest → (first_lf rest ≡ length rest → new_ended ≡ true)
          → HasRun head total old bytes new new_ended (after_line rest)
      run_more new new_ended e number passed last = record {
        taken = run.taken ++ raw_line rest ∷ [];
        parts = run.parts ∙ ap (λ ls. run.taken ++ ls) lines ∙ sym (append_assoc run.taken (raw_line rest ∷ []) (lines_of (after_line rest)));
        passed = run.passed ++ line;
        behind = run.behind ∙ ap (λ xs. run.passed ++ xs) (sym (take-append-drop (first_lf rest + 1) rest)) ∙ sym (append_assoc run.passed line (after_line rest));
        size = omega (arith, run.size, passed, length-append run.passed line, length-take (first_lf rest + 1) rest, length-raw_line rest, first_lf-le rest);
        count = count_more new_ended last;
        runs = λ more.
            ap (run_lines head total size (begun old)) (append_assoc run.taken (raw_line rest ∷ []) more) ∙ run.runs (raw_line rest ∷ more)
            ∙ run_goes head total size state (raw_line rest) more new.history new.place
            (step_is head total size state (raw_line rest) (fault_is ∙ none) (GoesOn new.history new.place) e)
            ∙ ap (λ s. run_lines head total size s more)
            (same_state new.history new.place (state.number + 1) new.number _ new.passed (sym number) (ap (λ n. state.passed + n) size_is ∙ sym passed));
      }
