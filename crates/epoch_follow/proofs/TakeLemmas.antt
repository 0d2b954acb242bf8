-- What is known of a feed that is taken, from one line to the next, and at its end.
use Rattle.std.proofs.Common.{◌≡◌, inl, inr, ℕ, ◌+◌, ◌<◌, ◌≤◌, true, false, List, [], ◌∷◌, ◌++◌, Option, Some, None, Ok, Err, length, take, refl, sym, ap, ap₂, subst, ◌∙◌, arith, append_assoc, length-append}
use Rattle.std.specs.Prelude.{IfSome, IsSomeAnd}
use Rattle.std.specs.Io.KnownBytes.{Consumes, IsAtEnd, prepend_known}
use Rattle.std.proofs.lemmas.List.{length-take, take-append-drop}
use Rattle.arc_graph.specs.History.{History, Operator}
use Rattle.line_text.specs.Fields.{fields_of}
use Rattle.line_text.specs.Lines.{first_lf, lines_ended, raw_line, after_line, line_size, without_cr}
use Rattle.line_text.specs.Marks.{first_fault}
use Rattle.line_text.specs.Reading.{CountsLine, InLimits, Lines, TakesLine}
use Rattle.line_text.specs.declared.limits.LineFault.{LineFault}
use Rattle.line_text.specs.declared.limits.LineFault.TheVariants as fault
use Rattle.line_text.proofs.LineLemmas.{first_lf-le, length-raw_line, lines_of-first, never_read, none_ended}
use Rattle.out_of_memory.specs.declared.OutOfMemory.{OutOfMemory as Want}
use Rattle.epoch_follow.specs.declared.due.Due.{Due}
use Rattle.epoch_follow.specs.declared.due.Due.TheVariants as expected
use Rattle.epoch_follow.specs.declared.feed_end.FeedEnd.{FeedEnd}
use Rattle.epoch_follow.specs.declared.feed_end.FeedEnd.TheVariants.{Whole, Cut, Bad, Gap, Long, Read, OutOfMemory}
use Rattle.epoch_follow.specs.Reads.{BreaksBy, HasRun, LeavesRest, LineTells, NextTells, end_due, needs_memory, place_of, state_of}
use Rattle.epoch_follow.specs.Runs.{Step, begun, behind_line, end_by, feed_limits}
use Rattle.epoch_follow.specs.Runs.Step.{GoesOn, Ends}
use Rattle.epoch_follow.specs.Takes.{RunsTo, StopsBehind, TakesBytes, TakesFeed, takes_memory}
use Rattle.epoch_follow.specs.Text.{FeedHead}
use Rattle.epoch_follow.proofs.NextLemmas.{is_left, unbroken}
use Rattle.epoch_follow.proofs.RefusalLemmas.{IsRefusal, bad, gap, is_refusal, memory_taken}
use Rattle.epoch_follow.proofs.RunLemmas.{all_ended, end_is, leads_behind, leads_on, run_begun, run_breaks, run_done, run_more, run_one_more, run_so_far, run_stops_by, one_there}

-- ---- from one line to the next

-- what is known of a rest that a source tells, and of the bytes that it told at first
through : {P : List ℕ → List ℕ → Type 0} {Q R : List ℕ → Type 0} (start rest : Option (List ℕ)) → IfSome start (λ bytes. IsSomeAnd rest (P bytes))
    → IfSome rest Q → ((bytes more : List ℕ) → P bytes more → Q more → R bytes) → IfSome start R
through None rest known tells each = tt
through (Some bytes) None known tells each = absurd known
through (Some bytes) (Some more) known tells each = each bytes more known tells

-- before the first line
pub known_begun : (head : FeedHead) (total : ℕ) (old : History) (left : Option (List ℕ))
    → IfSome left (λ bytes. IsSomeAnd (prepend_known [] left) (HasRun head total old bytes (begun old) false))
known_begun head total old None = tt
known_begun head total old (Some bytes) = run_begun head total old bytes

module _ (head : FeedHead) (total : ℕ) (old : History) (before : Lines) (operator : Operator) (due : Due) (limits : before.limits ≡ feed_limits total) where
  abbrev Run : List ℕ → List ℕ → Type 0
  Run bytes rest = HasRun head total old bytes (state_of operator due before) before.ended rest

  fault_same : (rest : List ℕ) → first_fault (feed_limits total) before.passed rest ≡ first_fault before.limits before.passed rest
  fault_same rest = ap (λ l. first_fault l before.passed rest) (sym limits)

  module _ (start : Option (List ℕ)) (held : List ℕ) (left : Option (List ℕ)) (known : IfSome start (λ bytes. IsSomeAnd (prepend_known held left) (Run bytes)))
      (new : Lines) (in_limits : InLimits new) (same : new.limits ≡ before.limits) (after : Option (List ℕ)) where
    is_total : new.limits.total ≡ total
    is_total = ap (λ l. l.total) (same ∙ limits)

    -- A feed was taken up to the bytes that the reader holds, behind a part of its rest.
    module _ (bytes rest : List ℕ) (run : Run bytes rest) (part behind : List ℕ) (parts : rest ≡ part ++ behind)
        (is : prepend_known new.held after ≡ Some behind) (passed : new.passed ≡ before.passed + length part) where
      abbrev ahead : List ℕ
      ahead = part ++ new.held

      abbrev taken : List ℕ
      taken = run.passed ++ ahead

      consumes : Consumes (Some bytes) after taken
      consumes =
          let left = is_left new.held behind after is in
          rw left.is (run.behind ∙ ap (λ xs. run.passed ++ xs) (parts ∙ ap (λ xs. part ++ xs) left.parts ∙ sym (append_assoc part new.held left.more))
          ∙ sym (append_assoc run.passed ahead left.more))

      taken_within : length taken ≤ total + 1
      taken_within = omega (
        arith,
        in_limits.one_past,
        is_total,
        passed,
        run.size,
        length-append run.passed ahead,
        length-append part new.held,
      )

      takes_so : (end : FeedEnd) (now : History) → TakesBytes head total old bytes taken after end now → RunsTo head total old bytes end now
          → TakesFeed head total old bytes after end now
      takes_so end now reads runs = record { taken = taken; takes = consumes; within = taken_within; reads = reads; runs = runs }

      -- the lines so far led to this, and hardly more was taken
      abbrev stops_behind : 0 < length rest → length part ≤ 1026 → StopsBehind head total old bytes taken operator.published
      stops_behind some short = record {
        front = run.passed;
        more = ahead;
        parts = refl;
        soon = omega (arith, short, in_limits.in_the_buffer, length-append part new.held);
        leads = leads_on head total old bytes (state_of operator due before) before.ended rest run
            (all_ended head total old bytes (state_of operator due before) before.ended rest run (inl some));
      }

    -- ---- there is no next line

    module _ (bytes rest : List ℕ) (run : Run bytes rest) (leaves : LeavesRest before new rest (prepend_known new.held after)) where
      none_passed : new.passed ≡ before.passed + length {A = ℕ} []
      none_passed = omega (arith, leaves.passed)

      ends_so_far : (end : FeedEnd) → TakesBytes head total old bytes (run.passed ++ new.held) after end operator.published
          → RunsTo head total old bytes end operator.published → TakesFeed head total old bytes after end operator.published
      ends_so_far end = takes_so bytes rest run [] rest refl leaves.left none_passed end operator.published

      stops_here : 0 < length rest → StopsBehind head total old bytes (run.passed ++ new.held) operator.published
      stops_here some = stops_behind bytes rest run [] rest refl leaves.left none_passed some (omega arith)

      -- the next line breaks a limit
      breaks_by : (broken : LineFault) (end : FeedEnd) → 0 < length rest → first_fault before.limits before.passed rest ≡ Some broken
          → end ≡ end_by broken (before.number + 1) → TakesFeed head total old bytes after end operator.published
      breaks_by broken end some is known =
          let runs = run_breaks head total old bytes (state_of operator due before) before.ended rest run (lines_of-first rest some) broken (fault_same rest ∙ is) in
          by broken is end known runs where
            by : (b : LineFault) → first_fault before.limits before.passed rest ≡ Some b → (e : FeedEnd) → e ≡ end_by b (before.number + 1)
                → RunsTo head total old bytes (end_by b (before.number + 1)) operator.published → TakesFeed head total old bytes after e operator.published
            by fault.TooLong is e known runs = rw known (ends_so_far (Bad (before.number + 1)) (stops_here some) runs)
            by fault.Total is e known runs = rw known (ends_so_far Long (stops_here some) runs)
            by fault.Read is e known runs = absurd (never_read before.limits before.passed (length (raw_line rest)) (line_size rest) is)

      -- the source failed
      fails : first_lf new.held ≡ length new.held → before.ended ≡ false → TakesFeed head total old bytes after Read operator.published
      fails part more = ends_so_far Read
          (leads_behind head total old bytes run.passed new.held operator.published (none_ended new.held part)
          (leads_on head total old bytes (state_of operator due before) before.ended rest run
          (all_ended head total old bytes (state_of operator due before) before.ended rest run (inr more)))) tt

      -- the input has ended
      ended : rest ≡ [] → TakesFeed head total old bytes after (end_due due) operator.published
      ended none =
          let left = is_left new.held rest after leaves.left in
          let at_end : IsAtEnd after = rw left.is (nothing new.held left.more (sym none ∙ left.parts)) in
          let runs = run_done head total old bytes (state_of operator due before) before.ended rest run none in
          ends_so_far (end_due due) (by due at_end) (subst (λ e. RunsTo head total old bytes e operator.published) (end_is due operator.pending) runs) where
            nothing : (xs ys : List ℕ) → [] ≡ xs ++ ys → ys ≡ []
            nothing [] ys e = sym e
            nothing (x ∷ xs) ys e = absurd cc

            by : (d : Due) → IsAtEnd after → TakesBytes head total old bytes (run.passed ++ new.held) after (end_due d) operator.published
            by expected.First at_end = at_end
            by expected.Begin at_end = at_end
            by (expected.Within epoch left) at_end = at_end

    -- there is no next line for a fault
    pub stops_next : (end : FeedEnd) → IfSome (prepend_known held left) (λ r. NextTells before new r (prepend_known new.held after) (Err end))
        → IfSome start (λ bytes. TakesFeed head total old bytes after end operator.published)
    stops_next end tells = through start (prepend_known held left) known tells (λ bytes r run shown. by bytes r run end shown) where
      broken : (bytes r : List ℕ) (run : Run bytes r) (e : FeedEnd) → BreaksBy before new r (prepend_known new.held after) e
          → TakesFeed head total old bytes after e operator.published
      broken bytes r run e by = breaks_by bytes r run by.leaves by.fault e by.some by.broken by.known

      by : (bytes r : List ℕ) (run : Run bytes r) (e : FeedEnd) → NextTells before new r (prepend_known new.held after) (Err e)
          → TakesFeed head total old bytes after e operator.published
      by bytes r run Read shown = fails bytes r run shown.leaves shown.part shown.more
      by bytes r run Whole shown = broken bytes r run Whole shown
      by bytes r run Cut shown = broken bytes r run Cut shown
      by bytes r run (Bad line) shown = broken bytes r run (Bad line) shown
      by bytes r run (Gap line) shown = broken bytes r run (Gap line) shown
      by bytes r run Long shown = broken bytes r run Long shown
      by bytes r run (OutOfMemory want) shown = broken bytes r run (OutOfMemory want) shown

    -- there is none since the input has ended
    pub ends_next : IfSome (prepend_known held left) (λ r. NextTells before new r (prepend_known new.held after) (Ok false))
        → IfSome start (λ bytes. TakesFeed head total old bytes after (end_due due) operator.published)
    ends_next tells = through start (prepend_known held left) known tells (λ bytes r run shown. ended bytes r run shown.1 shown.0)

    -- ---- the next line was taken

    module _ (taken_line : IfSome (prepend_known held left) (λ r. TakesLine before new r (prepend_known new.held after))) (counts : CountsLine before new)
        (operator' : Operator) where
      none : (r : List ℕ) → TakesLine before new r (prepend_known new.held after) → first_fault (feed_limits total) before.passed r ≡ None
      none r line = fault_same r ∙ unbroken before.limits before.passed r line.answer

      -- what the line says, where the rest is known
      said : (S : List (List ℕ) → ℕ → Type 0) (r : List ℕ) → TakesLine before new r (prepend_known new.held after) → S (fields_of new.text) new.number
          → S (fields_of (without_cr (raw_line r))) (before.number + 1)
      said S r line s = subst (λ n. S (fields_of (without_cr (raw_line r))) n) counts.number (subst (λ t. S (fields_of t) new.number) line.text s)

      -- a feed that ends at the line
      module _ (bytes r : List ℕ) (run : Run bytes r) (line : TakesLine before new r (prepend_known new.held after)) where
        abbrev whole_line : List ℕ
        whole_line = take (first_lf r + 1) r

        line_length : length whole_line ≡ line_size r
        line_length = omega (arith, length-take (first_lf r + 1) r, length-raw_line r, first_lf-le r)

        line_short : length whole_line ≤ 1026
        line_short =
            let limit : new.limits.line ≡ 1024 = ap (λ l. l.line) (same ∙ limits) in
            omega (arith, line_length, line.passed, counts.at_most, in_limits.text, limit)

        parted : r ≡ whole_line ++ after_line r
        parted = sym (take-append-drop (first_lf r + 1) r)

        some : 0 < length r
        some = omega (arith, counts.more, line.passed, line_length, length-take (first_lf r + 1) r)

        line_passed : new.passed ≡ before.passed + length whole_line
        line_passed = omega (arith, line.passed, line_length)

        -- the lines so far led to this, and hardly more was taken
        abbrev stop : StopsBehind head total old bytes (run.passed ++ (whole_line ++ new.held)) operator.published
        stop = stops_behind bytes r run whole_line (after_line r) parted line.left line_passed some line_short

        at_line : (end : FeedEnd) → operator'.published ≡ operator.published
            → TakesBytes head total old bytes (run.passed ++ (whole_line ++ new.held)) after end operator.published
            → RunsTo head total old bytes end operator.published → TakesFeed head total old bytes after end operator'.published
        at_line end stays reads runs =
            subst (λ h. TakesFeed head total old bytes after end h) (sym stays)
            (takes_so bytes r run whole_line (after_line r) parted line.left line_passed end operator.published reads runs)

        refused : (end : FeedEnd) → behind_line head new.number operator.published (place_of due operator.pending) (fields_of new.text) ≡ Ends end
            → operator'.published ≡ operator.published → TakesFeed head total old bytes after end operator'.published
        refused end e stays =
            by (is_refusal head new.number operator.published end (place_of due operator.pending) (fields_of new.text) e)
            (run_stops_by head total old bytes (state_of operator due before) before.ended r run line.lines (none r line) end
            (said (λ fs n. behind_line head n operator.published (place_of due operator.pending) fs ≡ Ends end) r line e)) where
              by : {s : FeedEnd} → IsRefusal s → RunsTo head total old bytes s operator.published → TakesFeed head total old bytes after s operator'.published
              by (bad {n}) runs = at_line (Bad n) stays stop runs
              by (gap {n}) runs = at_line (Gap n) stays stop runs

        -- memory ran out for the line
        abbrev memory : List (List ℕ) → ℕ → Type 0
        memory fs n = needs_memory operator.published (behind_line head n operator.published (place_of due operator.pending) fs) ≡ true

        abbrev step : Step
        step = behind_line head (before.number + 1) operator.published (place_of due operator.pending) (fields_of (without_cr (raw_line r)))

        starves : (want : Want) → memory (fields_of new.text) new.number → operator'.published ≡ operator.published
            → TakesFeed head total old bytes after (OutOfMemory want) operator'.published
        starves want needs stays = by step refl (said memory r line needs) where
          count : lines_ended run.passed ≡ length run.taken
          count = all_ended head total old bytes (state_of operator due before) before.ended r run (inl some)

          by : (s : Step) → step ≡ s → needs_memory operator.published s ≡ true → TakesFeed head total old bytes after (OutOfMemory want) operator'.published
          by (Ends end) is needs = absurd cc
          by (GoesOn h place) is needs =
              let more = run_one_more head total old bytes (state_of operator due before) before.ended r run line.lines (none r line) count h place is in
              let far = run_so_far head total old bytes (state_of operator due before) before.ended r run count in
              let taken = memory_taken head (before.number + 1) operator.published h (place_of due operator.pending) place
              (fields_of (without_cr (raw_line r))) is needs in
              at_line (OutOfMemory want) stays (inl (record {
                stops = stop;
                there = one_there head total old bytes (state_of operator due before) before.ended r run line.lines (none r line) count;
                memory = ap₂ takes_memory far more ∙ taken;
              })) tt

      -- the line ends the feed, or memory ran out
      pub stops_line : (end : FeedEnd) → LineTells head new.number operator due (fields_of new.text) operator' (Err end)
          → IfSome start (λ bytes. TakesFeed head total old bytes after end operator'.published)
      stops_line end tells = through start (prepend_known held left) known taken_line (λ bytes r run line. by bytes r run line end tells) where
        by : (bytes r : List ℕ) (run : Run bytes r) (line : TakesLine before new r (prepend_known new.held after)) (e : FeedEnd)
            → LineTells head new.number operator due (fields_of new.text) operator' (Err e) → TakesFeed head total old bytes after e operator'.published
        by bytes r run line (OutOfMemory want) tells = starves bytes r run line want tells.0 tells.1
        by bytes r run line Read tells = refused bytes r run line Read tells.0 tells.1
        by bytes r run line Whole tells = refused bytes r run line Whole tells.0 tells.1
        by bytes r run line Cut tells = refused bytes r run line Cut tells.0 tells.1
        by bytes r run line (Bad n) tells = refused bytes r run line (Bad n) tells.0 tells.1
        by bytes r run line (Gap n) tells = refused bytes r run line (Gap n) tells.0 tells.1
        by bytes r run line Long tells = refused bytes r run line Long tells.0 tells.1

      -- the feed goes on
      pub goes_on : (next : Due) → behind_line head new.number operator.published (place_of due operator.pending) (fields_of new.text)
          ≡ GoesOn operator'.published (place_of next operator'.pending)
          → IfSome start (λ bytes. IsSomeAnd (prepend_known new.held after) (HasRun head total old bytes (state_of operator' next new) new.ended))
      goes_on next e =
          let goes = GoesOn operator'.published (place_of next operator'.pending) in
          through start (prepend_known held left) known taken_line (λ bytes r run line.
          subst (λ a. IsSomeAnd a (HasRun head total old bytes (state_of operator' next new) new.ended)) (sym line.left)
          (run_more head total old bytes (state_of operator due before) before.ended r run line.lines (none r line) (state_of operator' next new) new.ended
          (said (λ fs n. behind_line head n operator.published (place_of due operator.pending) fs ≡ goes) r line e) counts.number line.passed line.last))

-- there was no memory to begin
pub starved_at_first : (head : FeedHead) (total : ℕ) (old : History) (want : Want) (start : Option (List ℕ))
    → IfSome start (λ bytes. TakesFeed head total old bytes start (OutOfMemory want) old)
starved_at_first head total old want None = tt
starved_at_first head total old want (Some bytes) =
    record { taken = []; takes = refl; within = omega arith; reads = inr (refl, refl); runs = tt }
