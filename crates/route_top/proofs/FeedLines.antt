-- The lines of feeds, one after another.
use Rattle.std.proofs.Common.{◌≡◌, ◌∙◌, ◌+◌, ◌++◌, ◌<◌, ◌≤◌, ℕ, List, [], ◌∷◌, Err, Ok, append-nil, append_assoc, ap, arith, drop, get_or, length, subst, sym, take}
use Rattle.std.proofs.lemmas.List.{length-take, take-append-drop, take_all, take_more}
use Rattle.route_io.specs.declared.fault.WriteFault.{WriteFault}
use Rattle.route_io.specs.Sinks.{SinkState, Sends}
use Rattle.route_io.proofs.SendsLemmas.{Sent, Sends-cut, Sends-then}
use Rattle.route_lanes.specs.declared.feed_lane.FeedReport.{FeedReport}
use Rattle.route_top.specs.Follow.{feed_line, feed_lines}

-- the lines of two lists
lines_append : (i : ℕ) (xs ys : List FeedReport) → feed_lines i (xs ++ ys) ≡ feed_lines i xs ++ feed_lines (i + length xs) ys
lines_append i [] ys = ap (λ (n : ℕ). feed_lines n ys) (omega arith)
lines_append i (x ∷ xs) ys =
    let place : i + 1 + length xs ≡ i + length (x ∷ xs) = omega arith in
    ap (λ (l : List ℕ). feed_line i x ++ l) (lines_append (i + 1) xs ys ∙ ap (λ (n : ℕ). feed_lines (i + 1) xs ++ feed_lines n ys) place)
    ∙ sym (append_assoc (feed_line i x) (feed_lines (i + 1) xs) (feed_lines (i + length (x ∷ xs)) ys))

module _ (reports : List FeedReport) (n : ℕ) (other : FeedReport) (within : n < length reports) where
  -- the next one
  abbrev next : FeedReport
  next = get_or reports n other

  one_line_more : feed_lines 1 (take n reports) ++ feed_line (n + 1) next ≡ feed_lines 1 (take (n + 1) reports)
  one_line_more =
      let front = take n reports in
      let size : length front ≡ n = omega (arith, within, length-take n reports) in
      let place : 1 + length front ≡ n + 1 = omega (arith, size) in
      sym (ap (feed_lines 1) (take_more reports n other within) ∙ lines_append 1 front (next ∷ [])
      ∙ ap (λ (k : ℕ). feed_lines 1 front ++ (feed_line k next ++ [])) place ∙ ap (λ (l : List ℕ). feed_lines 1 front ++ l) (append-nil (feed_line (n + 1) next)))

  -- one line more was sent
  pub more_lines_sent : (old mid new : SinkState) → Sent old mid (feed_lines 1 (take n reports)) → Sent mid new (feed_line (n + 1) next)
      → Sent old new (feed_lines 1 (take (n + 1) reports))
  more_lines_sent old mid new sent one =
      subst (Sent old new) one_line_more (Sends-then old mid new (feed_lines 1 (take n reports)) (feed_line (n + 1) next) (Ok tt) sent one)

  -- it was cut
  pub lines_cut : (old mid new : SinkState) (fault : WriteFault) → Sent old mid (feed_lines 1 (take n reports))
      → Sends {T = Unit {0}} mid new (feed_line (n + 1) next) (Err fault) → Sends {T = Unit {0}} old new (feed_lines 1 reports) (Err fault)
  lines_cut old mid new fault sent part =
      let rest = drop (n + 1) reports in
      let behind = feed_lines (1 + length (take (n + 1) reports)) rest in
      let whole : (feed_lines 1 (take n reports) ++ feed_line (n + 1) next) ++ behind ≡ feed_lines 1 reports =
      ap (λ (l : List ℕ). l ++ behind) one_line_more ∙ sym (lines_append 1 (take (n + 1) reports) rest)
      ∙ ap (feed_lines 1) (take-append-drop (n + 1) reports) in
      subst (λ (l : List ℕ). Sends {T = Unit {0}} old new l (Err fault)) whole
      (Sends-cut old new (feed_lines 1 (take n reports) ++ feed_line (n + 1) next) behind fault
      (Sends-then old mid new (feed_lines 1 (take n reports)) (feed_line (n + 1) next) (Err fault) sent part))

-- all were sent
pub all_lines_sent : (reports : List FeedReport) (n : ℕ) (old new : SinkState) → length reports ≤ n → Sent old new (feed_lines 1 (take n reports))
    → Sent old new (feed_lines 1 reports)
all_lines_sent reports n old new past sent = subst (λ (rs : List FeedReport). Sent old new (feed_lines 1 rs)) (take_all n reports past) sent
