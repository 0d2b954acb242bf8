-- What a look shows, and what it tells of the looks before.
use Rattle.std.proofs.Common.{◌≡◌, ◌+◌, Bool, true, false, Result, Ok, Err, OnOk, ap, sym, ◌∙◌}
use Rattle.arc_graph.specs.History.{History, ends_closed}
use Rattle.arc_graph.specs.History.HistoryEntry.{Closed}
use Rattle.arc_graph.proofs.HistoryLemmas.{ends_with}
use Rattle.epoch_store.specs.Published.{ended_if}
use Rattle.epoch_store.specs.Readers.{EpochReader, HasLooked}

-- what is shown, where more may come, is what the last look found
pub found_open : (last : Bool) (found shown : History) → shown ≡ ended_if last found → ends_closed shown ≡ false → shown ≡ found
found_open false found shown is unclosed = is
found_open true found shown is unclosed =
    let wrong : false ≡ true = sym unclosed ∙ (ap ends_closed is ∙ ends_with found Closed) in absurd cc

-- a history that was open is closed exactly where it was ended
ended_closes : (closed : Bool) (h : History) → ends_closed h ≡ false → ends_closed (ended_if closed h) ≡ closed
ended_closes false h unclosed = unclosed
ended_closes true h unclosed = ends_with h Closed

-- a reader has looked once, by what became of its two looks
pub looks_once : {X E : Type 0} (r : Result X E) (before after : EpochReader) (last : Bool) (found : History)
    → OnOk r (after.seen ≡ ended_if last found) → OnOk r (after.looks ≡ before.looks + 1) → OnOk r (after.mark_looks ≡ before.mark_looks + 1)
    → OnOk r (last ≡ after.marked) → OnOk r (ends_closed found ≡ false) → OnOk r (HasLooked before after)
looks_once (Ok x) before after last found shown looks marks order unclosed = λ still. record {
  mark = marks;
  epochs = looks;
  ends = ap ends_closed shown ∙ (ended_closes last found unclosed ∙ order);
}
looks_once (Err e) before after last found shown looks marks order unclosed = tt
