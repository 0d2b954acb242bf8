-- Closed histories.
use Rattle.std.proofs.Common.{◌≡◌, ℕ, ◌+◌, Bool, true, false, [], ◌∷◌, ◌++◌, Some, length, refl, ap, sym, subst, ◌∙◌, arith}
use Rattle.std.specs.Prelude.{slice_get}
use Rattle.std.proofs.Math.Numerals.{add-one}
use Rattle.std.proofs.lemmas.List.{append-nil, length-append}
use mathlib.Core.List.{IsPrefix}
use Rattle.list_laws.proofs.Gets.{get_before}
use Rattle.arc_graph.specs.History.{History, IsHistory, ends_closed, is_closed}
use Rattle.arc_graph.specs.History.HistoryEntry.{Changes, Closed}
use Rattle.epoch_store.specs.Published.{ended_if}
use Rattle.epoch_store.proofs.PrefixLemmas.{prefix_trans}

-- the last entry of a closed history
closed_at : (h : History) → ends_closed h ≡ true → (n : ℕ) × (slice_get h n ≡ Some Closed) × (n + 1 ≡ length h)
closed_at [] closed = absurd cc
closed_at (Changes cs ∷ []) closed = absurd cc
closed_at (Closed ∷ []) closed = (0, refl, refl)
closed_at (e ∷ d ∷ rest) closed =
    let last = closed_at (d ∷ rest) closed in
    let count : (last.0 + 1) + 1 ≡ length (e ∷ d ∷ rest) = omega (arith, last.2) in
    (last.0 + 1, rw (add-one last.0) last.1, count)

no_rest : (h rest : History) → length (h ++ rest) ≡ length h → h ++ rest ≡ h
no_rest h [] same = append-nil h
no_rest h (e ∷ rest) same = absurd (omega (arith, length-append h (e ∷ rest)))

-- a well-formed history that begins with a closed one is that one
pub no_further : (arcs criteria : ℕ) (seen later : History) → ends_closed seen ≡ true → IsPrefix seen later → IsHistory arcs criteria later → later ≡ seen
no_further arcs criteria seen later closed begins is =
    let last = closed_at seen closed in
    let before = get_before seen begins.0 Closed last.0 last.1 in
    let at : slice_get later last.0 ≡ Some Closed = subst (λ (l : History). slice_get l last.0 ≡ Some Closed) begins.1 before in
    let count : length (seen ++ begins.0) ≡ length seen = omega (arith, is.closed_last last.0 at, last.2, ap length begins.1) in
    sym begins.1 ∙ no_rest seen begins.0 count

-- what begins a history begins the one that it becomes
pub prefix_ended : (closed : Bool) (seen h : History) → IsPrefix seen h → IsPrefix seen (ended_if closed h)
prefix_ended false seen h begins = begins
prefix_ended true seen h begins = prefix_trans seen h (h ++ Closed ∷ []) begins (Closed ∷ [], refl)

-- an open one that begins it with its end, too, begins it without
open_before : (seen h : History) → ends_closed seen ≡ false → IsPrefix seen (h ++ Closed ∷ []) → IsPrefix seen h
open_before [] h still begins = (h, refl)
open_before (e ∷ []) [] still begins =
    let same : e ≡ Closed = cc (begins.1) in
    let wrong : is_closed Closed ≡ false = subst (λ x. is_closed x ≡ false) same still in absurd cc
open_before (e ∷ f ∷ rest) [] still begins = absurd (cc (begins.1))
open_before (e ∷ []) (d ∷ h) still begins = let same : e ≡ d = cc (begins.1) in (h, ap (λ x. x ∷ h) same)
open_before (e ∷ f ∷ rest) (d ∷ h) still begins =
    let more = open_before (f ∷ rest) h still (begins.0, cc (begins.1)) in (more.0, cc (begins.1, more.1))

-- what isn't closed, and begins a history that may have ended, begins it as it was before its end
pub open_begins : (closed : Bool) (seen h : History) → ends_closed seen ≡ false → IsPrefix seen (ended_if closed h) → IsPrefix seen h
open_begins false seen h still begins = begins
open_begins true seen h still begins = open_before seen h still begins
