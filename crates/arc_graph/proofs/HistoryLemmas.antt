-- Histories and their epochs: one entry more, the front of a history, and what the epochs keep.
use Rattle.std.proofs.Common.{◌≡◌, ℕ, ◌+◌, ◌-◌, ◌≤◌, ◌<◌, ◌^◌, List, [], ◌∷◌, ◌++◌, IfSome, length, take, refl, arith, ap, sym, subst, ◌∙◌}
use Rattle.std.specs.Prelude.{fold, slice_range, All}
use Rattle.std.proofs.Math.Seq.{take-add}
use Rattle.std.proofs.lemmas.List.{append-nil, length-append, take-append-le, take_all, length-set}
use Rattle.std.proofs.lemmas.List.Sums.{fold-append}
use Rattle.std.proofs.lemmas.List.Elements.{All-head, All-tail, All-take, All-set, filter_map-append}
use Rattle.road_network.specs.Network.{IsVector}
use Rattle.arc_graph.specs.declared.change.Change.{Change}
use Rattle.arc_graph.specs.Graph.{Weights, AreWeights}
use Rattle.arc_graph.specs.Pages.{AgreeOnPage, IsOnPage}
use Rattle.arc_graph.specs.History.{HistoryEntry, History, IsChange, IsHistory, LeavePage, LeavesPage, changes_in, ends_closed, epoch_after, is_closed, sets, sets_of, with_change, with_changes}
use Rattle.arc_graph.specs.History.HistoryEntry.{Changes, Closed}
use Rattle.arc_graph.proofs.PageLemmas.{page_left}

-- ---- the sets of a history

-- those of the front, and then those that come later
pub sets_of_both : (h later : History) → sets_of (h ++ later) ≡ sets_of h ++ sets_of later
sets_of_both h later = filter_map-append changes_in h later

-- a set more
pub sets_with_set : (h : History) (cs : List Change) → sets_of (h ++ Changes cs ∷ []) ≡ sets_of h ++ cs ∷ []
sets_with_set h cs = sets_of_both h (Changes cs ∷ [])

-- Closed is no set
pub sets_closed : (h : History) → sets_of (h ++ Closed ∷ []) ≡ sets_of h
sets_closed h = sets_of_both h (Closed ∷ []) ∙ append-nil (sets_of h)

-- one set more is counted
pub count_with_set : (h : History) (cs : List Change) → sets (h ++ Changes cs ∷ []) ≡ sets h + 1
count_with_set h cs = ap length (sets_with_set h cs) ∙ length-append (sets_of h) (cs ∷ [])

-- what comes last says whether the history is closed
pub ends_with : (h : History) (e : HistoryEntry) → ends_closed (h ++ e ∷ []) ≡ is_closed e
ends_with [] e = refl
ends_with (d ∷ []) e = refl
ends_with (d ∷ f ∷ rest) e = ends_with (f ∷ rest) e

-- ---- epochs

-- what comes later changes no epoch of before
pub epoch_earlier : (base : Weights) (h later : History) (k : ℕ) → k ≤ sets h → epoch_after base (h ++ later) k ≡ epoch_after base h k
epoch_earlier base h later k within =
    ap (λ s. fold with_changes base (take k s)) (sets_of_both h later) ∙ ap (fold with_changes base) (take-append-le k (sets_of h) (sets_of later) within)

-- nor does Closed
pub epoch_closed : (base : Weights) (h : History) (k : ℕ) → epoch_after base (h ++ Closed ∷ []) k ≡ epoch_after base h k
epoch_closed base h k = ap (λ s. fold with_changes base (take k s)) (sets_closed h)

-- the last epoch, by all sets
epoch_of_all : (base : Weights) (h : History) (k : ℕ) → sets h ≤ k → epoch_after base h k ≡ fold with_changes base (sets_of h)
epoch_of_all base h k past = ap (fold with_changes base) (take_all k (sets_of h) past)

-- a set makes the next epoch from the last
pub epoch_next : (base : Weights) (h : History) (cs : List Change)
    → epoch_after base (h ++ Changes cs ∷ []) (sets h + 1) ≡ with_changes (epoch_after base h (sets h)) cs
epoch_next base h cs =
    epoch_of_all base (h ++ Changes cs ∷ []) (sets h + 1) (omega (arith, count_with_set h cs))
    ∙ ap (fold with_changes base) (sets_with_set h cs)
    ∙ fold-append with_changes base (sets_of h) (cs ∷ [])
    ∙ ap (λ w. with_changes w cs) (sym (epoch_of_all base h (sets h) (omega arith)))

-- a later epoch is made from an earlier one by the sets between them
epoch_from : (base : Weights) (h : History) (i k : ℕ) → i ≤ k
    → epoch_after base h k ≡ fold with_changes (epoch_after base h i) (slice_range (sets_of h) i k)
epoch_from base h i k upto =
    let count : k ≡ i + (k - i) = omega arith in
    ap (epoch_after base h) count
    ∙ ap (fold with_changes base) (take-add i (k - i) (sets_of h))
    ∙ fold-append with_changes base (take i (sets_of h)) (slice_range (sets_of h) i k)

-- ---- what changes keep

-- what each step keeps, all together keep
kept_by_fold : {A B : Type 0} (f : B → A → B) (P : B → Type 0) (Q : A → Type 0) (xs : List A) (b : B)
    → ((c : B) (x : A) → Q x → P c → P (f c x)) → All Q xs → P b → P (fold f b xs)
kept_by_fold f P Q [] b keeps all holds = holds
kept_by_fold f P Q (x ∷ xs) b keeps all holds = kept_by_fold f P Q xs (f b x) keeps (All-tail Q x xs all) (keeps b x (All-head Q x xs all) holds)

-- what each change keeps, each epoch keeps
kept_by_epochs : (P : Weights → Type 0) (Q : Change → Type 0) (base : Weights) (h : History) (k : ℕ)
    → ((w : Weights) (c : Change) → Q c → P w → P (with_change w c)) → All (All Q) (sets_of h) → P base → P (epoch_after base h k)
kept_by_epochs P Q base h k keeps all =
    kept_by_fold with_changes P (All Q) (take k (sets_of h)) base (λ w cs. kept_by_fold with_change P Q cs w keeps) (All-take (All Q) k (sets_of h) all)

-- nothing is asked of a change
any_changes : (h : History) → All (All (λ (c : Change). Unit {0})) (sets_of h)
any_changes h k d within j e there = tt

-- the criteria stay
pub epoch_criteria : (base : Weights) (h : History) (k : ℕ) → (epoch_after base h k).criteria ≡ base.criteria
epoch_criteria base h k = kept_by_epochs (λ w. w.criteria ≡ base.criteria) (λ c. Unit {0}) base h k (λ w c any same. same) (any_changes h) refl

-- so does the number of arcs
pub epoch_arcs : (base : Weights) (h : History) (k : ℕ) → length (epoch_after base h k).states ≡ length base.states
epoch_arcs base h k =
    kept_by_epochs (λ w. length w.states ≡ length base.states) (λ c. Unit {0}) base h k
    (λ w c any same. length-set w.states (c.arc.0 - 1) c.weight ∙ same) (any_changes h) refl

-- what holds of each state of before, and of what the changes give, holds of each state
kept_by_states : {arcs d : ℕ} (P : List ℕ → Type 0) (base : Weights) (h : History) (k : ℕ) → ((c : Change) → IsChange arcs d c → IfSome c.weight P)
    → All (All (IsChange arcs d)) (sets_of h) → All (λ s. IfSome s P) base.states → All (λ s. IfSome s P) (epoch_after base h k).states
kept_by_states {arcs} {d} P base h k gives =
    kept_by_epochs (λ w. All (λ s. IfSome s P) w.states) (IsChange arcs d) base h k
    (λ w c is all. All-set (λ s. IfSome s P) w.states (c.arc.0 - 1) c.weight (gives c is) all)

-- the epochs are weights
pub epoch_weights : (base : Weights) (h : History) (k : ℕ) → AreWeights base → IsHistory (length base.states) base.criteria h
    → AreWeights (epoch_after base h k)
epoch_weights base h k weights history = record {
  vectors = subst (λ d. All (λ s. IfSome s (IsVector d)) (epoch_after base h k).states) (sym (epoch_criteria base h k))
      (kept_by_states (IsVector base.criteria) base h k (λ c is. is.vector) history.changes weights.vectors);
  small = kept_by_states (All (λ x. x < 2 ^ 32)) base h k (λ c is. is.small) history.changes weights.small;
}

-- ---- pages

-- a page of which a set has no arc
pub page_left_by_set : (page : ℕ) (w : Weights) (cs : List Change) → LeavesPage page cs → AgreeOnPage page (with_changes w cs) w
page_left_by_set page w cs away =
    kept_by_fold with_change (λ v. AgreeOnPage page v w) (λ c. ¬ IsOnPage page c.arc.0) cs w
    (λ v c off agree k on. page_left page v c off k on ∙ agree k on) away (λ k on. refl)

-- and one of which several sets have none
pub page_left_by_sets : (page : ℕ) (base : Weights) (h : History) (i k : ℕ) → i ≤ k → LeavePage page h i k
    → AgreeOnPage page (epoch_after base h i) (epoch_after base h k)
page_left_by_sets page base h i k upto away =
    let from = epoch_after base h i in
    let left = kept_by_fold with_changes (λ v. AgreeOnPage page v from) (LeavesPage page) (slice_range (sets_of h) i k) from
    (λ v cs off agree n on. page_left_by_set page v cs off n on ∙ agree n on) away (λ n on. refl) in
    λ n on. sym (subst (λ v. AgreeOnPage page v from) (sym (epoch_from base h i k upto)) left n on)
