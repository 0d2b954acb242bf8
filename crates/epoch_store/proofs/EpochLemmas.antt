-- Epochs of a store: the first, the next, and the last when no more are to come.
use Rattle.std.proofs.Common.{◌≡◌, ℕ, ◌+◌, ◌≤◌, Bool, true, false, List, [], ◌∷◌, ◌++◌, length, refl, ap, sym, subst, ◌∙◌, arith}
use Rattle.arc_graph.specs.declared.change.Change.{Change}
use Rattle.arc_graph.specs.Graph.{Weights}
use Rattle.std.proofs.lemmas.List.Elements.{All-nil}
use Rattle.arc_graph.specs.History.{History, IsChange, sets, with_changes}
use Rattle.road_network.specs.Limits.{max_epoch}
use Rattle.arc_graph.specs.History.HistoryEntry.{Changes, Closed}
use Rattle.arc_graph.specs.Pages.{pages_of}
use Rattle.arc_graph.proofs.HistoryLemmas.{sets_closed, count_with_set, ends_with, epoch_next, epoch_closed}
use Rattle.arc_graph.proofs.OperatorLemmas.{operator_closed}
use Rattle.epoch_store.specs.Origin.{Origin, IsOperatorIn, IsPublishedIn, arcs_of, criteria_of, last_number, last_weights}
use Rattle.epoch_store.specs.Published.{Published, ended_if, with_page_numbers}
use Rattle.epoch_store.specs.StoreRule.{ArePageNumbers, MayFollow, IsEpoch, IsShown, opening_of}
use Rattle.epoch_store.proofs.PageNumberLemmas.{numbers_first, numbers_with_set}

-- nothing was published yet
pub nothing_published : (o : Origin) → o.first ≤ max_epoch → IsPublishedIn o []
nothing_published o small = record {
  history = record {
    changes = λ k d within. absurd (omega arith);
    closed_last = λ n at. absurd cc;
  };
  sizes = λ k d within. absurd (omega arith);
  number = omega arith;
}

-- the first epoch
pub opening_epoch : (o : Origin) → o.first ≤ max_epoch → IsEpoch o (opening_of o o.first)
opening_epoch o small = record {
  number = omega arith;
  unclosed = refl;
  weights = refl;
  pages = numbers_first o.first (pages_of (arcs_of o));
  published = nothing_published o small;
}

-- the next epoch, by a set of changes
pub set_follows : (o : Origin) (p : Published) (h : History) (cs : List Change) (n : ℕ) → p.history ≡ h → n ≡ last_number o h + 1
    → IsPublishedIn o (h ++ Changes cs ∷ [])
    → MayFollow o p (record { number = n; changes = cs; history = h ++ Changes cs ∷ [] })
set_follows o p h cs n is next allowed = record {
  begins = (Changes cs ∷ [], ap (λ k. k ++ Changes cs ∷ []) is);
  epoch = λ epoch.
      let count = count_with_set h cs in
      let before : p.weights ≡ last_weights o h = epoch.weights ∙ ap (last_weights o) is in
      let numbers = numbers_with_set o.first h cs p.pages (subst (λ k. ArePageNumbers o.first k p.pages) is epoch.pages) in
      record {
        number = omega (arith, count);
        unclosed = ends_with h (Changes cs);
        weights = rw count (ap (λ w. with_changes w cs) before ∙ sym (epoch_next o.base h cs));
        pages = subst (λ (m : ℕ). ArePageNumbers o.first (h ++ Changes cs ∷ []) (with_page_numbers m p.pages cs)) (sym next) numbers;
        published = allowed;
      };
}

-- what is shown of an epoch that was found, which is the last where the history is closed
pub epoch_shown : (o : Origin) (p : Published) (closed : Bool) → IsEpoch o p → IsShown o (ended_if closed p.history) p.number closed p.weights
epoch_shown o p false epoch = record {
  number = epoch.number;
  closed = sym epoch.unclosed;
  weights = epoch.weights;
  published = epoch.published;
}
epoch_shown o p true epoch =
    let h = p.history in
    let count : sets (h ++ Closed ∷ []) ≡ sets h = ap length (sets_closed h) in
    let operator : IsOperatorIn o (record { published = h; pending = [] }) = record {
      published = epoch.published;
      unclosed = epoch.unclosed;
      pending = All-nil (IsChange (arcs_of o) (criteria_of o));
      room = omega arith;
    } in
    record {
      number = omega (arith, count, epoch.number);
      closed = sym (ends_with h Closed);
      weights = rw count (epoch.weights ∙ sym (epoch_closed o.base h (sets h)));
      published = operator_closed (arcs_of o) (criteria_of o) o.first (record { published = h; pending = [] }) operator;
    }

-- what was shown of nothing
pub opening_shown : (o : Origin) (n : ℕ) (w : Weights) → n ≡ o.first → w ≡ o.base → o.first ≤ max_epoch → IsShown o [] n false w
opening_shown o n w number weights small = record {
  number = omega (arith, number);
  closed = refl;
  weights = weights;
  published = nothing_published o small;
}
