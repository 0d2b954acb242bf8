-- Histories that are well formed, and what an operator does with its own.
use Rattle.std.proofs.Common.{◌≡◌, ℕ, zero, suc, ◌+◌, ◌≤◌, ◌<◌, true, false, List, [], ◌∷◌, ◌++◌, Some, inl, inr, length, refl, arith, ap, sym, subst}
use Rattle.std.specs.Prelude.{slice_get, All}
use Rattle.std.proofs.Math.Seq.{take_at}
use Rattle.std.proofs.lemmas.List.{length-append}
use Rattle.std.proofs.lemmas.List.Elements.{All-nil, All-push, All-take}
use Rattle.std.proofs.lemmas.Option.{slice_get_within}
use Rattle.list_laws.proofs.Gets.{get_before, get_in_push}
use Rattle.arc_graph.specs.declared.change.Change.{Change}
use Rattle.arc_graph.specs.History.{HistoryEntry, History, IsChange, IsHistory, IsOperator, IsPublished, Operator, closed_history, ends_closed, is_closed, max_pending, number_after, sets, sets_of, with_published}
use Rattle.road_network.specs.Limits.{max_epoch}
use Rattle.arc_graph.specs.History.HistoryEntry.{Changes, Closed}
use Rattle.arc_graph.proofs.HistoryLemmas.{sets_of_both, sets_with_set, sets_closed, count_with_set, ends_with}

-- Closed that stands last closes the history
last_closed : (h : History) (n : ℕ) → slice_get h n ≡ Some Closed → n + 1 ≡ length h → ends_closed h ≡ true
last_closed [] n at last = absurd cc
last_closed (e ∷ []) zero at last = let same : e ≡ Closed = cc in ap is_closed same
last_closed (e ∷ []) (suc n) at last = absurd cc
last_closed (e ∷ d ∷ rest) zero at last = absurd (omega arith)
last_closed (e ∷ d ∷ rest) (suc n) at last = last_closed (d ∷ rest) n at (omega arith)

-- what holds of each in a list holds in its front
all_in_front : {X : Type 0} (P : X → Type 0) (xs ys : List X) → All P (xs ++ ys) → All P xs
all_in_front P xs ys all = subst (All P) (take_at xs ys (length xs) refl) (All-take P (length xs) (xs ++ ys) all)

-- no more changes than may be pending
abbrev IsRoomy : List Change → Type 0
IsRoomy cs = length cs ≤ max_pending

module _ (arcs criteria : ℕ) where
  -- an entry more, where Closed doesn't stand last
  pub history_with : (h : History) (e : HistoryEntry) → IsHistory arcs criteria h → ends_closed h ≡ false
      → All (All (IsChange arcs criteria)) (sets_of (h ++ e ∷ [])) → IsHistory arcs criteria (h ++ e ∷ [])
  history_with h e is unclosed changes = record {
    changes = changes;
    closed_last = λ n at. elim (get_in_push h e Closed n at) [
      | inl before ↦ let closed = last_closed h n before (is.closed_last n before) in absurd cc
      | inr added ↦ omega (arith, added.0, length-append h (e ∷ []))
    ];
  }

  -- the front of a well-formed history
  pub history_front : (h later : History) → IsHistory arcs criteria (h ++ later) → IsHistory arcs criteria h
  history_front h later is = record {
    changes = all_in_front (All (IsChange arcs criteria)) (sets_of h) (sets_of later)
        (subst (All (All (IsChange arcs criteria))) (sets_of_both h later) is.changes);
    closed_last = λ n at.
        omega (arith, is.closed_last n (get_before h later Closed n at), slice_get_within h n Closed at, length-append h later);
  }

  module _ (first : ℕ) where
    -- the front of a published history
    pub published_front : (h later : History) → IsPublished arcs criteria first (h ++ later) → IsPublished arcs criteria first h
    published_front h later is = record {
      history = history_front h later is.history;
      sizes = all_in_front IsRoomy (sets_of h) (sets_of later)
          (subst (All IsRoomy) (sets_of_both h later) is.sizes);
      number =
          let both = ap length (sets_of_both h later) in
          omega (arith, is.number, both, length-append (sets_of h) (sets_of later));
    }

    -- an operator that publishes
    pub operator_published : (o : Operator) → IsOperator arcs criteria first o → number_after first (sets o.published) < max_epoch
        → IsOperator arcs criteria first (with_published o)
    operator_published o is below =
        let Changed = All (IsChange arcs criteria) in
        let grown = sym (sets_with_set o.published o.pending) in
        record {
          published = record {
            history = history_with o.published (Changes o.pending) is.published.history is.unclosed
                (subst (All Changed) grown (All-push Changed (sets_of o.published) o.pending is.published.history.changes is.pending));
            sizes = subst (All IsRoomy) grown (All-push IsRoomy (sets_of o.published) o.pending is.published.sizes is.room);
            number = omega (arith, below, count_with_set o.published o.pending);
          };
          unclosed = ends_with o.published (Changes o.pending);
          pending = All-nil (IsChange arcs criteria);
          room = omega arith;
        }

    -- an operator that closes
    pub operator_closed : (o : Operator) → IsOperator arcs criteria first o → IsPublished arcs criteria first (closed_history o)
    operator_closed o is =
        let same = sym (sets_closed o.published) in
        record {
          history = history_with o.published Closed is.published.history is.unclosed
              (subst (All (All (IsChange arcs criteria))) same is.published.history.changes);
          sizes = subst (All IsRoomy) same is.published.sizes;
          number = subst (λ ss. number_after first (length ss) ≤ max_epoch) same is.published.number;
        }
