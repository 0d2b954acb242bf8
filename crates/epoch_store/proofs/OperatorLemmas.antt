-- What an operator keeps, by what it does.
use Rattle.std.proofs.Common.{◌≡◌, ℕ, ◌+◌, ◌<◌, ◌≤◌, inl, inr, List, [], ◌∷◌, ◌++◌, length-append, refl, ap, arith}
use Rattle.std.specs.Prelude.{length, sum}
use Rattle.std.proofs.lemmas.Bool.{cases_lt}
use Rattle.std.proofs.lemmas.List.{map-append}
use Rattle.std.proofs.lemmas.List.Sums.{sum_by-cons}
use Rattle.std.proofs.lemmas.List.Elements.{All-nil, All-cons, All-push}
use Rattle.arc_graph.proofs.HistoryLemmas.{count_with_set, sets_closed}
use Rattle.arc_graph.proofs.OperatorLemmas.{operator_published}
use Rattle.arc_graph.specs.declared.change.Change.{Change}
use Rattle.arc_graph.specs.History.{History, IsChange, Operator, sets_of, with_none_pending, with_pending}
use Rattle.road_network.specs.Limits.{max_epoch}
use Rattle.arc_graph.specs.History.HistoryEntry.{Changes, Closed}
use Rattle.epoch_store.specs.Faults.{MayPend, IsZero}
use Rattle.epoch_store.specs.Origin.{Origin, IsOperatorIn, arcs_of, criteria_of, last_number}
use Rattle.epoch_store.specs.Published.{Published, epoch_of, of_sets}
use Rattle.epoch_store.specs.StoreRule.{MayFollow}
use Rattle.epoch_store.proofs.EpochLemmas.{nothing_published, set_follows}

-- the change sets are those of the history that they make
pub sets_of_sets : (css : List (List Change)) → sets_of (of_sets css) ≡ css
sets_of_sets [] = refl
sets_of_sets (cs ∷ css) = ap (λ rest. cs ∷ rest) (sets_of_sets css)

-- one set more
pub of_sets_with : (css : List (List Change)) (cs : List Change) → of_sets (css ++ cs ∷ []) ≡ of_sets css ++ Changes cs ∷ []
of_sets_with css cs = map-append Changes css (cs ∷ [])

-- an operator that has published nothing
pub new_operator : (o : Origin) → o.first ≤ max_epoch → IsOperatorIn o (record { published = []; pending = [] })
new_operator o small = record {
  published = nothing_published o small;
  unclosed = refl;
  pending = All-nil (IsChange (arcs_of o) (criteria_of o));
  room = omega arith;
}

-- one change more is pending
pub one_more_pending : (o : Origin) (operator : Operator) (c : Change) → IsOperatorIn o operator → IsChange (arcs_of o) (criteria_of o) c
    → MayPend operator → IsOperatorIn o (with_pending operator c)
one_more_pending o operator c is change room = record {
  published = is.published;
  unclosed = is.unclosed;
  pending = All-push (IsChange (arcs_of o) (criteria_of o)) operator.pending c is.pending change;
  room = omega (arith, length-append operator.pending (c ∷ []));
}

-- nothing is pending
pub none_pending : (o : Origin) (operator : Operator) → IsOperatorIn o operator → IsOperatorIn o (with_none_pending operator)
none_pending o operator is = record {
  published = is.published;
  unclosed = is.unclosed;
  pending = All-nil (IsChange (arcs_of o) (criteria_of o));
  room = omega arith;
}

zeros : (w : List ℕ) → sum w ≡ 0 → IsZero w
zeros [] none = All-nil (λ x. x ≡ 0)
zeros (x ∷ w) none =
    let parts = sum_by-cons (λ n. n) x w in
    All-cons (λ y. y ≡ 0) x w (omega (arith, parts, none)) (zeros w (omega (arith, parts, none)))

-- a vector of which not all weights are 0
pub is_not_zero : (w : List ℕ) → (¬ IsZero w) → 0 < sum w
is_not_zero w some_weight = elim (cases_lt 0 (sum w)) [
  | inl more ↦ more
  | inr none ↦ absurd (some_weight (zeros w (omega arith)))
]

-- what an operator publishes next, where it has these sets and these changes are pending
module _ (o : Origin) (css : List (List Change)) (cs : List Change) (n : ℕ)
    (is : IsOperatorIn o (record { published = of_sets css; pending = cs })) (number : n ≡ last_number o (of_sets css)) where
  -- it may go on from there
  pub next_operator : n < max_epoch → IsOperatorIn o (record { published = of_sets css ++ Changes cs ∷ []; pending = [] })
  next_operator below = operator_published (arcs_of o) (criteria_of o) o.first (record { published = of_sets css; pending = cs }) is (omega (arith, number))

  -- the number of the next epoch
  pub next_number : n + 1 ≡ last_number o (of_sets css ++ Changes cs ∷ [])
  next_number = omega (arith, number, count_with_set (of_sets css) cs)

  -- it follows
  pub next_follows : (p : Published) → p.history ≡ of_sets css → n < max_epoch
      → MayFollow o p (epoch_of (n + 1) css cs)
  next_follows p shown below = set_follows o p (of_sets css) cs (n + 1) shown (omega (arith, number)) (next_operator below).published

-- the closed history has the last epoch that was published
pub closed_last : (o : Origin) (h : History) → last_number o (h ++ Closed ∷ []) ≡ last_number o h
closed_last o h = ap (λ (css : List (List Change)). o.first + length css) (sets_closed h)
