-- What a queue takes, and what a core keeps where the next spots are taken or candidates are put into its queue.
use Rattle.std.proofs.Common.{◌≡◌, ◌≢◌, ◌⊎◌, ◌↔◌, ℕ, List, [], ◌+◌, ◌≤◌, length, map, inl, inr, refl, sym, subst, ◌∙◌, arith, AllPairs, Contains}
use Rattle.std.proofs.lemmas.List.{length-append}
use Rattle.list_laws.proofs.Members.{in_map, in_none, of_map}
use Rattle.list_laws.proofs.OnceLaws.{lists_append}
use Rattle.list_laws.proofs.Pairs.{pairs_map, pairs_none, pigeonhole}
use Rattle.cost_vector.specs.Costs.{AtMost, Dominates}
use Rattle.cost_vector.proofs.Vectors.{AtMost-refl, cases_same}
use Rattle.bulk_rounds.specs.Begins.{LosesSpent, TakesNext}
use Rattle.bulk_rounds.specs.Cores.{Core, IsSettledIn, IsSpent, Item, SameSearch, Spot, Waits}
use Rattle.bulk_rounds.specs.Kept.{IsFrom, IsKept, IsKeptItem, SparesSettled}
use Rattle.bulk_rounds.specs.Taking.{CountsSettled, IsNextIn, ListsNext}
use Rattle.bulk_rounds.proofs.SpentLemmas.{ascending_once, covered_on, decidable_spent, spent_below, spent_on}
use Rattle.waiting_queue.specs.Taking.{TakesOpenSpots}
use Rattle.waiting_item.specs.Waiting.{SpotLess, spot_of}

-- the cost of one of two next spots of a node is at most the other's only where both are the same
pub next_apart : (core : Core) (x y : Spot) → IsNextIn core x → IsNextIn core y → AtMost x.cost y.cost → x.cost ≡ y.cost
next_apart core x y x_next y_next below = let either = cases_same x.cost y.cost in let none = y_next.none_better x x_next.is_open in grind arith

-- a next spot isn't settled
pub next_unsettled : (core : Core) (x : Spot) → IsNextIn core x → ¬ IsSettledIn core x
next_unsettled core x next there = next.is_open.unspent (inl (record { by = x.cost; settled = there; at_most = AtMost-refl x.cost }))

-- what waits and dominates a next spot of its node isn't spent: it would be open, and the next one would have a better one
pub waiting_spares_next : (core : Core) (x y : Spot) → Waits core x → IsNextIn core y → x.node ≡ y.node → ¬ Dominates x.cost y.cost
waiting_spares_next core x y waits next node less = next.none_better x (record {
  waits = waits;
  unspent = λ spent. next.is_open.unspent (spent_below core x y node less.at_most spent);
}) less

-- there is one number of settled spots
pub one_count : (core : Core) (m n : ℕ) → CountsSettled core m → CountsSettled core n → m ≡ n
one_count core m n a b = omega (arith, no_more core m n a b, no_more core n m b a) where
  no_more : (core : Core) (m n : ℕ) → CountsSettled core m → CountsSettled core n → m ≤ n
  no_more core m n a b = omega (arith, pigeonhole a.spots b.spots a.once.once (λ x there. (b.once.exact x).1 ((a.once.exact x).0 there)))

-- ---- where some spots are settled

module _ {before after : Core} (same : SameSearch before after) (spots : List Spot)
    (settled : (x : Spot) → IsSettledIn after x ↔ (IsSettledIn before x ⊎ Contains spots x)) where
  -- the node from which an item came has a settled cost still
  pub from_on : (i : Item) → IsFrom before i → IsFrom after i
  from_on i was other = covered_on before after same (λ x is. (settled x).1 (inl is)) (record { cost = i.spot.cost; node = i.from }) (was other)

  -- what dominates none of them at its node spares what is settled then
  pub spares_on : (x : Spot) → ((y : Spot) → Contains spots y → x.node ≡ y.node → ¬ Dominates x.cost y.cost) → SparesSettled before x → SparesSettled after x
  spares_on x apart spares e there less = elim ((settled (record { cost = e; node = x.node })).0 there) [
    | inl old ↦ spares e old less
    | inr new ↦ apart (record { cost = e; node = x.node }) new refl less
  ]

  -- a core keeps what it has to where they are different ones that weren't settled, and what waits was kept and spares them
  pub kept_on : (count new : ℕ) → new ≡ count + length spots → new ≤ before.budget → AllPairs ◌≢◌ spots
      → ((x : Spot) → Contains spots x → ¬ IsSettledIn before x) → ((i : Item) → Contains after.queue i
      → IsKeptItem before i × ((y : Spot) → Contains spots y → i.spot.node ≡ y.node → ¬ Dominates i.spot.cost y.cost)) → IsKept before count → IsKept after new
  kept_on count new more few once unsettled each kept =
      let items : (i : Item) → Contains after.queue i → IsKeptItem after i = λ i there. let (was, apart) = each i there in
      record { node = rw same.nodes was.node; spares = spares_on i.spot apart was.spares; from = from_on i was.from } in
      let all = lists_append (IsSettledIn before) (Contains spots) (IsSettledIn after) kept.counted.spots spots settled
      (λ x old new. unsettled x new old) kept.counted.once (record { exact = λ x. (λ h. h, λ h. h); once = once }) in
      search (arith, all, length-append kept.counted.spots spots)

-- where no spot is settled more, so it is if each item that waits then was kept
module _ {before after : Core} (search : SameSearch before after) (same : after.settled ≡ before.settled) where
  pub none_more : (x : Spot) → IsSettledIn after x ↔ (IsSettledIn before x ⊎ Contains [] x)
  none_more x = rw same (λ h. inl h, elim [ inl h ↦ h | inr none ↦ absurd (in_none x none) ])

  pub kept_as : (count : ℕ) → ((i : Item) → Contains after.queue i → IsKeptItem before i) → IsKept before count → IsKept after count
  kept_as count each kept = kept_on search [] none_more count count (omega arith) kept.within (pairs_none ◌≢◌) (λ x none. absurd (in_none x none))
      (λ i there. (each i there, λ y none. absurd (in_none y none))) kept

module _ (before after : Core) (takes : TakesNext before after) where
  next : (x : Spot) → Contains after.taken x → IsNextIn before x
  next x there = (takes.taken.exact x).0 there

  -- what waited dominates no settled cost of its node, those that were taken included
  pub spares_after : (x : Spot) → Waits before x → SparesSettled before x → SparesSettled after x
  spares_after x waits = spares_on takes.same_search after.taken takes.settled x (λ y y_in. waiting_spares_next before x y waits (next y y_in))

  -- what a core keeps stays so
  pub kept_after : (count : ℕ) → IsKept before count → IsKept after (count + length after.taken)
  kept_after count kept = kept_on takes.same_search after.taken takes.settled count (count + length after.taken) refl
      (omega (arith, takes.within, one_count before count takes.count kept.counted takes.counts)) (ascending_once after.taken takes.taken.ascending)
      (λ x there. next_unsettled before x (next x there))
      (λ i there. let was = takes.queue.was i there in (kept.items i was, λ y y_in. waiting_spares_next before i.spot y (i, was, refl) (next y y_in))) kept

-- ---- what a queue takes of what waits, where it is told which spots are open: exactly the next ones

module _ (before : Core) {Open : Spot → Type 0} (opens : (x : Spot) → Open x ↔ ¬ IsSpent before x) (took after : List Item)
    (takes : TakesOpenSpots spot_of Open before.queue took after) where
  -- just the next spots are taken, ascending
  pub lists_next : ListsNext before (map spot_of took)
  lists_next = record {
    ascending = pairs_map (λ a b. SpotLess (spot_of a) (spot_of b)) SpotLess spot_of (λ a b less. less) took takes.ascending;
    exact = λ x. (
      λ there.
          let (i, i_in, same) = of_map spot_of took x there in
          let (waits, is_open, undominated) = (takes.taken x).0 (i, i_in, sym same) in
          record {
            is_open = record { waits = waits; unspent = (opens x).0 is_open };
            none_better = λ z is less.
                let (j, j_in, j_same) = is.waits in undominated j j_in (rw j_same ((opens z).1 is.unspent)) (rw j_same less);
          },
      λ next.
          let (i, i_in, same) = (takes.taken x).1 (
            next.is_open.waits,
            (opens x).1 next.is_open.unspent,
            λ j j_in is_open. next.none_better (spot_of j) (record { waits = (j, j_in, refl); unspent = (opens (spot_of j)).0 is_open }),
          ) in
          subst (Contains (map spot_of took)) same (in_map spot_of took i i_in),
    );
  }

  -- and where they are settled then, what left is spent
  pub loses_spent : (later : Core) → SameSearch before later → later.queue ≡ after
      → ((x : Spot) → IsSettledIn later x ↔ (IsSettledIn before x ⊎ Contains (map spot_of took) x)) → LosesSpent before later
  loses_spent later same_search same settled = record {
    was = λ i there. (takes.stays i (rw same at there)).0;
    gone = λ x (i, i_in, is). elim (takes.leaves i i_in) [
      | inl (j, stays, j_same) ↦ inl (j, rw same stays, j_same ∙ is)
      | inr (inl (j, j_in, j_same)) ↦
          let there = subst (Contains (map spot_of took)) (j_same ∙ is) (in_map spot_of took j j_in) in
          inr (inl (record { by = x.cost; settled = (settled x).1 (inr there); at_most = AtMost-refl x.cost }))
      | inr (inr closed) ↦ elim (decidable_spent before (spot_of i)) [
        | inl spent ↦ inr (spent_on before later same_search (λ z is_in. (settled z).1 (inl is_in)) x (subst (IsSpent before) is spent))
        | inr unspent ↦ absurd (closed ((opens (spot_of i)).1 unspent))
      ]
    ];
  }
