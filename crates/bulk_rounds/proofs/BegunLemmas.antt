-- How a round begins: what a core changes at its spots are the drops and takes of the machine.
use Rattle.std.proofs.Common.{◌≡◌, ◌⊎◌, ◌↔◌, ℕ, List, [], map, inl, inr, refl, sym, subst, ◌∙◌, arith, Contains}
use Rattle.list_laws.proofs.OnceLaws.{alike_through, decidable_in, empty_if_none, list_all}
use Rattle.list_laws.proofs.SetLaws.{none_of_empty, same_by_permutation}
use Rattle.event_machine.specs.Machine.{Task, SearchState, HasSettled, IsEntry, LeadsOn, settled, dropped, waiting}
use Rattle.road_network.specs.Labels.{Label}
use Rattle.event_machine.specs.Events.{drop, take, IsReached, MayDrop}
use Rattle.event_machine.specs.Rounds.{IsBetweenRounds, NoneStays}
use Rattle.event_machine.specs.Orders.{DropsAll, IsBegun, IsNext, Stays}
use Rattle.event_machine.proofs.Sound.{cases_label}
use Rattle.event_machine.proofs.Running.{reached_by_run}
use Rattle.event_machine.proofs.BegunLaws.{all_drops, begins_is_begun, decidable_may_drop}
use Rattle.bulk_rounds.specs.Begins.{FindsNone, LosesSpent, SomeOpen, TakesNext}
use Rattle.bulk_rounds.specs.Cores.{Core, IsSettledIn, IsSpent, SameSearch, Spot, Waits, costs_at}
use Rattle.bulk_rounds.specs.Standing.{IsAt, IsSearchOf, as_spot}
use Rattle.bulk_rounds.specs.Taking.{IsNextIn, IsOpenIn}
use Rattle.bulk_rounds.proofs.KeptLemmas.{next_unsettled}
use Rattle.bulk_rounds.proofs.SpentLemmas.{barred_on, decidable_spent, next_spot, next_told, open_if_stays, settled_not_waiting, sound, spent_on}
use Rattle.bulk_rounds.proofs.SpentLemmas.{spot_by_parts, stands_by, stays_below_open}

-- a core of the same search searches for the same tasks
pub same_task : (task : Task) (before after : Core) → SameSearch before after → IsSearchOf task before → IsSearchOf task after
same_task task before after same is = grind arith

-- where settled labels stay, what is settled stays so
has_on : {a b : SearchState} {v : ℕ} {c : List ℕ} → ((y : Label) → Contains a.settled y → Contains b.settled y) → HasSettled a v c → HasSettled b v c
has_on kept h = record { label = h.label; settled = kept h.label h.settled; node = h.node; cost = h.cost }

-- ---- what is spent leaves, and entries stay

module _ (task : Task) (before after : Core) (s next : SearchState) (search : SameSearch before after) (loses : LosesSpent before after)
    (at : IsAt task before s) (reached : IsReached task next) (settles : (v : ℕ) (c : List ℕ) → Contains (costs_at after v) c ↔ HasSettled next v c)
    (kept : (x : Spot) → IsSettledIn before x → IsSettledIn after x) (old : (y : Label) → Contains next.waiting y → Contains s.waiting y)
    (present : (y : Label) → Contains s.waiting y → IsEntry next y) where
  stands_on : ((p : Label × ℕ) → Contains next.unrelaxed p
      ↔ (Contains next.settled p.0 × Contains after.taken (as_spot p.0) × LeadsOn task.network p.0.node p.1)) → next.candidates ≡ [] → ((x : Spot) → Contains after.taken x → HasSettled next x.node x.cost) → IsAt task after next
  stands_on = stands_by task after next (same_task task before after search at.search) settles reached
      (λ y there. elim (at.stands.waiting_in y (old y there)) [
        | inl waits ↦ loses.gone (as_spot y) waits
        | inr barred ↦ inr (inr (barred_on before after search kept y.cost barred))
      ])
      (λ x (i, there, is). elim (at.stands.waiting_of x (i, loses.was i there, is)) [
        | inl spent ↦ inl (spent_on before after search kept x spent)
        | inr below ↦ inr (below.label, present below.label below.waits, below.node, below.at_most)
      ])

-- spent spots may leave the queue
pub queue_may_lose : (task : Task) (before after : Core) (s : SearchState) → SameSearch before after
    → ((x : Spot) → IsSettledIn after x ↔ IsSettledIn before x) → after.taken ≡ before.taken → LosesSpent before after → IsAt task before s → IsAt task after s
queue_may_lose task before after s search alike same loses at = stands_on task before after s s search loses at at.reached
    (λ v c. alike_through (alike (record { cost = c; node = v })) (at.stands.settled v c)) (λ x. (alike x).1) (λ y there. there) (λ y there. (waiting, there))
    (λ p. rw same (at.stands.unrelaxed p)) at.stands.candidates (λ x there. at.stands.taken x (rw same at there))

module _ (task : Task) (core : Core) (s : SearchState) (at : IsAt task core s) where
  unsettled_waits : (y : Label) → Contains s.settled y → ¬ Contains s.waiting y
  unsettled_waits = settled_not_waiting task core s at.search at.stands.settled at.reached

  -- ---- the drops

  module _ (left : SearchState) (all : DropsAll task s left) where
    left_settled : (y : Label) → Contains s.settled y ↔ Contains left.settled y
    left_settled y = let entry = all.entries settled y in let not = unsettled_waits y in grind arith

    left_unrelaxed : (p : Label × ℕ) → Contains left.unrelaxed p
        ↔ (Contains left.settled p.0 × Contains core.taken (as_spot p.0) × LeadsOn task.network p.0.node p.1)
    left_unrelaxed p = let a = all.unrelaxed p in let u = at.stands.unrelaxed p in let n = left_settled p.0 in grind arith

    reached_by_drops : IsReached task left
    reached_by_drops =
        let (drops, each) = list_all cases_label (MayDrop task s) (decidable_may_drop task s) s.waiting (λ l may. may.waits) in
        reached_by_run task s left (map (λ l. drop l) drops) at.reached (((all_drops task s (sound task core s at) drops each).1 left).1 all)

    -- the core stands for the state without what may be dropped, too
    pub drops_need_nothing : IsAt task core left
    drops_need_nothing = stands_on task core core s left (record { nodes = refl; criteria = refl; start = refl; target = refl; limit = refl; budget = refl })
        (record { was = λ i there. there; gone = λ x waits. inl waits }) at reached_by_drops
        (λ v c. alike_through (at.stands.settled v c) (has_on (λ y. (left_settled y).0), has_on (λ y. (left_settled y).1))) (λ x there. there)
        (λ y there. elim ((all.entries waiting y).0 there) [ inl old ↦ old.0 | inr (wrong, _) ↦ absurd cc ])
        (λ y waits. elim (decidable_may_drop task s y) [
          | inl may ↦ (dropped, (all.entries dropped y).1 (inr (refl, may)))
          | inr kept ↦ (waiting, (all.entries waiting y).1 (inl (waits, kept)))
        ])
        left_unrelaxed
        (empty_if_none left.candidates (λ x there. none_of_empty s.candidates at.stands.candidates x
        ((same_by_permutation s.candidates left.candidates all.candidates x).0 there)))
        (λ x there. has_on (λ y. (left_settled y).0) (at.stands.taken x there))

  -- ---- what stays

  pub some_stay : SomeOpen core → (y : Label) × Stays task s y
  some_stay (x, is_open) = let (y, stays, _, _) = stays_below_open task core s at x is_open in (y, stays)

  pub none_stay : ((x : Spot) → ¬ IsOpenIn core x) → NoneStays task s
  none_stay none l waits = let may = decidable_may_drop task s l in let is_open = open_if_stays task core s at l in grind arith

  -- ---- between rounds

  module _ (none : core.taken ≡ []) where
    pub between : IsBetweenRounds s
    between = search (empty_if_none s.unrelaxed (λ p there. none_of_empty core.taken none (as_spot p.0) ((at.stands.unrelaxed p).0 there).1))

    module _ (next : SearchState) (begun : IsBegun task s next) where
      -- the next labels are settled beside those that were
      settled_by_begun : (y : Label) → Contains next.settled y ↔ (Contains s.settled y ⊎ IsNext task s y)
      settled_by_begun y = let entry = begun.entries settled y in let not = unsettled_waits y in grind arith

      -- and the next spots beside those that were
      pub now_settled : (x : Spot) → HasSettled next x.node x.cost ↔ (IsSettledIn core x ⊎ IsNextIn core x)
      now_settled x = (
        λ h. elim ((settled_by_begun h.label).0 h.settled) [
          | inl old ↦ inl ((at.stands.settled x.node x.cost).1 (record { label = h.label; settled = old; node = h.node; cost = h.cost }))
          | inr is ↦ inr (subst (IsNextIn core) (spot_by_parts (as_spot h.label) x h.node h.cost) (next_spot task core s at h.label is))
        ],
        elim [
          | inl old ↦ has_on (λ y there. (settled_by_begun y).1 (inl there)) ((at.stands.settled x.node x.cost).0 old)
          | inr next_in ↦
              let (y, is, same) = (next_told task core s at x).0 next_in in
              subst (λ (z : Spot). HasSettled next z.node z.cost) same
              (record { label = y; settled = (settled_by_begun y).1 (inr is); node = refl; cost = refl })
        ],
      )

      pub reached_by_begins : IsReached task next
      reached_by_begins =
          let h = (begins_is_begun task at.search.is_task s (sound task core s at) between next).1 begun in
          reached_by_run task h.left next (map (λ l. take l) h.takes) (reached_by_run task s h.left (map (λ l. drop l) h.drops) at.reached h.dropping) h.taking

      -- ---- the takes

      module _ (after : Core) (takes : TakesNext core after) where
        after_settled : (x : Spot) → IsSettledIn after x ↔ HasSettled next x.node x.cost
        after_settled x = both (takes.settled x) (takes.taken.exact x) (now_settled x) where
          both : {A O T N H : Type 0} → (A ↔ (O ⊎ T)) → (T ↔ N) → (H ↔ (O ⊎ N)) → (A ↔ H)
          both a t h = grind arith

        present : (y : Label) → Contains s.waiting y → IsEntry next y
        present y waits = elim (decidable_may_drop task s y) [
          | inl may ↦ (dropped, (begun.entries dropped y).1 (inr (inl (refl, may))))
          | inr kept ↦ elim (decidable_in cases_label next.settled y) [
            | inl there ↦ (settled, there)
            | inr other ↦ (waiting, (begun.entries waiting y).1 (inl (waits, kept, λ is. other ((settled_by_begun y).1 (inr is)))))
          ]
        ]

        is_next : (y : Label) → IsNext task s y ↔ (Contains next.settled y × Contains after.taken (as_spot y))
        is_next y = (
          λ is. ((settled_by_begun y).1 (inr is), (takes.taken.exact (as_spot y)).1 (next_spot task core s at y is)),
          λ (there, taken). elim ((settled_by_begun y).0 there) [
            | inr is ↦ is
            | inl old ↦ absurd (next_unsettled core (as_spot y) ((takes.taken.exact (as_spot y)).0 taken)
                ((at.stands.settled y.node y.cost).1 (record { label = y; settled = old; node = refl; cost = refl })))
          ],
        )

        unrelaxed_after : (p : Label × ℕ) → Contains next.unrelaxed p
            ↔ (Contains next.settled p.0 × Contains after.taken (as_spot p.0) × LeadsOn task.network p.0.node p.1)
        unrelaxed_after p = let u = begun.unrelaxed p in let n = is_next p.0 in grind arith

        stands_after : IsAt task after next
        stands_after = stands_on task core after s next takes.same_search takes.queue at reached_by_begins
            (λ v c. after_settled (record { cost = c; node = v })) (λ x there. (takes.settled x).1 (inl there))
            (λ y there. elim ((begun.entries waiting y).0 there) [ inl old ↦ old.0 | inr (inl (wrong, _)) ↦ absurd cc | inr (inr (wrong, _)) ↦ absurd cc ])
            present unrelaxed_after begun.candidates (λ x there. (now_settled x).1 (inr ((takes.taken.exact x).0 there)))

-- the core stands for the state to which drops and takes lead
pub begin_stands : (task : Task) (before after : Core) (s next : SearchState) → before.taken ≡ [] → TakesNext before after → IsAt task before s
    → IsBegun task s next → IsAt task after next
begin_stands task before after s next none takes at begun = stands_after task before s at none next begun after takes

-- ---- where none is open

-- no label stays
pub finds_none_stay : (task : Task) (before after : Core) (s : SearchState) → FindsNone before after → IsAt task before s → NoneStays task s
finds_none_stay task before after s finds at = none_stay task before s at finds.none_open

-- what waited is spent: the core stands for the state without what may be dropped
pub end_stands : (task : Task) (before after : Core) (s left : SearchState) → before.taken ≡ [] → FindsNone before after → IsAt task before s
    → DropsAll task s left → IsAt task after left
end_stands task before after s left none finds at all =
    drops_need_nothing task after s (queue_may_lose task before after s finds.same_search finds.settled (finds.none_taken ∙ sym none) loses at) left all where
      spent : (x : Spot) → Waits before x → IsSpent after x
      spent x waits = let either = decidable_spent before x in let none = finds.none_open x in
          spent_on before after finds.same_search (λ z. (finds.settled z).1) x (grind arith)

      loses : LosesSpent before after
      loses = record { was = λ i there. absurd (none_of_empty after.queue finds.none_waits i there); gone = λ x waits. inr (spent x waits) }
