-- What is covered, barred, open and next among the spots of a core, told by the labels of the machine; and for which states a core stands.
use Rattle.std.proofs.Common.{◌≡◌, ◌≢◌, ◌⊎◌, ◌↔◌, ℕ, List, [], get_or, inl, inr, refl, sym, subst, ◌∙◌, arith, AllPairs, Contains}
use Rattle.cost_vector.specs.Costs.{AtMost, Dominates, Within}
use Rattle.cost_vector.proofs.Vectors.{AtMost-Dominates, AtMost-trans, Dominates-AtMost, Within-AtMost, cases_AtMost, cases_Dominates, cases_Within, cases_same}
use Rattle.list_laws.proofs.OnceLaws.{IsDecidable, decidable_as, decidable_either, decidable_member, decidable_not}
use Rattle.road_network.specs.Labels.{Label}
use Rattle.event_machine.specs.Events.{IsReached, MayDrop}
use Rattle.event_machine.specs.Orders.{IsNext, Stays}
use Rattle.event_machine.specs.Machine.{Task, SearchState, HasSettled, IsBeatenAtTarget, IsEntry, LeadsOn, settled, dropped, waiting}
use Rattle.event_machine.proofs.Keeping.{sound_if_reached}
use Rattle.event_machine.proofs.Sound.{IsSound}
use Rattle.waiting_queue.proofs.OrderLemmas.{SpotLess-irrefl}
use Rattle.bulk_rounds.specs.Cores.{Core, IsBarred, IsBeatenIn, IsCoveredIn, IsSettledIn, IsSpent, SameSearch, Spot, SpotLess, Waits, costs_at}
use Rattle.bulk_rounds.specs.Standing.{HasWaitingBelow, IsAt, IsSearchOf, as_spot}
use Rattle.bulk_rounds.specs.Taking.{IsNextIn, IsOpenIn}

-- ---- spots

-- a spot by its parts
pub spot_by_parts : (x y : Spot) → x.node ≡ y.node → x.cost ≡ y.cost → x ≡ y
spot_by_parts x y node cost = grind arith

-- spots that ascend are different ones
pub ascending_once : (xs : List Spot) → AllPairs SpotLess xs → AllPairs ◌≢◌ xs
ascending_once xs ascends = λ i j d before within same.
    SpotLess-irrefl (get_or xs i d) (subst (SpotLess (get_or xs i d)) (sym same) (ascends i j d before within))

-- ---- what is spent

-- it can be told whether a spot is spent
pub decidable_spent : (core : Core) (x : Spot) → IsDecidable (IsSpent core x)
decidable_spent core x = decidable_either covered (decidable_either (decidable_not (cases_Within core.limit x.cost)) beaten) where
  covered : IsDecidable (IsCoveredIn core x)
  covered = decidable_as (λ h. record { by = h.0; settled = h.1; at_most = h.2 }) (λ h. (h.by, h.settled, h.at_most))
      (decidable_member (λ c. AtMost c x.cost) (λ c. cases_AtMost c x.cost) (costs_at core x.node))

  beaten : IsDecidable (IsBeatenIn core x.cost)
  beaten = decidable_as (λ h. record { by = h.0; settled = h.1; dominates = h.2 }) (λ h. (h.by, h.settled, h.dominates))
      (decidable_member (λ c. Dominates c x.cost) (λ c. cases_Dominates c x.cost) (costs_at core core.target))

-- what costs at least as much as what is barred or covered is so too
pub barred_below : (core : Core) (b c : List ℕ) → AtMost b c → IsBarred core b → IsBarred core c
barred_below core b c below (inl beyond) = inl (λ within. beyond (Within-AtMost core.limit b c below within))
barred_below core b c below (inr h) = inr (record { by = h.by; settled = h.settled; dominates = Dominates-AtMost h.by b c h.dominates below })

pub covered_below : (core : Core) (y x : Spot) → y.node ≡ x.node → AtMost y.cost x.cost → IsCoveredIn core y → IsCoveredIn core x
covered_below core y x node below h = let there = subst (λ v. Contains (costs_at core v) h.by) node h.settled in
    let at_most = AtMost-trans h.by y.cost x.cost h.at_most below in search

pub spent_below : (core : Core) (y x : Spot) → y.node ≡ x.node → AtMost y.cost x.cost → IsSpent core y → IsSpent core x
spent_below core y x node below (inl covered) = inl (covered_below core y x node below covered)
spent_below core y x node below (inr barred) = inr (barred_below core y.cost x.cost below barred)

-- where settled costs stay, what is spent stays so
module _ (before after : Core) (search : SameSearch before after) (kept : (x : Spot) → IsSettledIn before x → IsSettledIn after x) where
  pub covered_on : (x : Spot) → IsCoveredIn before x → IsCoveredIn after x
  covered_on x h = record { by = h.by; settled = kept (record { cost = h.by; node = x.node }) h.settled; at_most = h.at_most }

  pub barred_on : (c : List ℕ) → IsBarred before c → IsBarred after c
  barred_on c (inl beyond) = inl (rw search.limit beyond)
  barred_on c (inr h) =
      inr (record { by = h.by; settled = rw search.target (kept (record { cost = h.by; node = before.target }) h.settled); dominates = h.dominates })

  pub spent_on : (x : Spot) → IsSpent before x → IsSpent after x
  spent_on x (inl covered) = inl (covered_on x covered)
  spent_on x (inr barred) = inr (barred_on x.cost barred)

-- ---- where the settled costs are those of a state

-- an entry of the spot's node costs at most as much
abbrev pub HasEntryBelow : SearchState → Spot → Type 0
HasEntryBelow s x = (e : Label) × IsEntry s e × (e.node ≡ x.node) × AtMost e.cost x.cost

module _ (task : Task) (core : Core) (s : SearchState) (search : IsSearchOf task core)
    (settles : (v : ℕ) (c : List ℕ) → Contains (costs_at core v) c ↔ HasSettled s v c) where
  -- a cost is barred where the machine finds it useless
  pub barred_told : (c : List ℕ) → IsBarred core c ↔ ((¬ Within task.limit c) ⊎ IsBeatenAtTarget task s c)
  barred_told c = (
    elim [
      | inl beyond ↦ inl (rw search.limit beyond)
      | inr h ↦
          let l = (settles core.target h.by).0 h.settled in
          inr (record { by = l.label; settled = l.settled; node = l.node ∙ sym search.target; dominates = rw l.cost h.dominates })
    ],
    elim [
      | inl beyond ↦ inl (rw search.limit at beyond)
      | inr h ↦
          let there = (settles core.target h.by.cost).1 (record { label = h.by; settled = h.settled; node = h.node ∙ search.target; cost = refl }) in
          inr (record { by = h.by.cost; settled = there; dominates = h.dominates })
    ],
  )

  module _ (reached : IsReached task s) where
    reached_sound : IsSound task s
    reached_sound = sound_if_reached task search.is_task s reached

    pub settled_not_waiting : (y : Label) → Contains s.settled y → ¬ Contains s.waiting y
    settled_not_waiting y there waits = let same : settled ≡ waiting = reached_sound.apart.placed settled waiting y there waits in cc

    -- no settled cost is at most that of a waiting label
    pub waiting_uncovered : (y : Label) → Contains s.waiting y → ¬ IsCoveredIn core (as_spot y)
    waiting_uncovered y waits h =
        let l = (settles y.node h.by).0 h.settled in
        let one = reached_sound.apart.alone l.label y (settled, l.settled) (waiting, waits) l.node (rw l.cost h.at_most) in
        settled_not_waiting y (subst (Contains s.settled) one l.settled) waits

    -- an entry below a spot covers it, bars it or waits
    entry_answers : (x : Spot) → HasEntryBelow s x → IsSpent core x ⊎ HasWaitingBelow s x
    entry_answers x (e, (settled, there), node, below) =
        let is = (settles x.node e.cost).1 (record { label = e; settled = there; node = node; cost = refl }) in
        inl (inl (record { by = e.cost; settled = is; at_most = below }))
    entry_answers x (e, (dropped, there), node, below) =
        inl (inr (barred_below core e.cost x.cost below ((barred_told e.cost).1 (reached_sound.useless e there))))
    entry_answers x (e, (waiting, there), node, below) = inr (record { label = e; waits = there; node = node; at_most = below })

    -- The core stands for the state where each waiting label's spot waits or is spent, and each spot that waits is spent or has an entry below it.
    pub stands_by : ((y : Label) → Contains s.waiting y → Waits core (as_spot y) ⊎ IsSpent core (as_spot y))
        → ((x : Spot) → Waits core x → IsSpent core x ⊎ HasEntryBelow s x)
        → ((p : Label × ℕ) → Contains s.unrelaxed p ↔ (Contains s.settled p.0 × Contains core.taken (as_spot p.0) × LeadsOn task.network p.0.node p.1))
        → s.candidates ≡ [] → ((x : Spot) → Contains core.taken x → HasSettled s x.node x.cost) → IsAt task core s
    stands_by waiting_in waiting_of unrelaxed candidates taken =
        let waits_in : (y : Label) → Contains s.waiting y → Waits core (as_spot y) ⊎ IsBarred core y.cost =
        λ y there. let waits = waiting_in y there in let not = waiting_uncovered y there in grind arith in
        let waits_of : (x : Spot) → Waits core x → IsSpent core x ⊎ HasWaitingBelow s x =
        λ x waits. elim (waiting_of x waits) [ inl spent ↦ inl spent | inr below ↦ entry_answers x below ] in
        assumption

-- ---- what is open and what is next, told by the labels of the machine

module _ (task : Task) (core : Core) (s : SearchState) (at : IsAt task core s) where
  pub sound : IsSound task s
  sound = sound_if_reached task at.search.is_task s at.reached

  -- the spot of a label that stays is open
  pub open_if_stays : (y : Label) → Stays task s y → IsOpenIn core (as_spot y)
  open_if_stays y stays =
      let told = (barred_told task core s at.search at.stands.settled y.cost).0 in
      let waits = at.stands.waiting_in y stays.waits in
      let not = waiting_uncovered task core s at.search at.stands.settled at.reached y stays.waits in
      grind arith

  -- a label that stays lies below each open spot
  pub stays_below_open : (x : Spot) → IsOpenIn core x → (y : Label) × Stays task s y × (y.node ≡ x.node) × AtMost y.cost x.cost
  stays_below_open x is_open = elim (at.stands.waiting_of x is_open.waits) [
    | inl spent ↦ absurd (is_open.unspent spent)
    | inr below ↦
        let barred = λ (may : MayDrop task s below.label).
        barred_below core below.label.cost x.cost below.at_most ((barred_told task core s at.search at.stands.settled below.label.cost).1 may.useless) in
        (below.label, record { waits = below.waits; kept = λ may. is_open.unspent (inr (barred may)) }, below.node, below.at_most)
  ]

  -- the next spots are those of the next labels
  pub next_told : (x : Spot) → IsNextIn core x ↔ ((y : Label) × IsNext task s y × (as_spot y ≡ x))
  next_told x = (
    λ next.
        let (y, stays, node, below) = stays_below_open x next.is_open in
        elim (cases_same y.cost x.cost) [
          | inr other ↦ absurd (next.none_better (as_spot y) (open_if_stays y stays) (record { at_most = below; differs = other }))
          | inl cost ↦ (
            y,
            record {
              stays = stays;
              none_better = λ z z_stays less. next.none_better (as_spot z) (open_if_stays z z_stays) (subst (Dominates z.cost) cost less);
            },
            spot_by_parts (as_spot y) x node cost,
          )
        ],
    λ (y, next, same). subst (IsNextIn core) same (record {
      is_open = open_if_stays y next.stays;
      none_better = λ z is_open less.
          let (l, stays, node, below) = stays_below_open z is_open in
          next.none_better l stays (AtMost-Dominates l.cost z.cost y.cost below less);
    }),
  )

  -- the spot of a label that is next
  pub next_spot : (y : Label) → IsNext task s y → IsNextIn core (as_spot y)
  next_spot y next = (next_told (as_spot y)).1 (y, next, refl)
