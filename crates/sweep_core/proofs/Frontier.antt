-- Of each walk's cost to a node that has a height, with that height added and within the limit, a settled cost there is at most that, a
-- settled cost of the target dominates it, or what waits costs at most as much. So what leaves and isn't spent is relevant by the potential.
use Rattle.std.proofs.Common.{◌≡◌, ◌⊎◌, ℕ, List, [], ◌∷◌, ◌++◌, replicate, reverse, inl, inr, refl, sym, ap, subst, ◌∙◌}
use Rattle.std.specs.Prelude.{Contains}
use Rattle.list_laws.proofs.Members.{each_in}
use Rattle.cost_vector.specs.Costs.{AtMost, Dominates, LexLess, Within, plus}
use Rattle.cost_vector.proofs.Vectors.{AtMost-Dominates, AtMost-cancel, AtMost-plus, AtMost-refl, AtMost-trans, Dominates-plus, LexLess_from_Dominates, Within-AtMost, plus_assoc, plus-zeros, zeros-plus}
use Rattle.road_network.specs.Network.{Network, IsNetwork}
use Rattle.road_network.specs.Walks.{IsWalk, Arrives}
use Rattle.road_network.specs.Best.{IsBest}
use Rattle.road_network.proofs.WalkLaws.{arrives_by_walk, leads_by_vector, length_of_arrival, length_of_walk, walk_on}
use Rattle.waiting_item.specs.Waiting.{Spot, Waiting}
use Rattle.sweep_parts.specs.Settled.{IsDominated}
use Rattle.sweep_parts.specs.Leaving.{Leaves}
use Rattle.settled_front.specs.Fronts.{IsCovered}
use Rattle.sweep_core.specs.Potentials.{IsConsistent, IsRelevantBy, Potential}
use Rattle.sweep_core.proofs.Leaving.{covered_below, dominated_below}
use Rattle.sweep_core.specs.Sweeps.{IsFromSettled, IsHandled, IsSweep, Sweep, costs_at, lifted}

-- what waits costs at most as much
pub record HasWaitingAtMost (queue : List Waiting) (c : List ℕ) : Type 0 where
  pub item : Waiting
  pub waits : Contains queue item
  pub at_most : AtMost item.spot.cost c

abbrev pub IsAhead : Sweep → Spot → Type 0
IsAhead s x = IsCovered (costs_at s x.node) x.cost ⊎ (IsDominated (costs_at s s.target) x.cost ⊎ HasWaitingAtMost s.queue x.cost)

waiting_below : (queue : List Waiting) (b c : List ℕ) → AtMost b c → HasWaitingAtMost queue b → HasWaitingAtMost queue c
waiting_below queue b c below h = record { item = h.item; waits = h.waits; at_most = AtMost-trans h.item.spot.cost b c h.at_most below }

module _ (net : Network) (road : IsNetwork net) (t : ℕ) (P : Potential) (is : IsConsistent net t P) (s : Sweep) (sweep : IsSweep net P s) where
  ahead_of_handled : (x : Spot) → Within s.limit x.cost → IsHandled s x → IsAhead s x
  ahead_of_handled x within (inl (inl (inl covered))) = inl covered
  ahead_of_handled x within (inl (inl (inr barred))) = inr (inl barred)
  ahead_of_handled x within (inl (inr beyond)) = absurd (beyond within)
  ahead_of_handled x within (inr h) = inr (inr (record { item = h.item; waits = h.waits; at_most = h.at_most }))

  pub ahead_of_arrival : (q : List ℕ) (v : ℕ) (c h : List ℕ) → Arrives net s.start q v c → P v h → Within s.limit (plus c h) → IsAhead s (lifted v c h)
  ahead_of_arrival [] v c h walk has within =
      let here = subst (λ u. P u h) (sym walk.1) has in
      let sum : plus c h ≡ h = ap (λ z. plus z h) walk.2 ∙ zeros-plus net.criteria h (is.whole v h has) in
      let start = ahead_of_handled (record { cost = h; node = s.start }) (subst (Within s.limit) sum within) (sweep.started h here) in
      subst (λ u. IsAhead s (lifted u c h)) walk.1 (subst (λ z. IsAhead s (record { cost = z; node = s.start })) (sym sum) start)
  ahead_of_arrival (k ∷ before) v c h walk has within =
      let u = walk.at in let b = walk.before in let w = walk.by in
      let long = length_of_arrival net road before s.start u b walk.walk in
      let vector = (leads_by_vector net road k u v w walk.leads).whole in
      let back = is.along k u v w h walk.leads has in
      let g = back.height in
      let g_long = is.whole u g back.has in
      let h_long = is.whole v h has in
      let up : AtMost (plus b g) (plus c h) =
      subst (λ z. AtMost (plus b g) (plus z h)) (sym walk.cost)
      (subst (AtMost (plus b g)) (sym (plus_assoc b w h)) (AtMost-plus b b g (plus w h) (AtMost-refl b) back.at_most)) in
      elim (ahead_of_arrival before u b g walk.walk back.has (Within-AtMost s.limit (plus b g) (plus c h) up within)) [
        | inr (inl barred) ↦ inr (inl (dominated_below (costs_at s s.target) (plus b g) (plus c h) up barred))
        | inr (inr waits) ↦ inr (inr (waiting_below s.queue (plus b g) (plus c h) up waits))
        | inl covered ↦
            let y : Spot = record { cost = covered.by; node = u } in
            let pair = (sweep.settled_from y covered.contains).lifted in
            let e = pair.cost in
            let sum : covered.by ≡ plus e g = pair.sum ∙ ap (plus e) (is.one u pair.height g pair.has back.has) in
            let less : AtMost e b = AtMost-cancel e b g (pair.whole ∙ sym g_long) (long ∙ sym g_long) (subst (λ z. AtMost z (plus b g)) sum covered.at_most) in
            let far : AtMost (plus (plus e w) h) (plus c h) =
            subst (λ z. AtMost (plus (plus e w) h) (plus z h)) (sym walk.cost)
            (AtMost-plus (plus e w) (plus b w) h h (AtMost-plus e b w w less (AtMost-refl w)) (AtMost-refl h)) in
            let z : Spot = lifted v (plus e w) h in
            elim (ahead_of_handled z (Within-AtMost s.limit z.cost (plus c h) far within) (sweep.expanded y covered.contains pair k v w h walk.leads has)) [
              | inl covered ↦ inl (covered_below (costs_at s v) z.cost (plus c h) far covered)
              | inr (inl barred) ↦ inr (inl (dominated_below (costs_at s s.target) z.cost (plus c h) far barred))
              | inr (inr waits) ↦ inr (inr (waiting_below s.queue z.cost (plus c h) far waits))
            ]
      ]

  pub ahead_of_walk : (p : List ℕ) (v : ℕ) (c h : List ℕ) → IsWalk net s.start p v c → P v h → Within s.limit (plus c h) → IsAhead s (lifted v c h)
  ahead_of_walk p v c h walk = ahead_of_arrival (reverse p) v c h (arrives_by_walk net road p s.start v c walk)

  -- what comes from what is settled has a walk
  walk_of : (x : Spot) (from : IsFromSettled net P s.start s.settled x) → (p : List ℕ) × IsWalk net s.start p x.node from.lifted.cost
  walk_of x from = elim (from.from) [
    | inl start ↦ ([], (sweep.start_node, sym start.0, start.1))
    | inr along ↦
        let best = (sweep.relevant along.from along.before along.there).best.reached in (
          best.0 ++ along.arc ∷ [],
          subst (IsWalk net s.start (best.0 ++ along.arc ∷ []) x.node) (sym along.cost)
              (walk_on net road best.0 s.start along.from.node x.node along.arc along.before.cost along.by best.1 along.leads),
        )
  ]

  -- at the end all that is relevant is settled, and what leaves and isn't spent is relevant
  module _ (i : Waiting) (rest : List Waiting) (leaves : Leaves s.queue i rest) (waits : Contains s.queue i)
      (uncovered : ¬ IsCovered (costs_at s i.spot.node) i.spot.cost) (spared : ¬ IsDominated (costs_at s s.target) i.spot.cost)
      (within : Within s.limit i.spot.cost) (target : s.target ≡ t) where
    none_ahead : (y : Spot) → y.node ≡ i.spot.node → Dominates y.cost i.spot.cost → ¬ IsAhead s y
    none_ahead y node less (inl covered) = uncovered (covered_below (costs_at s i.spot.node) y.cost i.spot.cost less.at_most (subst (λ v. IsCovered (costs_at s v) y.cost) node covered))
    none_ahead y node less (inr (inl barred)) = spared (dominated_below (costs_at s s.target) y.cost i.spot.cost less.at_most barred)
    none_ahead y node less (inr (inr h)) =
        each_in (λ (w : Waiting). ¬ LexLess w.spot.cost i.spot.cost) s.queue leaves.least h.item h.waits
        (LexLess_from_Dominates h.item.spot.cost i.spot.cost (AtMost-Dominates h.item.spot.cost y.cost i.spot.cost h.at_most less))

    target_spares : (z : List ℕ) → IsBest net s.start s.target z → ¬ Dominates z i.spot.cost
    target_spares z best less =
        let walk = best.reached in
        let zero = replicate net.criteria 0 in
        let sum : plus z zero ≡ z = plus-zeros net.criteria z (length_of_walk net road walk.0 s.start s.target z walk.1) in
        let has = subst (λ v. P v zero) (sym target) is.target in
        let inside = subst (Within s.limit) (sym sum) (Within-AtMost s.limit z i.spot.cost less.at_most within) in
        by (subst (λ c. IsAhead s (record { cost = c; node = s.target })) sum (ahead_of_walk walk.0 s.target z zero walk.1 has inside)) where
          by : ¬ IsAhead s (record { cost = z; node = s.target })
          by (inl covered) = spared (record { by = covered.by; contains = covered.contains; dominates = AtMost-Dominates covered.by z i.spot.cost covered.at_most less })
          by (inr (inl barred)) = spared (dominated_below (costs_at s s.target) z i.spot.cost less.at_most barred)
          by (inr (inr h)) = none_ahead (record { cost = z; node = i.spot.node }) refl less (inr (inr h))

    pub next_is_relevant : IsRelevantBy net s.start s.target s.limit P i.spot.node (sweep.waiting_from i waits).lifted.cost
    next_is_relevant =
        let from = sweep.waiting_from i waits in
        let pair = from.lifted in
        let long = is.whole i.spot.node pair.height pair.has in
        record {
          best = record {
            reached = walk_of i.spot from;
            nondominated = λ p b walk less.
                let b_long = length_of_walk net road p s.start i.spot.node b walk in
                let more = subst (Dominates (plus b pair.height)) (sym pair.sum) (Dominates-plus b pair.cost pair.height (b_long ∙ sym long) less) in
                none_ahead (lifted i.spot.node b pair.height) refl more
                (ahead_of_walk p i.spot.node b pair.height walk pair.has (Within-AtMost s.limit (plus b pair.height) i.spot.cost more.at_most within));
          };
          height = pair.height;
          has = pair.has;
          within = subst (Within s.limit) pair.sum within;
          undominated = λ z best less. target_spares z best (subst (Dominates z) (sym pair.sum) less);
        }
