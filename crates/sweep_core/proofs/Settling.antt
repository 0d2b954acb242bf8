-- A step that settles the least item keeps what a state keeps.
use Rattle.std.proofs.Common.{IfSome, Some, ◌≡◌, ◌⊎◌, ℕ, ◌+◌, ◌*◌, ◌-◌, ◌^◌, ◌<◌, ◌≤◌, List, [], ◌∷◌, inl, inr, sym, ap, subst, ◌∙◌, arith}
use Rattle.std.specs.Prelude.{All, Contains}
use Rattle.std.proofs.lemmas.Bool.{cases_eq}
use Rattle.std.proofs.lemmas.List.Elements.{All-replicate, All-weaker, Contains-append_left, Contains-push}
use Rattle.list_laws.proofs.Members.{all_got, cases_push, each_in}
use Rattle.cost_vector.specs.Costs.{AtMost, LexLess, plus}
use Rattle.cost_vector.proofs.Vectors.{All-plus, LexLess-irrefl}
use Rattle.road_network.specs.Limits.{max_budget}
use Rattle.road_network.specs.Network.{Network}
use Rattle.arc_graph.specs.Graph.{IsRoadNetwork}
use Rattle.waiting_item.specs.Waiting.{Spot, Waiting}
use Rattle.settled_front.specs.Fronts.{IsCovered}
use Rattle.sweep_parts.specs.Settled.{IsBehind, Pushes, costs_of, count_settled}
use Rattle.sweep_parts.specs.Leaving.{Leaves}
use Rattle.sweep_core.specs.Potentials.{IsConsistent, IsRelevantBy, Potential}
use Rattle.sweep_core.specs.Sweeps.{CameFromBelow, Follows, IsExpanded, IsFromSettled, IsHandled, IsLifted, IsRelaxing, IsSettledIn, IsSweep, Sweep, costs_at, with_both}
use Rattle.sweep_core.proofs.Ascending.{all_behind_above, behind_pushed}
use Rattle.sweep_core.proofs.Leaving.{still, there, waited}
use Rattle.sweep_core.proofs.Lifted.{one_cost}

module _ (net : Network) (road : IsRoadNetwork net) (t : ℕ) (P : Potential) (is : IsConsistent net t P) (s : Sweep) (sweep : IsSweep net P s)
    (i : Waiting) (rest : List Waiting) (leaves : Leaves s.queue i rest)
    (settled : List (List (List ℕ))) (pushes : Pushes s.settled i.spot.node i.spot.cost settled) where
  abbrev here : Contains s.queue i
  here = there net t P is s sweep i rest leaves

  -- what was settled is, and the item that left
  stays : (v : ℕ) (c : List ℕ) → Contains (costs_at s v) c → Contains (costs_of settled v) c
  stays v c old = elim (cases_eq v i.spot.node) [
    | inl here ↦ subst (λ u. Contains (costs_of settled u) c) (sym here)
        (subst (λ costs. Contains costs c) (sym pushes.pushed)
        (Contains-append_left (costs_at s i.spot.node) (i.spot.cost ∷ []) c (subst (λ u. Contains (costs_at s u) c) here old)))
    | inr other ↦ subst (λ costs. Contains costs c) (sym (pushes.others v other)) old
  ]

  settled_now : Contains (costs_of settled i.spot.node) i.spot.cost
  settled_now = subst (λ costs. Contains costs i.spot.cost) (sym pushes.pushed) (Contains-push (costs_at s i.spot.node) i.spot.cost)

  was : (x : Spot) → IsSettledIn settled x → IsSettledIn s.settled x ⊎ (x ≡ i.spot)
  was x now = elim (cases_eq x.node i.spot.node) [
    | inl here ↦
        elim (cases_push (costs_at s i.spot.node) i.spot.cost x.cost (subst (λ costs. Contains costs x.cost) (ap (costs_of settled) here ∙ pushes.pushed) now)) [
          | inl old ↦ inl (subst (λ u. Contains (costs_at s u) x.cost) (sym here) old)
          | inr last ↦ inr (λ p. record { cost = last p; node = here p })
        ]
    | inr other ↦ inl (subst (λ costs. Contains costs x.cost) (pushes.others x.node other) now)
  ]

  covered_stays : (v : ℕ) (c : List ℕ) → IsCovered (costs_at s v) c → IsCovered (costs_of settled v) c
  covered_stays v c h = record { by = h.by; contains = stays v h.by h.contains; at_most = h.at_most }

  came_stays : (j : Waiting) → CameFromBelow s.settled j → CameFromBelow settled j
  came_stays j (inl none) = inl none
  came_stays j (inr covered) = inr (covered_stays j.from j.spot.cost covered)

  from_stays : (x : Spot) → IsFromSettled net P s.start s.settled x → IsFromSettled net P s.start settled x
  from_stays x from = record {
    lifted = from.lifted;
    from = elim (from.from) [
      | inl start ↦ inl start
      | inr along ↦ inr (record {
        from = along.from;
        there = stays along.from.node along.from.cost along.there;
        before = along.before;
        arc = along.arc;
        by = along.by;
        leads = along.leads;
        cost = along.cost;
      })
    ];
  }

  -- its cost is small
  small_now : (from : IsFromSettled net P s.start s.settled i.spot) → All (λ x. x ≤ (count_settled s.settled + 1) * (2 ^ 32 - 1)) from.lifted.cost
  small_now from = elim (from.from) [
    | inl start ↦ subst (All (λ x. x ≤ (count_settled s.settled + 1) * (2 ^ 32 - 1))) (sym start.1)
        (All-replicate (λ x. x ≤ (count_settled s.settled + 1) * (2 ^ 32 - 1)) net.criteria 0 (omega arith))
    | inr along ↦
        let n = count_settled s.settled in
        let before = sweep.small along.from along.before along.there in
        let by = all_got (λ st. IfSome st (All (λ x. x < 2 ^ 32))) net.states (along.arc - 1) (Some along.by) road.small along.leads.passable in
        let by_most = All-weaker (λ x. x < 2 ^ 32) (λ x. x ≤ 2 ^ 32 - 1) (λ x less. omega (arith, less)) along.by by in
        let sum = All-plus (n * (2 ^ 32 - 1)) (2 ^ 32 - 1) along.before.cost along.by before by_most in
        subst (All (λ x. x ≤ (n + 1) * (2 ^ 32 - 1))) (sym along.cost)
        (All-weaker (λ x. x ≤ n * (2 ^ 32 - 1) + (2 ^ 32 - 1)) (λ x. x ≤ (n + 1) * (2 ^ 32 - 1)) (λ x most. omega (arith, most)) (plus along.before.cost along.by) sum)
  ]

  behind_now : (v : ℕ) → IsBehind (costs_of settled v) i.spot.cost
  behind_now = behind_pushed s.settled settled i.spot.node i.spot.cost i.spot.cost pushes (λ v. sweep.ascending i v here) (LexLess-irrefl i.spot.cost)

  -- what is known while its arcs are followed
  pub relaxing_now : count_settled s.settled < s.budget → s.budget ≤ max_budget → (queue : List Waiting) → IsRelaxing net P (with_both s settled queue) i
  relaxing_now room most queue =
      let from = sweep.waiting_from i here in record {
        count = pushes.long ∙ sweep.count;
        target_node = sweep.target_node;
        lifted = from.lifted;
        small = All-weaker (λ x. x ≤ (count_settled s.settled + 1) * (2 ^ 32 - 1)) (λ x. x < 2 ^ 59)
            (λ x least. omega (arith, least, room, most)) from.lifted.cost (small_now from);
        settled = settled_now;
        behind = behind_now;
        came = came_stays i (sweep.came i here);
      }

  module _ (queue : List Waiting) (follows : Follows net P (with_both s settled []) i (λ k. Unit {0}) rest queue) (room : count_settled s.settled < s.budget)
      (relevant : IsRelevantBy net s.start s.target s.limit P i.spot.node (sweep.waiting_from i here).lifted.cost) where
    abbrev after : Sweep
    after = with_both s settled queue

    handled_stays : (x : Spot) → IsHandled s x → IsHandled after x
    handled_stays x (inl (inl (inl covered))) = inl (inl (inl (covered_stays x.node x.cost covered)))
    handled_stays x (inl (inl (inr barred))) =
        inl (inl (inr (record { by = barred.by; contains = stays s.target barred.by barred.contains; dominates = barred.dominates })))
    handled_stays x (inl (inr beyond)) = inl (inr beyond)
    handled_stays x (inr h) = elim (still net t P is s sweep i rest leaves h.item h.waits) [
      | inl same ↦ inl (inl (inl (subst (λ v. IsCovered (costs_of settled v) x.cost) (ap (λ (j : Waiting). j.spot.node) (sym same) ∙ h.node)
          (record { by = i.spot.cost; contains = settled_now; at_most = subst (λ (j : Waiting). AtMost j.spot.cost x.cost) same h.at_most }))))
      | inr waits ↦ inr (record { item = h.item; waits = follows.kept h.item waits; node = h.node; at_most = h.at_most })
    ]

    newest_relevant : (x : Spot) (b : IsLifted net P x) → x ≡ i.spot → IsRelevantBy net s.start s.target s.limit P x.node b.cost
    newest_relevant x b same =
        subst (λ (y : Spot). (e : IsLifted net P y) → IsRelevantBy net s.start s.target s.limit P y.node e.cost) (sym same)
        (λ e. subst (IsRelevantBy net s.start s.target s.limit P i.spot.node) (one_cost net t P is i.spot (sweep.waiting_from i here).lifted e) relevant) b

    newest_small : (x : Spot) (b : IsLifted net P x) → x ≡ i.spot → All (λ c. c ≤ (count_settled s.settled + 1) * (2 ^ 32 - 1)) b.cost
    newest_small x b same =
        subst (λ (y : Spot). (e : IsLifted net P y) → All (λ c. c ≤ (count_settled s.settled + 1) * (2 ^ 32 - 1)) e.cost) (sym same)
        (λ e. subst (All (λ c. c ≤ (count_settled s.settled + 1) * (2 ^ 32 - 1))) (one_cost net t P is i.spot (sweep.waiting_from i here).lifted e) (small_now (sweep.waiting_from i here))) b

    behind_stays : (j : Waiting) → Contains queue j → (v : ℕ) → IsBehind (costs_of settled v) j.spot.cost
    behind_stays j waits = elim (follows.come j waits) [
      | inl old ↦
          let was = waited net t P is s sweep i rest leaves j old in
          behind_pushed s.settled settled i.spot.node i.spot.cost j.spot.cost pushes (λ v. sweep.ascending j v was)
          (each_in (λ (w : Waiting). ¬ LexLess w.spot.cost i.spot.cost) s.queue leaves.least j was)
      | inr new ↦ λ v. all_behind_above (costs_of settled v) i.spot.cost j.spot.cost new.above (behind_now v)
    ]

    came_now : (j : Waiting) → Contains queue j → CameFromBelow settled j
    came_now j waits = elim (follows.come j waits) [
      | inl old ↦ came_stays j (sweep.came j (waited net t P is s sweep i rest leaves j old))
      | inr new ↦ inr (subst (λ v. IsCovered (costs_of settled v) j.spot.cost) (sym new.came)
          (record { by = i.spot.cost; contains = settled_now; at_most = new.above }))
    ]

    pub settling_keeps : IsSweep net P after
    settling_keeps = record {
      count = pushes.long ∙ sweep.count;
      start_node = sweep.start_node;
      target_node = sweep.target_node;
      started = λ h has. handled_stays (record { cost = h; node = s.start }) (sweep.started h has);
      settled_from = λ x now. elim (was x now) [
        | inl old ↦ from_stays x (sweep.settled_from x old)
        | inr same ↦ subst (IsFromSettled net P s.start settled) (sym same) (from_stays i.spot (sweep.waiting_from i here))
      ];
      waiting_from = λ j waits. elim (follows.come j waits) [
        | inl old ↦ from_stays j.spot (sweep.waiting_from j (waited net t P is s sweep i rest leaves j old))
        | inr new ↦ new.from_settled
      ];
      expanded = λ x now. elim (was x now) [
        | inl old ↦ λ b k v w h leads has. handled_stays _ (sweep.expanded x old b k v w h leads has)
        | inr same ↦ subst (IsExpanded net P after) (sym same) (λ b k v w h leads has. follows.all b k v w h tt leads has)
      ];
      relevant = λ x b now. elim (was x now) [
        | inl old ↦ sweep.relevant x b old
        | inr same ↦ newest_relevant x b same
      ];
      small = λ x b now. elim (was x now) [
        | inl old ↦
            subst (λ n. All (λ c. c ≤ n * (2 ^ 32 - 1)) b.cost) (sym pushes.more)
            (All-weaker (λ c. c ≤ count_settled s.settled * (2 ^ 32 - 1)) (λ c. c ≤ (count_settled s.settled + 1) * (2 ^ 32 - 1)) (λ c most. omega (arith, most)) b.cost (sweep.small x b old))
        | inr same ↦ subst (λ n. All (λ c. c ≤ n * (2 ^ 32 - 1)) b.cost) (sym pushes.more) (newest_small x b same)
      ];
      ascending = λ j v waits. behind_stays j waits v;
      within = λ j waits. elim (follows.come j waits) [
        | inl old ↦ sweep.within j (waited net t P is s sweep i rest leaves j old)
        | inr new ↦ new.within
      ];
      came = came_now;
      few = omega (arith, pushes.more, room);
    }
