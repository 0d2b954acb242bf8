-- The states of the search backwards: what is known for a node is exact where no item that waits is less, and each step keeps
-- what a state keeps.
use Rattle.std.proofs.Common.{◌≡◌, ◌≢◌, ℕ, ◌+◌, ◌*◌, ◌-◌, ◌^◌, ◌<◌, ◌≤◌, List, [], ◌∷◌, length, get_or, replicate, set, inl, inr, ◌⊎◌, refl, sym, ap, subst, ◌∙◌, arith}
use Rattle.std.specs.Prelude.{All, Contains, IsPermutation}
use Rattle.std.specs.BinaryHeap.{IsUpperBound}
use Rattle.std.specs.Ordering.{is_lt, nat_cmp, ordering_then}
use Rattle.std.specs.declared.cmp.Ordering.TheVariants.{Less}
use Rattle.std.specs.Cmp.{nat_cmp_is}
use Rattle.std.proofs.lemmas.Bool.{cases_eq, cases_lt, false≢true}
use Rattle.std.proofs.lemmas.List.{get_or_default, get_or-replicate, get_or-set_other, get_or-set_same, length-replicate, length-set}
use Rattle.std.proofs.lemmas.List.Elements.{All-get_or, All-nil, All-cons}
use Rattle.std.proofs.lemmas.List.Sorted.{Contains-permutation, IsPermutation-sym, length_permutation}
use Rattle.list_laws.proofs.Members.{cases_in, in_none, in_one, in_rest, each_in}
use Rattle.cost_vector.specs.Costs.{plus}
use Rattle.cost_vector.proofs.Components.{get_or-plus}
use Rattle.road_network.specs.Network.{Network, IsNetwork, IsNode, Leads}
use Rattle.road_network.specs.Walks.{IsWalk}
use Rattle.road_network.proofs.WalkLaws.{leads_by_vector, leads_from_node, leads_to_node, length_of_walk, start_of_walk}
use Rattle.road_network.proofs.BestLaws.{each_has_best_below}
use Rattle.road_network.proofs.FiniteLaws.{best_is_short}
use Rattle.road_network.proofs.SumLaws.{sum_of_walk}
use Rattle.arc_graph.specs.Graph.{IsRoadNetwork}
use Rattle.goal_laws.specs.Goal.{HasWalkOf}
use Rattle.goal_bounds.specs.Reverse.{GoesBack, IsExpanded, IsFinal, IsFoundAlong, IsLeastOf, IsReverse, Item, NoneLeads, ReverseSearch, by_value, item, unreached, value_at, weight_of}

-- an item that waits has at most the number x
record HasItemBelow (s : ReverseSearch) (x : ℕ) : Type 0 where
  pub item : Item
  pub there : Contains s.items item
  pub below : item.0.value ≤ x

-- the same search, where these items wait
abbrev pub with_items : ReverseSearch → List Item → ReverseSearch
with_items s items = record { target = s.target; criterion = s.criterion; values = s.values; items = items }

-- none is less than the top of a heap
pub none_less : (x : Item) (xs : List Item) → IsUpperBound by_value x xs → All (λ y. x.0.value ≤ y.0.value) xs
none_less x [] top = All-nil (λ y. x.0.value ≤ y.0.value)
none_less x (y ∷ ys) top =
    All-cons (λ z. x.0.value ≤ z.0.value) y ys (at_most (cases_lt y.0.value x.0.value)) (none_less x ys top.1) where
      at_most : (y.0.value < x.0.value) ⊎ (x.0.value ≤ y.0.value) → x.0.value ≤ y.0.value
      at_most (inr above) = above
      at_most (inl below) =
          let less = ap (λ o. is_lt (ordering_then o (nat_cmp y.0.node.0 x.0.node.0))) (nat_cmp_is y.0.value x.0.value Less below) in
          absurd (false≢true (sym top.0 ∙ sym less))

-- what is read at a node is what is known for it
pub known_at_node : (net : Network) (t j : ℕ) (s : ReverseSearch) → IsReverse net t j s → (v x : ℕ) → IsNode net.nodes v
    → x ≡ get_or s.values v x → x ≡ value_at s v
known_at_node net t j s reverse v x node read = read ∙ get_or_default s.values v x 0 (omega (arith, node.1, reverse.count))

-- what is known for a node is final where the top isn't less
pub final_by_top : (s : ReverseSearch) (v : ℕ) (top : Item) → All (λ y. top.0.value ≤ y.0.value) s.items → value_at s v ≤ top.0.value → IsFinal s v
final_by_top s v top all below i there = omega (arith, below, each_in (λ (y : Item). top.0.value ≤ y.0.value) s.items all i there)

-- and where nothing waits
pub final_at_end : (s : ReverseSearch) (v : ℕ) → s.items ≡ [] → IsFinal s v
final_at_end s v none i there = absurd (in_none i (subst (λ xs. Contains xs i) none there))

module _ (net : Network) (road : IsRoadNetwork net) (t : ℕ) where
  abbrev is : IsNetwork net
  is = road.network

  -- what is found along an arc is a walk's
  pub walk_along : (j v x u y : ℕ) → IsFoundAlong net j v x u y → HasWalkOf net v t j x → HasWalkOf net u t j y
  walk_along j v x u y found walk =
      let long : length found.by ≡ length walk.cost =
      (leads_by_vector net is found.arc u v found.by found.leads).whole ∙ sym (length_of_walk net is walk.arcs v t walk.cost walk.walk) in
      record {
        arcs = found.arc ∷ walk.arcs;
        cost = plus found.by walk.cost;
        walk = record { by = found.by; at = v; onward = walk.cost; leads = found.leads; walk = walk.walk; cost = refl };
        component = omega (arith, get_or-plus found.by walk.cost j long, walk.component, found.value);
      }

  -- what is at most that component of all walks is small
  pub least_is_small : (v j x : ℕ) → j < net.criteria → (p c : List ℕ) → IsWalk net v p t c → ((q d : List ℕ) → IsWalk net v q t d → x ≤ get_or d j 0)
      → x < 2 ^ 55
  least_is_small v j x within p c walk least =
      let below = each_has_best_below net is p v t c walk in
      let best = below.best.reached in
      let short = best_is_short net is best.0 v t below.cost best.1 below.best in
      let inside : j < length below.cost = omega (arith, within, length_of_walk net is best.0 v t below.cost best.1) in
      let sums = sum_of_walk net road.small is best.0 v t below.cost best.1 in
      let most : get_or below.cost j 0 ≤ length best.0 * (2 ^ 32 - 1) = All-get_or (λ y. y ≤ length best.0 * (2 ^ 32 - 1)) below.cost j 0 inside sums in
      omega (arith, most, short, road.nodes, least best.0 below.cost best.1)

  -- the search begins with the target alone
  pub target_alone : (j : ℕ) → IsNode net.nodes t → j < net.criteria → (items : List Item) → IsPermutation (item 0 t ∷ []) items
      → IsReverse net t j (record { target = t; criterion = j; values = set (replicate (net.nodes + 1) unreached) t 0; items = items })
  target_alone j node within items pushed = record {
    target_is = refl;
    criterion_is = refl;
    target_node = node;
    criterion_there = within;
    count = long;
    started = here;
    known = λ v there reached. elim (cases_eq v t) [
      | inl same ↦ subst (HasWalkOf net v t j) (sym (subst (λ u. get_or values u 0 ≡ 0) (sym same) here)) (subst (λ u. HasWalkOf net u t j 0) (sym same) standing)
      | inr other ↦ absurd (reached (elsewhere v there other))
    ];
    waiting = λ i there.
        let same = in_one (item 0 t) i (Contains-permutation items (item 0 t ∷ []) i (IsPermutation-sym (item 0 t ∷ []) items pushed) there) in
        subst (λ (y : Item). HasWalkOf net y.0.node.0 t j y.0.value) (sym same) standing;
    expanded = λ v there. elim (cases_eq v t) [
      | inl same ↦ inr (subst (λ u. Contains items (item (get_or values u 0) u)) (sym same)
          (subst (λ x. Contains items (item x t)) (sym here) (Contains-permutation (item 0 t ∷ []) items (item 0 t) pushed (0, omega arith, refl))))
      | inr other ↦ inl (λ k u w arc.
          let node_too = leads_from_node net is k u v w arc in
          omega (arith, elsewhere v there other, most u node_too))
    ];
  } where
    values : List ℕ
    values = set (replicate (net.nodes + 1) unreached) t 0

    long : length values ≡ net.nodes + 1
    long = length-set (replicate (net.nodes + 1) unreached) t 0 ∙ length-replicate (net.nodes + 1) unreached

    here : get_or values t 0 ≡ 0
    here = get_or-set_same (replicate (net.nodes + 1) unreached) t 0 0 (omega (arith, node.1, length-replicate (net.nodes + 1) unreached))

    elsewhere : (v : ℕ) → IsNode net.nodes v → v ≢ t → get_or values v 0 ≡ unreached
    elsewhere v there other =
        get_or-set_other (replicate (net.nodes + 1) unreached) t v 0 0 other ∙ get_or-replicate (net.nodes + 1) v unreached 0 (omega (arith, there.1))

    most : (v : ℕ) → IsNode net.nodes v → get_or values v 0 ≤ unreached
    most v there = elim (cases_eq v t) [
      | inl same ↦ omega (arith, subst (λ u. get_or values u 0 ≡ 0) (sym same) here)
      | inr other ↦ omega (arith, elsewhere v there other)
    ]

    standing : HasWalkOf net t t j 0
    standing = record {
      arcs = [];
      cost = replicate net.criteria 0;
      walk = (node, refl, refl);
      component = get_or-replicate net.criteria j 0 0 within;
    }

  module _ (j : ℕ) (s : ReverseSearch) (reverse : IsReverse net t j s) where
    -- each walk's component is at least what is known where the walk begins, or at least some item that waits
    frontier : (p : List ℕ) (v : ℕ) (c : List ℕ) → IsWalk net v p t c → (value_at s v ≤ get_or c j 0) ⊎ HasItemBelow s (get_or c j 0)
    frontier [] v c walk =
        let none : value_at s v ≡ 0 = subst (λ u. value_at s u ≡ 0) (sym walk.1) reverse.started in
        inl (omega (arith, none))
    frontier (k ∷ rest) v c walk =
        let long : length walk.by ≡ length walk.onward =
        (leads_by_vector net is k v walk.at walk.by walk.leads).whole ∙ sym (length_of_walk net is rest walk.at t walk.onward walk.walk) in
        let total : get_or c j 0 ≡ get_or walk.by j 0 + get_or walk.onward j 0 =
        ap (λ z. get_or z j 0) walk.cost ∙ get_or-plus walk.by walk.onward j long in
        elim (frontier rest walk.at walk.onward walk.walk) [
          | inr waits ↦ inr (record { item = waits.item; there = waits.there; below = omega (arith, waits.below, total) })
          | inl known ↦ elim (reverse.expanded walk.at (leads_to_node net is k v walk.at walk.by walk.leads)) [
            | inr waits ↦ inr (record { item = item (value_at s walk.at) walk.at; there = waits; below = omega (arith, known, total) })
            | inl expanded ↦
                let far = subst (λ i. value_at s v ≤ value_at s walk.at + get_or walk.by i 0) reverse.criterion_is
                (expanded k v walk.by walk.leads) in
                inl (omega (arith, far, known, total))
          ]
        ]

    -- ---- where no item is less

    module _ (v : ℕ) (final : IsFinal s v) where
      known_is_least : (p c : List ℕ) → IsWalk net v p t c → value_at s v ≤ get_or c j 0
      known_is_least p c walk = elim (frontier p v c walk) [
        | inl known ↦ known
        | inr waits ↦ omega (arith, final waits.item waits.there, waits.below)
      ]

      pub least_where_known : IsNode net.nodes v → value_at s v ≢ unreached → IsLeastOf net v t j (value_at s v)
      least_where_known node known = record { walk = reverse.known v node known; least = known_is_least }

      pub none_where_unknown : value_at s v ≡ unreached → NoneLeads net v t
      none_where_unknown unknown p c walk =
          let small = least_is_small v j (value_at s v) reverse.criterion_there p c walk known_is_least in
          omega (arith, small, unknown)

    -- ---- the least item is taken out

    waits_at_node : (i : Item) → Contains s.items i → IsNode net.nodes i.0.node.0
    waits_at_node i there = let walk = reverse.waiting i there in start_of_walk net is walk.arcs i.0.node.0 t walk.cost walk.walk

    least_item_is_small : (i : Item) → Contains s.items i → All (λ y. i.0.value ≤ y.0.value) s.items → value_at s i.0.node.0 ≡ i.0.value
        → i.0.value < 2 ^ 55
    least_item_is_small i there top known =
        let walk = reverse.waiting i there in
        least_is_small i.0.node.0 j i.0.value reverse.criterion_there walk.arcs walk.cost walk.walk
        (λ q d other. elim (frontier q i.0.node.0 d other) [
          | inl at_most ↦ omega (arith, at_most, known)
          | inr waits ↦ omega (arith, each_in (λ (y : Item). i.0.value ≤ y.0.value) s.items top waits.item waits.there, waits.below)
        ])

    module _ (i : Item) (items : List Item) (taken : IsPermutation s.items (i ∷ items)) where
      was_waiting : Contains s.items i
      was_waiting = Contains-permutation (i ∷ items) s.items i (IsPermutation-sym s.items (i ∷ items) taken) (0, omega arith, refl)

      pub popped_at_node : IsNode net.nodes i.0.node.0
      popped_at_node = waits_at_node i was_waiting

      pub popped_is_small : All (λ y. i.0.value ≤ y.0.value) s.items → value_at s i.0.node.0 ≡ i.0.value → i.0.value < 2 ^ 55
      popped_is_small = least_item_is_small i was_waiting

      waited : (y : Item) → Contains items y → Contains s.items y
      waited y there = Contains-permutation (i ∷ items) s.items y (IsPermutation-sym s.items (i ∷ items) taken) (in_rest i items y there)

      waits_or_taken : (y : Item) → Contains s.items y → (y ≡ i) ⊎ Contains items y
      waits_or_taken y there = cases_in i items y (Contains-permutation s.items (i ∷ items) y taken there)

      pub one_fewer : weight_of (with_items s items) < weight_of s
      one_fewer = omega (arith, length_permutation s.items (i ∷ items) taken)

      -- an item for whose node less is known can be left out
      pub without_item : value_at s i.0.node.0 ≢ i.0.value → IsReverse net t j (with_items s items)
      without_item other = record {
        target_is = reverse.target_is;
        criterion_is = reverse.criterion_is;
        target_node = reverse.target_node;
        criterion_there = reverse.criterion_there;
        count = reverse.count;
        started = reverse.started;
        known = reverse.known;
        waiting = λ y there. reverse.waiting y (waited y there);
        expanded = expanded;
      } where
        expanded : (v : ℕ) → IsNode net.nodes v → IsExpanded net (with_items s items) v ⊎ Contains items (item (value_at s v) v)
        expanded v node = elim (reverse.expanded v node) [
          | inl done ↦ inl done
          | inr waits ↦ elim (waits_or_taken (item (value_at s v) v) waits) [
            | inr there ↦ inr there
            | inl same ↦
                let at : v ≡ i.0.node.0 = ap (λ (y : Item). y.0.node.0) same in
                let value : value_at s v ≡ i.0.value = ap (λ (y : Item). y.0.value) same in
                absurd (other (subst (λ u. value_at s u ≡ i.0.value) at value))
          ]
        ]

      -- from the node of any other one the search goes back along all arcs
      pub with_expanded : (after : ReverseSearch) → value_at s i.0.node.0 ≡ i.0.value
          → GoesBack net i.0.node.0 i.0.value (λ k. Unit {0}) (with_items s items) after → IsReverse net t j after
      with_expanded after known back = record {
        target_is = back.target ∙ reverse.target_is;
        criterion_is = back.criterion ∙ reverse.criterion_is;
        target_node = reverse.target_node;
        criterion_there = reverse.criterion_there;
        count = back.count ∙ reverse.count;
        started = omega (arith, back.lower t, reverse.started);
        known = still_known;
        waiting = waiting;
        expanded = expanded;
      } where
        found_walk : (u y : ℕ) → IsFoundAlong net s.criterion i.0.node.0 i.0.value u y → HasWalkOf net u t j y
        found_walk u y found =
            walk_along j i.0.node.0 i.0.value u y (subst (λ n. IsFoundAlong net n i.0.node.0 i.0.value u y) reverse.criterion_is found)
            (reverse.waiting i was_waiting)

        still_known : (u : ℕ) → IsNode net.nodes u → value_at after u ≢ unreached → HasWalkOf net u t j (value_at after u)
        still_known u node reached = elim (back.changed u) [
          | inl same ↦ subst (HasWalkOf net u t j) (sym same) (reverse.known u node (λ e. reached (same ∙ e)))
          | inr new ↦ found_walk u (value_at after u) new.1
        ]

        waiting : (y : Item) → Contains after.items y → HasWalkOf net y.0.node.0 t j y.0.value
        waiting y there = elim (back.come y there) [
          | inl before ↦ reverse.waiting y (waited y before)
          | inr found ↦ found_walk y.0.node.0 y.0.value found
        ]

        stays : (u : ℕ) → value_at after u ≡ value_at s u → IsExpanded net s u → IsExpanded net after u
        stays u same done k z w arc =
            let far = done k z w arc in
            let along : get_or w after.criterion 0 ≡ get_or w s.criterion 0 = ap (λ n. get_or w n 0) back.criterion in
            omega (arith, far, back.lower z, same, along)

        goes : (u : ℕ) → value_at after u ≡ value_at s u → item (value_at s u) u ≡ i → IsExpanded net after u
        goes u same is_it k z w arc =
            let at : u ≡ i.0.node.0 = ap (λ (y : Item). y.0.node.0) is_it in
            let value : value_at s u ≡ i.0.value = ap (λ (y : Item). y.0.value) is_it in
            let near = back.reached k z w tt (subst (Leads net k z w) at arc) in
            let along : get_or w after.criterion 0 ≡ get_or w s.criterion 0 = ap (λ n. get_or w n 0) back.criterion in
            omega (arith, near, same, value, along)

        expanded : (u : ℕ) → IsNode net.nodes u → IsExpanded net after u ⊎ Contains after.items (item (value_at after u) u)
        expanded u node = elim (back.changed u) [
          | inr new ↦ inr new.0
          | inl same ↦ elim (reverse.expanded u node) [
            | inl done ↦ inl (stays u same done)
            | inr waits ↦ elim (waits_or_taken (item (value_at s u) u) waits) [
              | inl is_it ↦ inl (goes u same is_it)
              | inr there ↦ inr (subst (λ x. Contains after.items (item x u)) (sym same) (back.kept (item (value_at s u) u) there))
            ]
          ]
        ]
