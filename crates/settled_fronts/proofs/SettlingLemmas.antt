-- What is settled where costs come to their nodes' fronts one after another, and what that makes of all fronts.
use Rattle.std.proofs.Common.{◌≡◌, ◌≢◌, ◌⊎◌, ◌↔◌, ℕ, zero, suc, ◌+◌, ◌<◌, ◌≤◌, ◌^◌, List, [], ◌∷◌, length, get_or, map, set, take, inl, inr, refl, sym, ap, subst, ◌∙◌, arith}
use Rattle.std.specs.Prelude.{All, Contains, IsPermutation}
use Rattle.std.proofs.lemmas.Bool.{cases_eq, cases_lt}
use Rattle.std.proofs.lemmas.List.{ext_get_or, get_or-map, get_or-set_other, get_or-set_same, get_or_default, get_or_past, length-map, length-set, set-get_or, set-set}
use Rattle.std.proofs.lemmas.List.Elements.{Contains-get_or}
use Rattle.cost_vector.specs.Costs.{AtMost, Dominates}
use Rattle.list_laws.proofs.Members.{all_from_in, each_in, in_first, in_map, in_none, of_map}
use Rattle.list_laws.proofs.OnceLaws.{decidable_some, once_apart}
use Rattle.list_laws.proofs.Pairs.{pairs_take}
use Rattle.list_laws.proofs.SetLaws.{gains_by_permutation, none_of_empty}
use Rattle.settled_front.specs.Fronts.{IsCovered}
use Rattle.settled_fronts.specs.NodeFronts.{AreStored, Fronts, IsKept, costs_at, costs_by, kept_fronts}
use Rattle.settled_fronts.specs.Settling.{Admits, AreApart, CanSettle, CanSettleAt, Settles, SettlesAll, placed}
use Rattle.settled_fronts.specs.Sharing.{AreAccepted, AreChanged}
use Rattle.settled_fronts.proofs.ListLemmas.{of_take, one_more, take_more}
use Rattle.settled_fronts.proofs.PlacedLemmas.{changed, costs_placed, stored_more}
use Rattle.waiting_item.specs.Waiting.{Spot, spot_in}
use Rattle.waiting_item.specs.declared.item.Item.{Item}

-- the costs of a front
abbrev Costs : Type 0
Costs = List (List ℕ)

-- no spot yet
settles_none : (bound : ℕ) (spots : List Spot) (place : ℕ) (costs : Costs) → Settles bound (take 0 spots) place costs costs
settles_none bound spots place costs = record {
  settled = λ c. (λ old. inl old, elim [ inl old ↦ old | inr none ↦ absurd (in_none _ none) ]);
  stored = λ stored. stored;
  same = λ _. refl;
}

-- the next one, x, comes
module _ {bound place : ℕ} {before mid : Costs} (spots : List Spot) (i : ℕ) (x : Spot) (settles : Settles bound (take i spots) place before mid)
    (below : i < length spots) (is : x ≡ get_or spots i x) where
  more : (y : Spot) → Contains (take (i + 1) spots) y ↔ (Contains (take i spots) y ⊎ (y ≡ x))
  more y = take_more spots i x below is y

  -- to another place
  settles_elsewhere : x.node ≢ place → Settles bound (take (i + 1) spots) place before mid
  settles_elsewhere other = record {
    settled = λ c. let y : Spot = record { cost = c; node = place } in (
      λ h. elim ((settles.settled c).0 h) [ inl old ↦ inl old | inr new ↦ inr ((more y).1 (inl new)) ],
      elim [
        | inl old ↦ (settles.settled c).1 (inl old)
        | inr new ↦ elim ((more y).0 new) [
          | inl was ↦ (settles.settled c).1 (inr was)
          | inr same ↦ absurd (other (sym (ap (λ (z : Spot). z.node) same)))
        ]
      ],
    );
    stored = settles.stored;
    same = λ none. settles.same (λ y there. none y ((more y).1 (inl there)));
  }

  module _ (at : x.node ≡ place) where
    there : Contains spots x
    there = (i, below, sym is)

    not_yet : AreApart spots → ¬ Contains (take i spots) x
    not_yet are h = (once_apart (take i spots) (x ∷ []) (rw (← one_more spots i x below is) (pairs_take ◌≢◌ (i + 1) spots are.once))).1 x h (in_first x [])

    -- it may be settled
    pub may_push : AreApart spots → Admits spots place before → ¬ IsCovered mid x.cost × All (λ c. ¬ Dominates x.cost c) mid
    may_push are admits = (
      λ h. let y : Spot = record { cost = h.by; node = place } in elim ((settles.settled h.by).0 h.contains) [
        | inl old ↦ admits.uncovered x there at (record { by = h.by; contains = old; at_most = h.at_most })
        | inr new ↦ not_yet are (subst (Contains (take i spots)) (are.apart y x (of_take i spots y new) there (sym at) h.at_most) new)
      ],
      all_from_in (λ c. ¬ Dominates x.cost c) mid (λ e e_in less.
          let y : Spot = record { cost = e; node = place } in elim ((settles.settled e).0 e_in) [
            | inl old ↦ admits.spares x there at e old less
            | inr new ↦ less.differs (ap (λ (z : Spot). z.cost) (are.apart x y there (of_take i spots y new) at less.at_most))
          ]),
    )

    -- so it is
    settles_one_more : {after : Costs} → All (λ n. n < bound) x.cost → ¬ IsCovered mid x.cost → IsPermutation (x.cost ∷ mid) after
        → Settles bound (take (i + 1) spots) place before after
    settles_one_more {after} fits uncovered pushed = record {
      settled = λ c. let y : Spot = record { cost = c; node = place } in let gains = gains_by_permutation x.cost mid after pushed c in (
        λ h. elim (gains.0 h) [
          | inl was ↦ elim ((settles.settled c).0 was) [ inl old ↦ inl old | inr new ↦ inr ((more y).1 (inl new)) ]
          | inr same ↦ inr ((more y).1 (inr (λ k. record { cost = same k; node = sym at k })))
        ],
        elim [
          | inl old ↦ gains.1 (inl ((settles.settled c).1 (inl old)))
          | inr new ↦ elim ((more y).0 new) [
            | inl was ↦ gains.1 (inl ((settles.settled c).1 (inr was)))
            | inr same ↦ gains.1 (inr (ap (λ (z : Spot). z.cost) same))
          ]
        ],
      );
      stored = λ was. stored_more bound x.cost mid after uncovered fits pushed (settles.stored was);
      same = λ none. absurd (none x ((more x).1 (inr refl)) at);
    }

-- ---- the fronts of several places

-- what is settled at the places of these fronts
abbrev pub SettlesEach : {P : Type 0} → (P → Costs) → ℕ → List Spot → ℕ → List P → List P → Type 0
SettlesEach costs bound spots = AreChanged (λ k p q. Settles bound spots k (costs p) (costs q))

module _ {P : Type 0} (costs : P → Costs) (bound : ℕ) (spots : List Spot) (first : ℕ) (before : List P) where
  pub each_none : SettlesEach costs bound (take 0 spots) first before before
  each_none = record { count = refl; each = λ i p within. settles_none bound spots (first + i) (costs (get_or before i p)) }

  module _ (i : ℕ) (now : List P) (x : Spot) (settles : SettlesEach costs bound (take i spots) first before now)
      (below : i < length spots) (is : x ≡ get_or spots i x) where
    -- the place of the next one isn't among these
    pub each_elsewhere : ((k : ℕ) → k < length before → x.node ≢ first + k) → SettlesEach costs bound (take (i + 1) spots) first before now
    each_elsewhere none = record {
      count = settles.count;
      each = λ k p within. settles_elsewhere spots i x (settles.each k p within) below is (none k within);
    }

    -- it is, at this front
    module _ (k : ℕ) (front : P) (within : k < length before) (at : x.node ≡ first + k) (read : front ≡ get_or now k front) where
      here : Settles bound (take i spots) (first + k) (costs (get_or before k front)) (costs front)
      here = rw (← read) at (settles.each k front within)

      pub may_push_here : AreApart spots → Admits spots (first + k) (costs (get_or before k front))
          → ¬ IsCovered (costs front) x.cost × All (λ c. ¬ Dominates x.cost c) (costs front)
      may_push_here are admits = may_push spots i x here below is at are admits

      pub each_one_more : (y : P) → All (λ n. n < bound) x.cost → ¬ IsCovered (costs front) x.cost → IsPermutation (x.cost ∷ costs front) (costs y)
          → SettlesEach costs bound (take (i + 1) spots) first before (set now k y)
      each_one_more y fits uncovered pushed = record {
        count = length-set now k y ∙ settles.count;
        each = λ j p inside. elim (cases_eq j k) [
          | inl same ↦ rw (same, get_or-set_same now k y p (omega (arith, within, settles.count)), get_or_default before k p front within)
              (settles_one_more spots i x here below is at fits uncovered pushed)
          | inr other ↦ rw (get_or-set_other now k j y p other)
              (settles_elsewhere spots i x (settles.each j p inside) below is (λ e. other (omega (arith, e, at))))
        ];
      }

-- the spot of a list's element
pub spot_at : {X : Type 0} (spot : X → Spot) (places : List ℕ) (items : List X) (i : ℕ) (item : X) → i < length items → item ≡ get_or items i item
    → let x : Spot = record { cost = (spot item).cost; node = get_or places (spot item).node 0 } in
    (i < length (placed places (map spot items))) × (x ≡ get_or (placed places (map spot items)) i x)
spot_at spot places items i item below is =
    let h : Spot → Spot = λ x. record { cost = x.cost; node = get_or places x.node 0 } in
    let inside : i < length (map spot items) = omega (arith, below, length-map items spot) in (
      omega (arith, inside, length-map (map spot items) h),
      sym (get_or-map h (map spot items) i (spot item) (h (spot item)) inside
          ∙ ap h (get_or-map spot items i item (spot item) below ∙ ap spot (sym is))),
    )

-- ---- all fronts

-- each list is what it was, or a node's that may be kept
module _ {d bound : ℕ} {places : List ℕ} {begun : List Costs} (kept : IsKept d bound places begun) where
  abbrev Replaces : ℕ → Costs → Type 0
  Replaces k more = (more ≡ get_or begun k [])
      ⊎ ((v : ℕ) × (v < length places) × (k ≡ get_or places v 0) × (k ≢ 0) × (AreStored bound (get_or begun k []) → AreStored bound more))

  same_map : (xs : List Costs) → map (λ (c : Costs). c) xs ≡ xs
  same_map [] = refl
  same_map (x ∷ xs) = ap (λ (ys : List Costs). x ∷ ys) (same_map xs)

  kept_until : (n : ℕ) (lists : List Costs) → n ≤ length begun → length lists ≡ length begun → ((k : ℕ) → n ≤ k → get_or lists k [] ≡ get_or begun k [])
      → ((k : ℕ) → Replaces k (get_or lists k [])) → IsKept d bound places lists
  kept_until zero lists few long same each =
      subst (IsKept d bound places) (sym (ext_get_or [] lists begun long (λ k within. same k (omega arith)))) kept
  kept_until (suc n) lists few long same each =
      let less = set lists n (get_or begun n []) in
      let inside : n < length lists = omega (arith, few, long) in
      let here = get_or-set_same lists n (get_or begun n []) [] inside in
      let was = kept_until n less (omega (arith, few)) (length-set lists n (get_or begun n []) ∙ long)
      (λ k behind. elim (cases_eq k n) [
        | inl is ↦ rw (is, here) refl
        | inr other ↦ get_or-set_other lists n k (get_or begun n []) [] other ∙ same k (omega (arith, behind, other))
      ])
      (λ k. elim (cases_eq k n) [
        | inl is ↦ inl (rw (is, here) refl)
        | inr other ↦ rw (get_or-set_other lists n k (get_or begun n []) [] other) (each k)
      ]) in
      elim (each n) [
        | inl is ↦ subst (IsKept d bound places) (ap (set lists n) (sym is) ∙ set-get_or lists n []) was
        | inr (v, within, at, some, stored) ↦
            let (_, _, _, after) = changed (λ (c : Costs). c) less (get_or lists n []) (rw (← same_map less) at was) refl within at some
            (sym here ∙ get_or_default less n [] (get_or begun n []) (omega (arith, inside, length-set lists n (get_or begun n [])))) in
            subst (IsKept d bound places) (same_map (set less n (get_or lists n [])) ∙ set-set lists n (get_or begun n []) (get_or lists n []) ∙ set-get_or lists n [])
            (after stored)
      ]

  pub kept_replaced : (lists : List Costs) → length lists ≡ length begun → ((k : ℕ) → Replaces k (get_or lists k [])) → IsKept d bound places lists
  kept_replaced lists long each = kept_until (length begun) lists (omega arith) long (λ k behind.
      get_or_past lists k [] (omega (arith, behind, long)) ∙ sym (get_or_past begun k [] behind)) each

-- ---- the fronts of the nodes of items

-- one more item has what those before had
pub all_next : {X : Type 0} (P Q : X → Type 0) (items : List X) (i : ℕ) (item : X) → i < length items → item ≡ get_or items i item
    → ((x : X) → P x → Q x) → All P (take i items) → Q item → All Q (take (i + 1) items)
all_next P Q items i item below is each old here = all_from_in Q (take (i + 1) items) (λ x there. elim ((take_more items i item below is x).0 there) [
  | inl was ↦ each x (each_in P (take i items) old x was)
  | inr same ↦ subst Q (sym same) here
])

-- what is settled at the places of fronts is settled in the lists of their costs
pub settles_listed : {P : Type 0} (costs : P → Costs) (bound : ℕ) (spots : List Spot) (xs ys : List P) → SettlesEach costs bound spots 0 xs ys
    → (k : ℕ) → k < length (map costs xs) → Settles bound spots k (get_or (map costs xs) k []) (get_or (map costs ys) k [])
settles_listed costs bound spots [] ys settles k within = absurd (omega (arith, within))
settles_listed costs bound spots (x ∷ xs) ys settles k within =
    let inside : k < length (x ∷ xs) = omega (arith, within, length-map (x ∷ xs) costs) in
    rw (get_or-map costs (x ∷ xs) k x [] inside, get_or-map costs ys k x [] (omega (arith, inside, settles.count))) (subst (λ n. Settles bound spots n (costs (get_or (x ∷ xs) k x)) (costs (get_or ys k x))) {x = 0 + k} (omega arith) (settles.each k x inside))

module _ {d bound : ℕ} {places : List ℕ} {begun : List Costs} (kept : IsKept d bound places begun) (spots : List Spot)
    (can : CanSettle (kept_fronts places begun) spots) (reached : (x : Spot) → Contains spots x → get_or places x.node 0 ≢ 0) where
  abbrev at_place : Spot → Spot
  at_place x = record { cost = x.cost; node = get_or places x.node 0 }

  pub within_places : (x : Spot) → Contains spots x → x.node < length places
  within_places x there = omega (arith, (can.nodes x there).1, kept.placed.some)

  same_node : (x : Spot) → Contains spots x → (v : ℕ) → get_or places x.node 0 ≡ get_or places v 0 → x.node ≡ v
  same_node x there v same = kept.placed.own x.node v same (reached x there)

  pub placed_apart : AreApart (placed places spots)
  placed_apart = record {
    apart = λ a b a_in b_in node below.
        let (x, x_in, a_is) = of_map at_place spots a a_in in
        let (y, y_in, b_is) = of_map at_place spots b b_in in
        let both = same_node x x_in y.node (sym (ap (λ (z : Spot). z.node) a_is) ∙ node ∙ ap (λ (z : Spot). z.node) b_is) in
        a_is ∙ ap at_place (can.apart.apart x y x_in y_in both (rw (a_is, b_is) at below)) ∙ sym b_is;
    once = λ i j s before within same.
        let inside : j < length spots = omega (arith, within, length-map spots at_place) in
        let first : i < length spots = omega (arith, before, inside) in
        let images = sym (get_or-map at_place spots i s s first) ∙ same ∙ get_or-map at_place spots j s s inside in
        let node = same_node (get_or spots i s) (Contains-get_or spots i s first) (get_or spots j s).node (ap (λ (z : Spot). z.node) images) in
        let cost = ap (λ (z : Spot). z.cost) images in
        can.apart.once i j s before inside (λ k. record { cost = cost k; node = node k });
  }

  -- the costs of a spot's node are those at its place
  costs_of_spot : (x a : Spot) → Contains spots x → a ≡ at_place x → (k : ℕ) → a.node ≡ k → get_or begun k [] ≡ costs_at (kept_fronts places begun) x.node
  costs_of_spot x a x_in is k at = ap (λ n. get_or begun n []) (sym at ∙ ap (λ (z : Spot). z.node) is) ∙ sym (costs_placed kept (within_places x x_in))

  pub admits_at : (k : ℕ) → Admits (placed places spots) k (get_or begun k [])
  admits_at k = record {
    uncovered = λ a a_in at h.
        let (x, x_in, is) = of_map at_place spots a a_in in
        (can.admits x.node).uncovered x x_in refl (record {
          by = h.by;
          contains = subst (λ cs. Contains cs h.by) (costs_of_spot x a x_in is k at) h.contains;
          at_most = subst (AtMost h.by) (ap (λ (z : Spot). z.cost) is) h.at_most;
        });
    spares = λ a a_in at e e_in less.
        let (x, x_in, is) = of_map at_place spots a a_in in
        (can.admits x.node).spares x x_in refl e (subst (λ cs. Contains cs e) (costs_of_spot x a x_in is k at) e_in)
        (subst (λ c. Dominates c e) (ap (λ (z : Spot). z.cost) is) less);
  }

  module _ (more : List Costs) (long : length more ≡ length begun)
      (each : (k : ℕ) → k < length begun → Settles bound (placed places spots) k (get_or begun k []) (get_or more k [])) where
    replaces : (k : ℕ) → Replaces kept k (get_or more k [])
    replaces k = elim (cases_lt k (length begun)) [
      | inl within ↦ elim (decidable_some (λ (a : Spot). a.node ≡ k) (λ a. cases_eq a.node k) (placed places spots)) [
        | inl (a, a_in, at) ↦
            let (x, x_in, is) = of_map at_place spots a a_in in
            let place = sym at ∙ ap (λ (z : Spot). z.node) is in
            inr (x.node, within_places x x_in, place, (λ zero. reached x x_in (sym place ∙ zero)), (each k within).stored)
        | inr none ↦ inl ((each k within).same none)
      ]
      | inr behind ↦ inl (get_or_past more k [] (omega (arith, behind, long)) ∙ sym (get_or_past begun k [] behind))
    ]

    pub kept_after : IsKept d bound places more
    kept_after = kept_replaced kept more long replaces

    pub settles_all : SettlesAll (kept_fronts places begun) (kept_fronts places more) spots
    settles_all = record {
      nodes = refl;
      settled = λ x. elim (cases_lt x.node (length places)) [
        | inl within ↦
            let place = get_or places x.node 0 in
            let settles = (each place (kept.placed.within x.node 0 within)).settled x.cost in
            let mine : Contains (placed places spots) (at_place x) → Contains spots x = λ there.
            let (y, y_in, is) = of_map at_place spots (at_place x) there in
            let node = same_node y y_in x.node (sym (ap (λ (z : Spot). z.node) is)) in
            let cost = sym (ap (λ (z : Spot). z.cost) is) in
            subst (Contains spots) {x = y} (λ k. record { cost = cost k; node = node k }) y_in in
            rw (costs_placed kept within, costs_placed kept_after within) (
              λ h. elim (settles.0 h) [ inl old ↦ inl old | inr new ↦ inr (mine new) ],
              elim [ inl old ↦ settles.1 (inl old) | inr new ↦ settles.1 (inr (in_map at_place spots x new)) ],
            )
        | inr behind ↦
            let past : (lists : List Costs) → costs_at (kept_fronts places lists) x.node ≡ [] = λ lists.
            get_or_past (costs_by places lists) x.node [] (omega (arith, behind, length-map places (λ k. get_or lists k []))) in (
              λ h. absurd (none_of_empty _ (past more) x.cost h),
              elim [ inl old ↦ absurd (none_of_empty _ (past begun) x.cost old) | inr new ↦ absurd (omega (arith, behind, within_places x new)) ],
            )
      ];
    }

module _ {C P : Type 0} (components : C → List ℕ) (costs : P → Costs) {d bound : ℕ} {places : List ℕ} (fronts : List P) (items : List (Item C)) (f : Fronts)
    (kept : IsKept d bound places (map costs fronts)) (same : kept_fronts places (map costs fronts) ≡ f) (can : CanSettle f (map (spot_in components) items))
    (reached : All (λ i. get_or places i.node.0 0 ≢ 0) items) where
  abbrev spots : List Spot
  spots = map (spot_in components) items

  can_here : CanSettle (kept_fronts places (map costs fronts)) spots
  can_here = subst (λ g. CanSettle g spots) (sym same) can

  reached_spot : (x : Spot) → Contains spots x → get_or places x.node 0 ≢ 0
  reached_spot x x_in none =
      let (i, i_in, is) = of_map (spot_in components) items x x_in in
      each_in (λ (j : Item C). get_or places j.node.0 0 ≢ 0) items reached i i_in (ap (λ (z : Spot). get_or places z.node 0) (sym is) ∙ none)

  -- they may be settled side by side
  pub accepted : length fronts < 2 ^ 64 → AreAccepted (CanSettleAt d (length places) (placed places spots) items)
      (λ place front. Admits (placed places spots) place (costs front)) 0 fronts
  accepted room = record {
    ready = record {
      criteria = (kept.fronts.two, kept.fronts.four);
      within = all_from_in (λ (i : Item C). i.node.0 < length places) items (λ i there.
          within_places kept spots can_here reached_spot (spot_in components i) (in_map (spot_in components) items i there));
      apart = placed_apart kept spots can_here reached_spot;
    };
    room = omega (arith, room);
    each = λ i p inside. subst (Admits (placed places spots) (0 + i)) (get_or-map costs fronts i p [] inside)
        (subst (λ k. Admits (placed places spots) k (get_or (map costs fronts) i [])) {x = i} (omega arith) (admits_at kept spots can_here reached_spot i));
  }

  -- so all are settled
  pub all_settled : (after : List P) → SettlesEach costs bound (placed places spots) 0 fronts after
      → IsKept d bound places (map costs after) × SettlesAll f (kept_fronts places (map costs after)) spots
  all_settled after settles =
      let long : length (map costs after) ≡ length (map costs fronts) = omega (arith, settles.count, length-map after costs, length-map fronts costs) in
      let each = settles_listed costs bound (placed places spots) fronts after settles in (
        kept_after kept spots can_here reached_spot (map costs after) long each,
        subst (λ g. SettlesAll g (kept_fronts places (map costs after)) spots) same (settles_all kept spots can_here reached_spot (map costs after) long each),
      )
