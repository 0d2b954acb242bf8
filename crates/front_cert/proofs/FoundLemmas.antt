-- The labels of a certificate as settled pairs.
use Rattle.std.proofs.Common.{◌≡◌, ◌≢◌, ℕ, ◌+◌, ◌-◌, ◌<◌, ◌≤◌, Bool, true, false, List, [], ◌∷◌, ◌++◌, length, map, take, drop, get_or, inl, inr, refl, sym, ap, ap₂, subst, ◌∙◌, ◌↔◌, arith, length-take}
use Rattle.std.proofs.lemmas.List.{length-map}
use Rattle.std.specs.Prelude.{◌==◌, Option, Some, None, is_some, nat_eq, nat_lt, cond, All, AllPairs, Contains, slice_get}
use Rattle.std.specs.List.{filter}
use Rattle.std.specs.List.Sorted.{IsPartitionedBy, IsPartitionPoint}
use Rattle.std.proofs.lemmas.Bool.{cases_eq}
use Rattle.std.proofs.lemmas.Bool.Decides.{nat_tests}
use Rattle.std.proofs.lemmas.List.{append-nil, get_or-drop, get_or-take, length-drop, take_all, take-append-drop}
use Rattle.std.proofs.lemmas.List.Elements.{All-head, All-tail, filter-append}
use Rattle.std.proofs.lemmas.List.Elements.{filter_passes}
use Rattle.std.proofs.lemmas.List.Kept.{AllPairs-filter}
use Rattle.cost_vector.specs.Costs.{LexLess, no_limit}
use Rattle.cost_vector.specs.declared.label.ArcNo.{ArcNo}
use Rattle.cost_vector.specs.declared.label.Label.{Label as StoredLabel}
use Rattle.cost_vector.proofs.Vectors.{LexLess-irrefl, Within-no_limit}
use Rattle.list_laws.proofs.Members.{in_filter, in_map, of_filter, of_map}
use Rattle.list_laws.proofs.Pairs.{pairs_map}
use Rattle.road_network.specs.Labels.{Label}
use Rattle.cert_rules.specs.Certificates.{IsBefore, IsListed}
use Rattle.cert_rules.proofs.ListedLaws.{one_label}
use Rattle.cert_rules.specs.Meaning.{ShowsAnswer}
use Rattle.list_laws.proofs.OnceLaws.{alike_through}
use Rattle.road_network.specs.Best.{IsBest}
use Rattle.road_network.specs.Network.{Network, IsNetwork}
use Rattle.road_network.proofs.WalkLaws.{length_of_walk}
use Rattle.walk_readback.specs.Found.{IsFound, IsWellFound}
use Rattle.front_cert.specs.Found.{costs_of, found_of}
use Rattle.front_cert.specs.Listing.{Listing, IsKept, line_of}
use Rattle.front_cert.specs.Lookup.{Precedes}

-- ---- the labels of a node stand side by side

module _ {X : Type 0} (test : X → Bool) where
  kept_if : (x : X) (xs : List X) (b : Bool) → test x ≡ b → filter test (x ∷ xs) ≡ cond b (x ∷ filter test xs) (filter test xs)
  kept_if x xs b e = ap (λ t. cond t (x ∷ filter test xs) (filter test xs)) e

  filter_none : (xs : List X) → All (λ x. test x ≡ false) xs → filter test xs ≡ []
  filter_none [] fails = refl
  filter_none (x ∷ xs) fails =
      kept_if x xs false (All-head (λ y. test y ≡ false) x xs fails) ∙ filter_none xs (All-tail (λ y. test y ≡ false) x xs fails)

  filter_all : (xs : List X) → All (λ x. test x ≡ true) xs → filter test xs ≡ xs
  filter_all [] holds = refl
  filter_all (x ∷ xs) holds =
      kept_if x xs true (All-head (λ y. test y ≡ true) x xs holds) ∙ ap (λ l. x ∷ l) (filter_all xs (All-tail (λ y. test y ≡ true) x xs holds))

  -- what stands behind a front of which the test fails, and before a rest of which it fails
  filter_cut : (front middle rest : List X) → All (λ x. test x ≡ false) front → All (λ x. test x ≡ true) middle → All (λ x. test x ≡ false) rest
      → filter test (front ++ (middle ++ rest)) ≡ middle
  filter_cut front middle rest before there behind =
      filter-append test front (middle ++ rest) ∙ ap (λ l. l ++ filter test (middle ++ rest)) (filter_none front before)
      ∙ filter-append test middle rest ∙ ap (λ l. l ++ filter test rest) (filter_all middle there)
      ∙ ap (λ l. middle ++ l) (filter_none rest behind) ∙ append-nil middle

module _ (labels : List StoredLabel) (v : ℕ) (ascending : AllPairs Precedes labels) where
  abbrev pub is_less : StoredLabel → Bool
  is_less l = nat_lt l.node.0 v

  abbrev pub is_same : StoredLabel → Bool
  is_same l = nat_eq l.node.0 v

  nodes_ascend : (i j : ℕ) (d : StoredLabel) → i ≤ j → j < length labels → (get_or labels i d).node.0 ≤ (get_or labels j d).node.0
  nodes_ascend i j d at_most within = elim (cases_eq i j) [
    | inl same ↦ let e : (get_or labels i d).node.0 ≡ (get_or labels j d).node.0 = ap (λ n. (get_or labels n d).node.0) same in omega (arith, e)
    | inr other ↦ elim (ascending i j d (omega (arith, at_most, other)) within) [ inl less ↦ omega (arith, less) | inr less ↦ omega (arith, less.0) ]
  ]

  less_test : (m n : ℕ) → m ≤ n → nat_lt n v ≡ true → nat_lt m v ≡ true
  less_test m n at_most e = grind (arith, nat_tests)

  pub less_partitioned : IsPartitionedBy is_less labels
  less_partitioned i j d at_most within e = less_test (get_or labels i d).node.0 (get_or labels j d).node.0 (nodes_ascend i j d at_most within) e

  module _ (first : ℕ) (bound : first ≤ length labels) (cut : IsPartitionPoint (λ l. is_less l ≡ true) (λ l. is_less l ≡ false) labels first) where
    abbrev rest : List StoredLabel
    rest = drop first labels

    rest_at : (k : ℕ) (d : StoredLabel) → k < length rest → v ≤ (get_or rest k d).node.0
    rest_at k d within =
        let there : is_less (get_or labels (first + k) d) ≡ false = cut.1 (first + k) d (omega arith) (omega (arith, within, length-drop first labels)) in
        let node : (get_or rest k d).node.0 ≡ (get_or labels (first + k) d).node.0 = ap (λ (l : StoredLabel). l.node.0) (get_or-drop first labels k d) in
        not_less (get_or labels (first + k) d).node.0 (get_or rest k d).node.0 there node where
          not_less : (m n : ℕ) → nat_lt m v ≡ false → n ≡ m → v ≤ n
          not_less m n e same = grind (arith, nat_tests)

    pub same_partitioned : IsPartitionedBy is_same rest
    same_partitioned i j d at_most within e =
        let above = rest_at i d (omega (arith, at_most, within)) in
        let inside : first + j < length labels = omega (arith, within, length-drop first labels) in
        let order = nodes_ascend (first + i) (first + j) d (omega (arith, at_most)) inside in
        let one : (get_or rest i d).node.0 ≡ (get_or labels (first + i) d).node.0 = ap (λ (l : StoredLabel). l.node.0) (get_or-drop first labels i d) in
        let two : (get_or rest j d).node.0 ≡ (get_or labels (first + j) d).node.0 = ap (λ (l : StoredLabel). l.node.0) (get_or-drop first labels j d) in
        between (get_or rest i d).node.0 (get_or rest j d).node.0 above (omega (arith, order, one, two)) e where
          between : (m n : ℕ) → v ≤ m → m ≤ n → nat_eq n v ≡ true → nat_eq m v ≡ true
          between m n above order e = grind (arith, nat_tests)

    module _ (count : ℕ) (within : count ≤ length rest) (same : IsPartitionPoint (λ l. is_same l ≡ true) (λ l. is_same l ≡ false) rest count) where
      other_before : All (λ l. is_same l ≡ false) (take first labels)
      other_before k d inside =
          let below : k < first = omega (arith, inside, length-take first labels) in
          let there : is_less (get_or labels k d) ≡ true = cut.0 k d (omega arith) below in
          let is : (get_or (take first labels) k d).node.0 ≡ (get_or labels k d).node.0 = ap (λ (l : StoredLabel). l.node.0) (get_or-take first labels k d below) in
          not_same (get_or labels k d).node.0 (get_or (take first labels) k d).node.0 there is where
            not_same : (m n : ℕ) → nat_lt m v ≡ true → n ≡ m → nat_eq n v ≡ false
            not_same m n e same = grind (arith, nat_tests)

      same_there : All (λ l. is_same l ≡ true) (take count rest)
      same_there k d inside =
          let below : k < count = omega (arith, inside, length-take count rest) in
          subst (λ (l : StoredLabel). is_same l ≡ true) (sym (get_or-take count rest k d below)) (same.0 k d (omega arith) below)

      other_behind : All (λ l. is_same l ≡ false) (drop count rest)
      other_behind k d inside =
          subst (λ (l : StoredLabel). is_same l ≡ false) (sym (get_or-drop count rest k d))
          (same.1 (count + k) d (omega arith) (omega (arith, inside, length-drop count rest)))

      -- from the first label of the node on there are so many of it
      pub labels_there : take count rest ≡ filter is_same labels
      labels_there =
          sym (filter_cut is_same (take first labels) (take count rest) (drop count rest) other_before same_there other_behind)
          ∙ ap (λ l. filter is_same (take first labels ++ l)) (take-append-drop count rest) ∙ ap (filter is_same) (take-append-drop first labels)

  -- the rest, as a part of the list
  pub rest_is : (first : ℕ) → take (length labels - first) (drop first labels) ≡ drop first labels
  rest_is first = take_all (length labels - first) (drop first labels) (omega (arith, length-drop first labels))

-- ---- what the labels say, as settled pairs

abbrev pair_of : Label → ℕ × List ℕ
pair_of l = (l.node, l.cost)

same_by_test : (n v : ℕ) → (n == v) ≡ true → n ≡ v
same_by_test n v e = grind (arith, nat_tests)

test_of_same : (n v : ℕ) → n ≡ v → (n == v) ≡ true
test_of_same n v e = grind (arith, nat_tests)

abbrev kept_cost : StoredLabel → List ℕ
kept_cost l = l.cost

abbrev CostsAre : List StoredLabel → ℕ → Type 0
CostsAre labels v = costs_of (map line_of labels) v ≡ map (λ l. l.cost) (filter (λ l. l.node.0 == v) labels)

costs_more : (l : StoredLabel) (labels : List StoredLabel) (v : ℕ) (b : Bool) → (l.node.0 == v) ≡ b → CostsAre labels v → CostsAre (l ∷ labels) v
costs_more l labels v true e rest = rw e (ap (λ cs. kept_cost l ∷ cs) rest)
costs_more l labels v false e rest = rw e rest

-- the costs of a node, from the labels as they are kept
pub costs_are : (labels : List StoredLabel) (v : ℕ) → CostsAre labels v
costs_are [] v = refl
costs_are (l ∷ labels) v = costs_more l labels v (l.node.0 == v) refl (costs_are labels v)

-- a settled pair is a listed one
pub settled_alike : (labels : List Label) (v : ℕ) (c : List ℕ) → Contains (map pair_of labels) (v, c) ↔ IsListed labels v c
settled_alike labels v c = (
  λ there.
      let found = of_map pair_of labels (v, c) there in
      let l = found.0 in
      let node : l.node ≡ v = sym (ap (λ (p : ℕ × List ℕ). p.0) found.2) in
      let cost : l.cost ≡ c = sym (ap (λ (p : ℕ × List ℕ). p.1) found.2) in
      record { arc = l.arc; listed = subst (Contains labels) (one_label l.node v l.cost c l.arc l.arc node cost refl) found.1 },
  λ listed. in_map pair_of labels (record { node = v; cost = c; arc = listed.arc }) listed.listed,
)

-- a cost of a node stands at a label of it
pub costs_alike : (labels : List Label) (v : ℕ) (c : List ℕ) → Contains (costs_of labels v) c ↔ Contains (map pair_of labels) (v, c)
costs_alike labels v c = (
  λ there.
      let found = of_map (λ l. l.cost) (filter (λ l. l.node == v) labels) c there in
      let inside = of_filter (λ l. l.node == v) labels found.0 found.1 in
      let node : found.0.node ≡ v = same_by_test found.0.node v inside.1 in
      let pair : pair_of found.0 ≡ (v, c) = ap₂ (λ n b. (n, b)) node (sym found.2) in
      subst (Contains (map pair_of labels)) pair (in_map pair_of labels found.0 inside.0),
  λ there.
      let found = of_map pair_of labels (v, c) there in
      let node : found.0.node ≡ v = sym (ap (λ (p : ℕ × List ℕ). p.0) found.2) in
      let cost : found.0.cost ≡ c = sym (ap (λ (p : ℕ × List ℕ). p.1) found.2) in
      subst (Contains (costs_of labels v)) cost
      (in_map (λ l. l.cost) (filter (λ l. l.node == v) labels) found.0 (in_filter (λ l. l.node == v) labels found.0 found.1 (test_of_same found.0.node v node))),
)

module _ (labels : List Label) (ascending : AllPairs IsBefore labels) where
  -- no pair is listed twice
  pub pairs_once : AllPairs ◌≢◌ (map pair_of labels)
  pairs_once = pairs_map IsBefore ◌≢◌ pair_of differ labels ascending where
    differ : (x y : Label) → IsBefore x y → pair_of x ≢ pair_of y
    differ x y (inl less) same = let node : x.node ≡ y.node = ap (λ (p : ℕ × List ℕ). p.0) same in omega (arith, less, node)
    differ x y (inr less) same =
        let cost : x.cost ≡ y.cost = ap (λ (p : ℕ × List ℕ). p.1) same in
        LexLess-irrefl y.cost (subst (λ b. LexLess b y.cost) cost less.1)

  -- the costs of a node ascend
  pub costs_ascend : (v : ℕ) → AllPairs LexLess (costs_of labels v)
  costs_ascend v = pairs_map BothOf LexLess (λ l. l.cost) by_cost kept both where
    kept : List Label
    kept = filter (λ l. l.node == v) labels

    BothOf : Label → Label → Type 0
    BothOf x y = IsBefore x y × ((x.node == v) ≡ true) × ((y.node == v) ≡ true)

    by_cost : (x y : Label) → BothOf x y → LexLess x.cost y.cost
    by_cost x y (inl less, one, two) = let bottom : ⊥ = omega (arith, less, same_by_test x.node v one, same_by_test y.node v two) in absurd bottom
    by_cost x y (inr less, one, two) = less.1

    both : AllPairs BothOf kept
    both i j d before within =
        let passes = filter_passes (λ (l : Label). l.node == v) labels in
        (AllPairs-filter IsBefore (λ l. l.node == v) labels ascending i j d before within, passes i d (omega (arith, before, within)), passes j d within)

-- what every certificate keeps makes it a find
pub is_found : (l : Listing) → IsKept l → AllPairs IsBefore l.cert.labels → IsFound (found_of l)
is_found l kept ascending = record {
  two = kept.two;
  four = kept.four;
  nodes = kept.few;
  start = kept.start;
  target = kept.target;
  once = pairs_once l.cert.labels ascending;
  ascending = costs_ascend l.cert.labels ascending l.cert.target;
  costs = costs_alike l.cert.labels l.cert.target;
}

-- the labels ascend as they are listed
pub listed_ascend : (labels : List StoredLabel) → AllPairs Precedes labels → AllPairs IsBefore (map line_of labels)
listed_ascend labels ascending = pairs_map Precedes IsBefore line_of (λ x z before. before) labels ascending

module _ (labels : List StoredLabel) (v : ℕ) (those : List StoredLabel) (are : those ≡ filter (λ l. l.node.0 == v) labels) (i : ℕ) where
  -- there are as many labels of a node as costs
  pub within_costs : i < length (costs_of (map line_of labels) v) → i < length those
  within_costs within =
      omega (arith, within, ap length (costs_are labels v), length-map (filter (λ l. l.node.0 == v) labels) (λ (l : StoredLabel). l.cost), ap length are)

  -- and each is its label's
  pub cost_there : (c : List ℕ) → slice_get (map (λ (l : StoredLabel). l.cost) those) i ≡ Some c → slice_get (costs_of (map line_of labels) v) i ≡ Some c
  cost_there c at = ap (λ cs. slice_get cs i) (costs_are labels v ∙ ap (map (λ (l : StoredLabel). l.cost)) (sym are)) ∙ at

-- what is found at a node and a cost tells whether they are listed
module _ (labels : List Label) (v : ℕ) (c : List ℕ) where
  abbrev pub Finds : Option ArcNo → Type 0
  Finds o = (arc : ArcNo) → (o ≡ Some arc) ↔ Contains labels (record { node = v; cost = c; arc = arc.0 })

  pub listed_if : (o : Option ArcNo) → Finds o → is_some o ≡ true → IsListed labels v c
  listed_if (Some arc) finds e = record { arc = arc.0; listed = (finds arc).0 refl }
  listed_if None finds e = absurd cc

  pub some_if_listed : (o : Option ArcNo) → Finds o → IsListed labels v c → is_some o ≡ true
  some_if_listed (Some arc) finds listed = refl
  some_if_listed None finds listed = let found = (finds (record { 0 = listed.arc })).1 listed.listed in absurd cc

-- a certificate that shows the answer is well found
pub well_found : (net : Network) → IsNetwork net → (l : Listing) → ShowsAnswer net l.cert → IsWellFound net (no_limit net.criteria) (found_of l)
well_found net is l shows =
    let s = l.cert.start in let t = l.cert.target in
    let listed : (v : ℕ) (c : List ℕ) → Contains (map pair_of l.cert.labels) (v, c) ↔ IsListed l.cert.labels v c = settled_alike l.cert.labels in
    let best : (c : List ℕ) → Contains (costs_of l.cert.labels t) c ↔ IsBest net s t c =
    λ c. alike_through (costs_alike l.cert.labels t c) (alike_through (listed t c) (shows.costs c)) in record {
      costs = λ c. (
        λ there. let b = (best c).0 there in (b, Within-no_limit net.criteria c (length_of_walk net is b.reached.0 s t c b.reached.1)),
        λ b. (best c).1 b.0,
      );
      walked = λ v b there. shows.walked v b ((listed v b).0 there);
      on_the_way = λ v b way.
          let c = way.cost in
          let least = shows.on_the_way way.first way.rest v b c way.whole ((best c).0 way.there) way.reaches in
          (listed v b).1 (record { arc = least.arc; listed = least.listed });
    }
