-- Labels by their place among others.
use Rattle.std.proofs.Common.{◌≡◌, ◌≢◌, ℕ, ◌+◌, ◌-◌, ◌<◌, ◌≤◌, true, false, List, [], map, Some, None, ◌⊎◌, ◌↔◌, inl, inr, refl, sym, ap, subst, subst₂, ◌∙◌, arith, get_or}
use Rattle.std.specs.Prelude.{AllPairs, Contains, slice_get, slice_index_or}
use Rattle.std.specs.List.Sorted.{IsPartitionedBy}
use Rattle.std.specs.Ordering.{is_lt}
use Rattle.std.specs.declared.cmp.Ordering.{Ordering}
use Rattle.std.specs.declared.cmp.Ordering.TheVariants.{Less, Equal, Greater}
use Rattle.std.proofs.lemmas.Bool.{cases_eq, cases_lt}
use Rattle.std.proofs.lemmas.Bool.Decides.{nat_tests}
use Rattle.std.proofs.lemmas.Option.{slice_get_within, slice_get-get_or, get_or_from_slice_get}
use Rattle.cost_vector.specs.Costs.{AtMost, Dominates, LexLess, lex_cmp}
use Rattle.cost_vector.specs.declared.label.ArcNo.{ArcNo}
use Rattle.cost_vector.specs.declared.label.Label.{Label as StoredLabel}
use Rattle.cert_rules.proofs.ListedLaws.{one_label}
use Rattle.cost_vector.proofs.Vectors.{AtMost-trans, LexLess-irrefl, LexLess-trans, LexLess_from_Dominates}
use Rattle.list_laws.proofs.Members.{in_map, of_map}
use Rattle.road_network.specs.Labels.{Label}
use Rattle.cert_rules.specs.Certificates.{IsBeaten, IsBefore}
use Rattle.front_cert.specs.Listing.{AreCorners, line_of}
use Rattle.front_cert.specs.Lookup.{IsPassed, IsPlace, Precedes, is_before}

abbrev an_arc : ℕ → ArcNo
an_arc n = record { 0 = n }

lt_is : (o : Ordering) → is_lt o ≡ true → o ≡ Less
lt_is Less e = refl
lt_is Equal e = absurd cc
lt_is Greater e = absurd cc

-- the test tells whether a label stands before this node and this cost
module _ (v : ℕ) (c : List ℕ) (l : StoredLabel) where
  pub of_test : is_before v c l ≡ true → (l.node.0 < v) ⊎ ((l.node.0 ≡ v) × LexLess l.cost c)
  of_test e = elim (cases_lt l.node.0 v) [
    | inl below ↦ inl below
    | inr above ↦ elim (cases_eq l.node.0 v) [
      | inl same ↦ inr (same, lt_is (lex_cmp l.cost c) (grind (arith, nat_tests)))
      | inr other ↦ let bottom : ⊥ = grind (arith, nat_tests) in absurd bottom
    ]
  ]

  pub by_test : ((l.node.0 < v) ⊎ ((l.node.0 ≡ v) × LexLess l.cost c)) → is_before v c l ≡ true
  by_test (inl below) = grind (arith, nat_tests)
  by_test (inr later) =
      let node = later.0 in
      let less : is_lt (lex_cmp l.cost c) ≡ true = ap is_lt later.1 in
      grind (arith, nat_tests)

-- a label of the node costs at most so much
abbrev pub Beats : ℕ → List ℕ → StoredLabel → Type 0
Beats v c l = (l.node.0 ≡ v) × AtMost l.cost c

-- none of the labels from a place up to another does
abbrev pub NoneBetween : List StoredLabel → ℕ → List ℕ → ℕ → ℕ → Type 0
NoneBetween labels v c left i = (k : ℕ) (x : StoredLabel) → slice_get labels k ≡ Some x → left ≤ k → k < i → ¬ Beats v c x

-- ---- labels that ascend

-- the order of labels goes on
pub before_trans : (x y z : Label) → IsBefore x y → IsBefore y z → IsBefore x z
before_trans x y z (inl a) (inl b) = inl (omega arith)
before_trans x y z (inl a) (inr b) = inl (omega (arith, b.0))
before_trans x y z (inr a) (inl b) = inl (omega (arith, a.0))
before_trans x y z (inr a) (inr b) = inr (a.0 ∙ b.0, LexLess-trans x.cost y.cost z.cost a.1 b.1)

-- what stands before a label that stands before a node and a cost stands before these
before_test : (v : ℕ) (c : List ℕ) (x y : StoredLabel) → Precedes x y → is_before v c y ≡ true → is_before v c x ≡ true
before_test v c x y before e =
    by_test v c x (before_trans (line_of x) (line_of y) (record { node = v; cost = c; arc = 0 }) before (of_test v c y e))

pub partitioned : (labels : List StoredLabel) (v : ℕ) (c : List ℕ) → AllPairs Precedes labels → IsPartitionedBy (is_before v c) labels
partitioned labels v c ascending i j d at_most within e = elim (cases_eq i j) [
  | inl same ↦ subst (λ n. is_before v c (get_or labels n d) ≡ true) (sym same) e
  | inr other ↦ before_test v c (get_or labels i d) (get_or labels j d) (ascending i j d (omega arith) within) e
]

-- a kept label is listed
pub listed_at : (labels : List StoredLabel) (k : ℕ) (x : StoredLabel) → slice_get labels k ≡ Some x → Contains (map line_of labels) (line_of x)
listed_at labels k x at = in_map line_of labels x (k, slice_get_within labels k x at, get_or_from_slice_get labels k x x at)

-- a kept label of the node whose cost dominates another beats it
pub dominated_by : (labels : List StoredLabel) (k : ℕ) (x : StoredLabel) → slice_get labels k ≡ Some x → (v : ℕ) (c : List ℕ) → x.node.0 ≡ v → Dominates x.cost c
    → IsBeaten (map line_of labels) v c
dominated_by labels k x at v c node better = record {
  cost = x.cost;
  listed = record { arc = x.arc.0; listed = subst (λ u. Contains (map line_of labels) (record { node = u; cost = x.cost; arc = x.arc.0 })) node (listed_at labels k x at) };
  better = better;
}

module _ (labels : List StoredLabel) (v : ℕ) (c : List ℕ) (i : ℕ) (ascending : AllPairs Precedes labels) (place : IsPlace labels v c i) where
  -- where a label stands
  precedes : (k j : ℕ) (x y : StoredLabel) → slice_get labels k ≡ Some x → slice_get labels j ≡ Some y → k < j → Precedes x y
  precedes k j x y here there below =
      subst₂ Precedes (get_or_from_slice_get labels k x x here) (get_or_from_slice_get labels j y x there)
      (ascending k j x below (slice_get_within labels j y there))

  pub test_before : (k : ℕ) (x : StoredLabel) → slice_get labels k ≡ Some x → k < i → is_before v c x ≡ true
  test_before k x here below = subst (λ l. is_before v c l ≡ true) (get_or_from_slice_get labels k x x here) (place.0 k x (omega arith) below)

  test_behind : (k : ℕ) (x : StoredLabel) → slice_get labels k ≡ Some x → i ≤ k → is_before v c x ≡ false
  test_behind k x here above =
      subst (λ l. is_before v c l ≡ false) (get_or_from_slice_get labels k x x here) (place.1 k x above (slice_get_within labels k x here))

  below_place : (k : ℕ) (x : StoredLabel) → slice_get labels k ≡ Some x → is_before v c x ≡ true → k < i
  below_place k x here e = elim (cases_lt k i) [ inl below ↦ below | inr above ↦ let other = test_behind k x here above in absurd cc ]

  -- the label of this node and this cost, if there is one, stands at their place
  at_place : (k : ℕ) (x : StoredLabel) → slice_get labels k ≡ Some x → x.node.0 ≡ v → x.cost ≡ c → k ≡ i
  at_place k x here node cost = elim (cases_lt k i) [
    | inl below ↦ elim (of_test v c x (test_before k x here below)) [
      | inl less ↦ omega (arith, node)
      | inr less ↦ absurd (LexLess-irrefl c (subst (λ b. LexLess b c) cost less.1))
    ]
    | inr above ↦ elim (cases_lt i k) [
      | inr within ↦ omega arith
      | inl more ↦
          let y = get_or labels i x in
          let there : slice_get labels i ≡ Some y = slice_get-get_or labels i x (omega (arith, slice_get_within labels k x here)) in
          let before = precedes i k y x there here more in
          let test = by_test v c y (subst₂ (λ u b. (y.node.0 < u) ⊎ ((y.node.0 ≡ u) × LexLess y.cost b)) node cost before) in
          let other = test_behind i y there (omega arith) in
          absurd cc
    ]
  ]

  -- a label of the list, as it is kept
  record IsKeptAt (k : ℕ) (l : Label) : Type 0 where
    pub label : StoredLabel
    pub at : slice_get labels k ≡ Some label
    pub is : line_of label ≡ l

  kept_at : (l : Label) → Contains (map line_of labels) l → (k : ℕ) × IsKeptAt k l
  kept_at l there =
      let found = of_map line_of labels l there in
      let x = found.0 in
      let k = found.1.0 in
      (k, record { label = x; at = slice_get-get_or labels k x found.1.1 ∙ ap Some found.1.2; is = sym found.2 })

  -- a label of this node and this cost is the one at their place
  pub found_at : (a : ℕ) → Contains (map line_of labels) (record { node = v; cost = c; arc = a })
      → (x : StoredLabel) × (slice_get labels i ≡ Some x) × (line_of x ≡ record { node = v; cost = c; arc = a })
  found_at a there =
      let kept = (kept_at (record { node = v; cost = c; arc = a }) there) in
      let x = kept.1.label in
      let same = at_place kept.0 x kept.1.at (ap (λ (l : Label). l.node) kept.1.is) (ap (λ (l : Label). l.cost) kept.1.is) in
      (x, subst (λ n. slice_get labels n ≡ Some x) same kept.1.at, kept.1.is)

  -- its arc is what is found, if it is there
  pub arc_found : (x : StoredLabel) → slice_get labels i ≡ Some x → x.node.0 ≡ v → x.cost ≡ c
      → (arc : ArcNo) → (Some x.arc ≡ Some arc) ↔ Contains (map line_of labels) (record { node = v; cost = c; arc = arc.0 })
  arc_found x here node cost arc = (
    λ e.
        let same : x.arc ≡ arc = cc in
        let one : line_of x ≡ record { node = v; cost = c; arc = arc.0 } = one_label x.node.0 v x.cost c x.arc.0 arc.0 node cost (ap (λ (a : ArcNo). a.0) same) in
        subst (Contains (map line_of labels)) one (listed_at labels i x here),
    λ there.
        let (y, at, is) = found_at arc.0 there in
        let one : Some x ≡ Some y = sym here ∙ at in
        let same : x ≡ y = cc in
        let arcs : x.arc.0 ≡ arc.0 = ap (λ (l : StoredLabel). l.arc.0) same ∙ ap (λ (l : Label). l.arc) is in
        let arc_is : x.arc ≡ arc = ap (λ n. an_arc n) arcs in
        ap Some arc_is,
  )

  pub arc_missing : ((x : StoredLabel) → slice_get labels i ≡ Some x → ¬ ((x.node.0 ≡ v) × (x.cost ≡ c)))
      → (arc : ArcNo) → (None ≡ Some arc) ↔ Contains (map line_of labels) (record { node = v; cost = c; arc = arc.0 })
  arc_missing none arc = (
    λ e. absurd cc,
    λ there.
        let (y, at, is) = found_at arc.0 there in
        absurd (none y at (ap (λ (l : Label). l.node) is, ap (λ (l : Label). l.cost) is)),
  )

  -- ---- what dominates stands before

  -- a label before their place that is of the node and at most the cost dominates it
  pub beaten_by : (k : ℕ) (x : StoredLabel) → slice_get labels k ≡ Some x → k < i → Beats v c x → IsBeaten (map line_of labels) v c
  beaten_by k x here below beats = dominated_by labels k x here v c beats.0 (record {
    at_most = beats.1;
    differs = λ same. elim (of_test v c x (test_before k x here below)) [
      | inl less ↦ omega (arith, beats.0)
      | inr less ↦ LexLess-irrefl c (subst (λ b. LexLess b c) same less.1)
    ];
  })

  beating : IsBeaten (map line_of labels) v c → (k : ℕ) × (x : StoredLabel) × (slice_get labels k ≡ Some x) × (k < i) × Beats v c x
  beating beaten =
      let l : Label = record { node = v; cost = beaten.cost; arc = beaten.listed.arc } in
      let kept = kept_at l beaten.listed.listed in
      let x = kept.1.label in
      let node : x.node.0 ≡ v = ap (λ (m : Label). m.node) kept.1.is in
      let cost : x.cost ≡ beaten.cost = ap (λ (m : Label). m.cost) kept.1.is in
      let less = subst (λ b. LexLess b c) (sym cost) (LexLess_from_Dominates beaten.cost c beaten.better) in
      (kept.0, x, kept.1.at, below_place kept.0 x kept.1.at (by_test v c x (inr (node, less))), (node, subst (λ b. AtMost b c) (sym cost) beaten.better.at_most))

  pub none_more : (left : ℕ) (x : StoredLabel) → slice_get labels left ≡ Some x → ¬ Beats v c x → NoneBetween labels v c (left + 1) i → NoneBetween labels v c left i
  none_more left x here other none k y there above below beats = elim (cases_eq k left) [
    | inl same ↦
        let there_too : slice_get labels left ≡ Some y = subst (λ n. slice_get labels n ≡ Some y) same there in
        let one : Some x ≡ Some y = sym here ∙ there_too in
        let is : x ≡ y = cc in
        other (subst (Beats v c) (sym is) beats)
    | inr differs ↦ none k y there (omega arith) below beats
  ]

  -- none of a block costs at most so much, where its corner doesn't
  pub none_block : (d : ℕ) (corners : List (List ℕ)) → AreCorners d labels corners → (end size : ℕ) → IsPassed corners end c size → NoneBetween labels v c end i
      → NoneBetween labels v c (end - size) i
  none_block d corners are end size passed none k y there above below beats = elim (cases_lt k end) [
    | inl inside ↦
        let corner = are.at_most passed.block k y passed.there there (omega (arith, above, passed.ends, passed.all)) (omega (arith, inside, passed.ends)) in
        passed.greater (AtMost-trans (slice_index_or corners passed.block []) y.cost c corner beats.1)
    | inr behind ↦ none k y there behind below beats
  ]

  pub none_at_all : NoneBetween labels v c 0 i → ¬ IsBeaten (map line_of labels) v c
  none_at_all none beaten = let found = beating beaten in none found.0 found.1 found.2 (omega arith) found.3 found.4

  -- where the label at a place is of another node no label before is of this one
  pub none_behind : (left : ℕ) (x : StoredLabel) → slice_get labels left ≡ Some x → left < i → x.node.0 ≢ v → NoneBetween labels v c (left + 1) i
      → ¬ IsBeaten (map line_of labels) v c
  none_behind left x here before other none beaten =
      let (k, y, there, below, beats) = beating beaten in
      elim (of_test v c x (test_before left x here before)) [
        | inr same ↦ other same.0
        | inl less ↦ elim (cases_lt left k) [
          | inl behind ↦ none k y there (omega arith) below beats
          | inr up_to ↦ elim (cases_eq k left) [
            | inl same ↦
                let there_too : slice_get labels left ≡ Some y = subst (λ n. slice_get labels n ≡ Some y) same there in
                let one : Some x ≡ Some y = sym here ∙ there_too in
                let is : x ≡ y = cc in
                other (ap (λ (l : StoredLabel). l.node.0) is ∙ beats.0)
            | inr differs ↦ elim (precedes k left y x there here (omega arith)) [
              | inl y_less ↦ omega (arith, beats.0)
              | inr y_same ↦ omega (arith, beats.0, y_same.0)
            ]
          ]
        ]
      ]
