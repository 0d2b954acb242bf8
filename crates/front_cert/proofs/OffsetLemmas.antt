-- Labels of one node, and where they end.
use Rattle.std.proofs.Common.{◌≡◌, ℕ, ◌+◌, ◌-◌, ◌<◌, ◌≤◌, true, false, List, [], ◌∷◌, ◌++◌, length, take, drop, Some, inl, inr, refl, sym, ap, subst, subst₂, ◌∙◌, arith, get_or}
use Rattle.std.specs.Prelude.{AllPairs, Bool, slice_get}
use Rattle.std.proofs.lemmas.Bool.{cases_eq, cases_lt}
use Rattle.std.proofs.lemmas.Bool.Decides.{nat_tests}
use Rattle.std.proofs.lemmas.List.{get_or-drop, get_or-take, get_or_append_left, get_or_push, length-drop, length-take-le, length_push}
use Rattle.std.proofs.lemmas.Option.{slice_get_within, slice_get-get_or, get_or_from_slice_get}
use Rattle.cost_vector.specs.declared.label.Label.{Label as StoredLabel}
use Rattle.front_cert.specs.Lookup.{Encloses, IsPlace, Precedes, is_before}
use Rattle.front_cert.specs.Offsets.{AreBeyond, AreOffsets, AreUpTo, IsEnd, IsSpan}
use Rattle.front_cert.proofs.LookupLemmas.{by_test, partitioned}

-- a label of a greater node doesn't stand before this node and this cost
beyond_test : (v : ℕ) (c : List ℕ) (l : StoredLabel) → v < l.node.0 → is_before v c l ≡ false
beyond_test v c l more = grind (arith, nat_tests)

-- ---- the labels of a span

module _ (labels : List StoredLabel) (first end : ℕ) (order : first ≤ end) (within : end ≤ length labels) where
  abbrev part : List StoredLabel
  part = take (end - first) (drop first labels)

  part_length : length part ≡ end - first
  part_length = length-take-le (end - first) (drop first labels) (omega (arith, within, order, length-drop first labels))

  part_at : (i : ℕ) (d : StoredLabel) → i < end - first → get_or part i d ≡ get_or labels (first + i) d
  part_at i d below = get_or-take (end - first) (drop first labels) i d below ∙ get_or-drop first labels i d

  -- they ascend
  pub part_ascends : AllPairs Precedes labels → AllPairs Precedes part
  part_ascends ascending i j d less inside =
      let last : j < end - first = omega (arith, part_length, inside) in
      subst₂ Precedes (sym (part_at i d (omega (arith, less, last)))) (sym (part_at j d last))
      (ascending (first + i) (first + j) d (omega (arith, less)) (omega (arith, last, within, order)))

  -- a place among them is one among all, if they enclose it
  pub part_place : (v : ℕ) (c : List ℕ) (r : ℕ) → Encloses labels v c first end → IsPlace part v c r → r ≤ length part → IsPlace labels v c (first + r)
  part_place v c r encloses place inside = (
    λ k d low high. elim (cases_lt k first) [
      | inl before ↦ encloses.before k (get_or labels k d) (slice_get-get_or labels k d (omega (arith, before, order, within))) before
      | inr later ↦
          let i = k - first in
          let back : first + i ≡ k = omega (arith, later) in
          subst (λ n. is_before v c (get_or labels n d) ≡ true) back
          (subst (λ x. is_before v c x ≡ true) (part_at i d (omega (arith, part_length, inside, high, back)))
          (place.0 i d (omega arith) (omega (arith, high, back))))
    ],
    λ k d low high. elim (cases_lt k end) [
      | inl before ↦
          let i = k - first in
          let back : first + i ≡ k = omega (arith, low) in
          subst (λ n. is_before v c (get_or labels n d) ≡ false) back
          (subst (λ x. is_before v c x ≡ false) (part_at i d (omega (arith, before, back)))
          (place.1 i d (omega (arith, low, back)) (omega (arith, part_length, before, back))))
      | inr later ↦ encloses.behind k (get_or labels k d) (slice_get-get_or labels k d high) later
    ],
  )

-- ---- where a place is enclosed

-- the labels of a node enclose the place of each of its costs
pub encloses_span : (labels : List StoredLabel) (v : ℕ) (c : List ℕ) (first end : ℕ) → IsSpan labels v first end → Encloses labels v c first end
encloses_span labels v c first end span = record {
  order = span.order;
  within = span.within;
  before = λ k x here below. by_test v c x (inl (span.below k x here below));
  behind = λ k x here above. beyond_test v c x (span.beyond k x here above);
}

not_true : (b : Bool) → (b ≡ true → ⊥) → b ≡ false
not_true true not = absurd (not refl)
not_true false not = refl

module _ (labels : List StoredLabel) (v : ℕ) (c : List ℕ) (ascending : AllPairs Precedes labels) (first end : ℕ) (encloses : Encloses labels v c first end)
    (i : ℕ) (x : StoredLabel) (here : slice_get labels i ≡ Some x) where
  -- a label up to one that stands before stands before
  before_up_to : (k j : ℕ) (y z : StoredLabel) → slice_get labels k ≡ Some y → slice_get labels j ≡ Some z → k ≤ j → is_before v c z ≡ true → is_before v c y ≡ true
  before_up_to k j y z at_k at_j up_to test =
      subst (λ l. is_before v c l ≡ true) (get_or_from_slice_get labels k y y at_k)
      (partitioned labels v c ascending k j y up_to (slice_get_within labels j z at_j)
      (subst (λ l. is_before v c l ≡ true) (sym (get_or_from_slice_get labels j z y at_j)) test))

  -- it is behind each label that stands before
  pub encloses_behind : i < end → is_before v c x ≡ true → Encloses labels v c (i + 1) end
  encloses_behind below test = record {
    order = omega arith;
    within = encloses.within;
    before = λ k y there less. before_up_to k i y x there here (omega (arith, less)) test;
    behind = encloses.behind;
  }

  -- it isn't behind a label that doesn't stand before
  pub encloses_up_to : first ≤ i → is_before v c x ≡ false → Encloses labels v c first i
  encloses_up_to low test = record {
    order = low;
    within = omega (arith, slice_get_within labels i x here);
    before = encloses.before;
    behind = λ k y there above. not_true (is_before v c y) (λ holds. let other = before_up_to i k x y here there above holds in absurd cc);
  }

-- ---- ends of the labels of each node

-- all labels are a span for each node
pub all_span : (labels : List StoredLabel) (v : ℕ) → IsSpan labels v 0 (length labels)
all_span labels v = record {
  order = omega arith;
  within = omega arith;
  below = λ k x here less. absurd (omega arith);
  beyond = λ k x here more. absurd (omega (arith, more, slice_get_within labels k x here));
}

-- there is a label at each place
label_at : (labels : List StoredLabel) (i : ℕ) → i < length labels → (x : StoredLabel) × (slice_get labels i ≡ Some x)
label_at [] i below = absurd (omega arith)
label_at (l ∷ labels) i below = (get_or (l ∷ labels) i l, slice_get-get_or (l ∷ labels) i l below)

-- from the end of the lesser nodes to its own end stand the labels of a node
pub span_by_ends : (labels : List StoredLabel) (v u first end : ℕ) → v ≡ u + 1 → IsEnd labels u first → IsEnd labels v end → IsSpan labels v first end
span_by_ends labels v u first end next before own = record {
  order = elim (cases_lt end first) [
    | inr at_most ↦ at_most
    | inl less ↦
        let found = label_at labels end (omega (arith, less, before.within)) in
        omega (arith, next, before.up_to end found.0 found.1 less, own.beyond end found.0 found.1 (omega arith))
  ];
  within = own.within;
  below = λ k x here less. omega (arith, next, before.up_to k x here less);
  beyond = own.beyond;
}

-- one end more
pub offsets_more : (labels : List StoredLabel) (offsets : List ℕ) (v i : ℕ) → length offsets ≡ v → AreOffsets labels offsets → IsEnd labels v i
    → AreOffsets labels (offsets ++ i ∷ [])
offsets_more labels offsets v i long are ends u j at =
    let is = get_or_from_slice_get (offsets ++ i ∷ []) u j 0 at in
    elim (cases_lt u (length offsets)) [
      | inl before ↦ are u j (slice_get-get_or offsets u 0 before ∙ ap Some (sym (get_or_append_left offsets (i ∷ []) 0 u before) ∙ is))
      | inr later ↦
          let inside = slice_get_within (offsets ++ i ∷ []) u j at in
          let last : u ≡ v = omega (arith, later, long, inside, length_push offsets i) in
          let same : i ≡ j = sym (get_or_push offsets i 0 u (long ∙ sym last)) ∙ is in
          subst₂ (IsEnd labels) (sym last) same ends
    ]

pub offsets_none : (labels : List StoredLabel) → AreOffsets labels []
offsets_none labels v i at = absurd (omega (arith, slice_get_within [] v i at))

-- what is up to a node is up to the next
pub up_to_more : (labels : List StoredLabel) (v i : ℕ) → AreUpTo labels v i → AreUpTo labels (v + 1) i
up_to_more labels v i up k x here below = omega (arith, up k x here below)

-- ---- the end of the labels of nodes up to one

module _ (labels : List StoredLabel) (v i : ℕ) where
  -- one label more
  pub up_to_next : (x : StoredLabel) → slice_get labels i ≡ Some x → x.node.0 ≤ v → AreUpTo labels v i → AreUpTo labels v (i + 1)
  up_to_next x here least up k y there below = elim (cases_eq k i) [
    | inr other ↦ up k y there (omega arith)
    | inl same ↦
        let there_too : slice_get labels i ≡ Some y = subst (λ n. slice_get labels n ≡ Some y) same there in
        let one : Some x ≡ Some y = sym here ∙ there_too in
        let is : x ≡ y = cc in
        subst (λ (l : StoredLabel). l.node.0 ≤ v) is least
  ]

  -- where a label is of a greater node so are all behind it
  pub beyond_from : AllPairs Precedes labels → (x : StoredLabel) → slice_get labels i ≡ Some x → v < x.node.0 → AreBeyond labels v i
  beyond_from ascending x here more k y there later = elim (cases_eq k i) [
    | inl same ↦
        let there_too : slice_get labels i ≡ Some y = subst (λ n. slice_get labels n ≡ Some y) same there in
        let one : Some x ≡ Some y = sym here ∙ there_too in
        let is : x ≡ y = cc in
        subst (λ (l : StoredLabel). v < l.node.0) is more
    | inr other ↦
        let before : Precedes x y = subst₂ Precedes (get_or_from_slice_get labels i x x here) (get_or_from_slice_get labels k y x there)
        (ascending i k x (omega arith) (slice_get_within labels k y there)) in
        elim before [
          | inl less ↦ omega (arith, more, less)
          | inr less ↦ omega (arith, more, less.0)
        ]
  ]

  -- where all labels have passed none is behind
  pub beyond_all : length labels ≤ i → AreBeyond labels v i
  beyond_all all k x here later = absurd (omega (arith, all, later, slice_get_within labels k x here))
