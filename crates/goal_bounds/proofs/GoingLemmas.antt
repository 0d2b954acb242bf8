-- How the search goes back along arcs, one after another.
use Rattle.std.proofs.Common.{◌≡◌, ◌≢◌, ℕ, ◌+◌, ◌<◌, ◌≤◌, List, ◌∷◌, length, get_or, set, inl, inr, ◌⊎◌, refl, sym, ap, subst, ◌∙◌, arith}
use Rattle.std.specs.Prelude.{Contains, IsPermutation}
use Rattle.std.proofs.lemmas.Bool.{cases_eq, cases_lt}
use Rattle.std.proofs.lemmas.List.{get_or-set_same, get_or-set_other, length-set, get_or_default}
use Rattle.std.proofs.lemmas.List.Sums.{sum_by-set}
use Rattle.std.proofs.lemmas.List.Sorted.{Contains-permutation, IsPermutation-sym, length_permutation}
use Rattle.list_laws.proofs.Members.{cases_in, in_rest}
use Rattle.cost_vector.specs.declared.label.ArcNo.{ArcNo}
use Rattle.road_network.specs.Network.{Network, Leads}
use Rattle.road_network.proofs.Reached.{leads_alike}
use Rattle.arc_graph.specs.Graph.{in_arcs_of}
use Rattle.arc_graph.proofs.InArcsLemmas.{each_is_there}
use Rattle.goal_bounds.specs.Reverse.{GoesBack, IsFoundAlong, Item, ReverseSearch, item, value_at}

-- k is one of the first i arcs
abbrev pub IsAmong : List ArcNo → ℕ → ℕ → Type 0
IsAmong arcs i k = (n : ℕ) × (n < i) × ((get_or arcs n (record { 0 = 0 })).0 ≡ k)

module _ (net : Network) (v x : ℕ) where
  -- ---- one part after another

  pub goes_nowhere : (P : ℕ → Type 0) (s : ReverseSearch) → ((k u : ℕ) (w : List ℕ) → P k → Leads net k u w v → value_at s u ≤ x + get_or w s.criterion 0)
      → GoesBack net v x P s s
  goes_nowhere P s reached = record {
    target = refl;
    criterion = refl;
    count = refl;
    lower = λ u. omega arith;
    reached = reached;
    kept = λ i there. there;
    changed = λ u. inl refl;
    come = λ i there. inl there;
    weight = omega arith;
  }

  pub goes_on : (P Q R : ℕ → Type 0) (a b c : ReverseSearch) → GoesBack net v x P a b → GoesBack net v x Q b c → ((k : ℕ) → R k → P k ⊎ Q k)
      → GoesBack net v x R a c
  goes_on P Q R a b c first second either = record {
    target = second.target ∙ first.target;
    criterion = second.criterion ∙ first.criterion;
    count = second.count ∙ first.count;
    lower = λ u. omega (arith, first.lower u, second.lower u);
    reached = reached;
    kept = λ i there. second.kept i (first.kept i there);
    changed = changed;
    come = come;
    weight = omega (arith, first.weight, second.weight);
  } where
    reached : (k u : ℕ) (w : List ℕ) → R k → Leads net k u w v → value_at c u ≤ x + get_or w a.criterion 0
    reached k u w among arc = elim (either k among) [
      | inl before ↦ omega (arith, first.reached k u w before arc, second.lower u)
      | inr now ↦ subst (λ n. value_at c u ≤ x + get_or w n 0) first.criterion (second.reached k u w now arc)
    ]

    along : (u y : ℕ) → IsFoundAlong net b.criterion v x u y → IsFoundAlong net a.criterion v x u y
    along u y found = subst (λ n. IsFoundAlong net n v x u y) first.criterion found

    changed : (u : ℕ) → (value_at c u ≡ value_at a u) ⊎ (Contains c.items (item (value_at c u) u) × IsFoundAlong net a.criterion v x u (value_at c u))
    changed u = elim (second.changed u) [
      | inr new ↦ inr (new.0, along u (value_at c u) new.1)
      | inl same ↦ elim (first.changed u) [
        | inl same_too ↦ inl (same ∙ same_too)
        | inr new ↦ inr (
          subst (λ y. Contains c.items (item y u)) (sym same) (second.kept (item (value_at b u) u) new.0),
          subst (IsFoundAlong net a.criterion v x u) (sym same) new.1,
        )
      ]
    ]

    come : (i : Item) → Contains c.items i → Contains a.items i ⊎ IsFoundAlong net a.criterion v x i.0.node.0 i.0.value
    come i there = elim (second.come i there) [
      | inr found ↦ inr (along i.0.node.0 i.0.value found)
      | inl before ↦ first.come i before
    ]

  -- ---- the arcs into the node

  pub among_none : (arcs : List ArcNo) (s : ReverseSearch) → GoesBack net v x (IsAmong arcs 0) s s
  among_none arcs s = goes_nowhere (IsAmong arcs 0) s (λ k u w among arc. omega (arith, among.1))

  pub among_more : (arcs : List ArcNo) (i : ℕ) (a b c : ReverseSearch) → GoesBack net v x (IsAmong arcs i) a b
      → GoesBack net v x (λ k. k ≡ (get_or arcs i (record { 0 = 0 })).0) b c → GoesBack net v x (IsAmong arcs (i + 1)) a c
  among_more arcs i a b c first second =
      goes_on (IsAmong arcs i) (λ k. k ≡ (get_or arcs i (record { 0 = 0 })).0) (IsAmong arcs (i + 1)) a b c first second
      (λ k among. elim (cases_lt among.0 i) [
        | inl before ↦ inl (among.0, before, among.2)
        | inr here ↦
            let at : among.0 ≡ i = omega (arith, among.1, here) in
            inr (sym (subst (λ n. (get_or arcs n (record { 0 = 0 })).0 ≡ k) at among.2))
      ])

  -- each arc that leads there is one of them
  pub among_all : (arcs : List ArcNo) (i : ℕ) (a b : ReverseSearch) → arcs ≡ in_arcs_of net.ends v → length arcs ≤ i
      → GoesBack net v x (IsAmong arcs i) a b → GoesBack net v x (λ k. Unit {0}) a b
  among_all arcs i a b all ended back = record {
    target = back.target;
    criterion = back.criterion;
    count = back.count;
    lower = back.lower;
    reached = λ k u w any arc.
        let there = subst (λ xs. Contains xs (record { 0 = k })) (sym all) (each_is_there net k u v w arc) in
        back.reached k u w (there.0, omega (arith, there.1, ended), number arcs k there.0 there.1 there.2) arc;
    kept = back.kept;
    changed = back.changed;
    come = back.come;
    weight = back.weight;
  } where
    number : (xs : List ArcNo) (k n : ℕ) → n < length xs → get_or xs n (record { 0 = k }) ≡ record { 0 = k } → (get_or xs n (record { 0 = 0 })).0 ≡ k
    number xs k n within is = ap (λ (y : ArcNo). y.0) (get_or_default xs n (record { 0 = 0 }) (record { 0 = k }) within ∙ is)

  -- ---- along one arc

  module _ (k u : ℕ) (w : List ℕ) (arc : Leads net k u w v) (s : ReverseSearch) where
    alike : (P : ℕ → List ℕ → Type 0) → P u w → (h z : ℕ) (b : List ℕ) → h ≡ k → Leads net h z b v → P z b
    alike P here h z b same other =
        let both = leads_alike net k u v z v w b arc (subst (λ n. Leads net n z b v) same other) in
        subst (λ n. P n b) both.0 (subst (P u) both.1 here)

    pub goes_no_lower : value_at s u ≤ x + get_or w s.criterion 0 → GoesBack net v x (λ h. h ≡ k) s s
    goes_no_lower known = goes_nowhere (λ h. h ≡ k) s (alike (λ z b. value_at s z ≤ x + get_or b s.criterion 0) known)

    module _ (found : ℕ) (sum : found ≡ x + get_or w s.criterion 0) (items : List Item) (less : found < value_at s u) (within : u < length s.values)
        (pushed : IsPermutation (item found u ∷ s.items) items) where
      abbrev lowered : ReverseSearch
      lowered = record { target = s.target; criterion = s.criterion; values = set s.values u found; items = items }

      here : value_at lowered u ≡ found
      here = get_or-set_same s.values u found 0 within

      elsewhere : (z : ℕ) → z ≢ u → value_at lowered z ≡ value_at s z
      elsewhere z other = get_or-set_other s.values u z found 0 other

      is_found : IsFoundAlong net s.criterion v x u found
      is_found = record { arc = k; by = w; leads = arc; value = sum }

      no_greater : (z : ℕ) → value_at lowered z ≤ value_at s z
      no_greater z = elim (cases_eq z u) [
        | inl same ↦ subst (λ n. value_at lowered n ≤ value_at s n) (sym same) (omega (arith, here, less))
        | inr other ↦ omega (arith, elsewhere z other)
      ]

      changed : (z : ℕ) → (value_at lowered z ≡ value_at s z) ⊎ (Contains items (item (value_at lowered z) z) × IsFoundAlong net s.criterion v x z (value_at lowered z))
      changed z = elim (cases_eq z u) [
        | inr other ↦ inl (elsewhere z other)
        | inl same ↦ inr (
          subst (λ n. Contains items (item (value_at lowered n) n)) (sym same)
              (subst (λ y. Contains items (item y u)) (sym here) (Contains-permutation (item found u ∷ s.items) items (item found u) pushed (0, omega arith, refl))),
          subst (λ n. IsFoundAlong net s.criterion v x n (value_at lowered n)) (sym same) (subst (IsFoundAlong net s.criterion v x u) (sym here) is_found),
        )
      ]

      come : (i : Item) → Contains items i → Contains s.items i ⊎ IsFoundAlong net s.criterion v x i.0.node.0 i.0.value
      come i there = elim (cases_in (item found u) s.items i (Contains-permutation items (item found u ∷ s.items) i (IsPermutation-sym (item found u ∷ s.items) items pushed) there)) [
        | inr before ↦ inl before
        | inl same ↦ inr (subst (λ (y : Item). IsFoundAlong net s.criterion v x y.0.node.0 y.0.value) (sym same) is_found)
      ]

      pub goes_lower : GoesBack net v x (λ h. h ≡ k) s lowered
      goes_lower = record {
        target = refl;
        criterion = refl;
        count = length-set s.values u found;
        lower = no_greater;
        reached = alike (λ z b. value_at lowered z ≤ x + get_or b s.criterion 0) (omega (arith, here, sum));
        kept = λ i there. Contains-permutation (item found u ∷ s.items) items i pushed (in_rest (item found u) s.items i there);
        changed = changed;
        come = come;
        weight = omega (arith, sum_by-set (λ n. n) s.values u found 0 within, length_permutation (item found u ∷ s.items) items pushed);
      }
