-- What several parts took, joined one member after another.
use Rattle.std.proofs.Common.{Bor, ◌≡◌, ℕ, ◌+◌, ◌-◌, ◌<◌, ◌⊎◌, ◌↔◌, Bool, List, [], ◌∷◌, ◌++◌, append-nil, append_assoc}
use Rattle.std.proofs.Common.{take, take_all, take-append-drop, length, length-append, map, get_or, inl, inr, refl, sym, subst, arith}
use Rattle.std.specs.Prelude.{AllPairs, Contains, IsTrue, flat_map}
use Rattle.std.proofs.lemmas.Grind.{common_steps, take_at_read}
use Rattle.std.proofs.lemmas.List.{get_or_default, get_or-take, map_push}
use Rattle.std.proofs.lemmas.List.Concat.{flat_map-append}
use Rattle.std.proofs.lemmas.List.Elements.{Contains-get_or}
use Rattle.std.proofs.lemmas.Option.{gets, slice_get-get_or}
use Rattle.cost_vector.specs.Costs.{Dominates}
use Rattle.cost_vector.proofs.Vectors.{Dominates-irrefl, Dominates-trans, LexLess_from_Dominates}
use Rattle.list_laws.proofs.Members.{each_in, in_first, in_none, in_rest}
use Rattle.list_laws.proofs.OnceLaws.{in_append, in_cons, pairs_append}
use Rattle.list_laws.proofs.Pairs.{pair_with_first, pairs_none, pairs_rest}
use Rattle.waiting_item.specs.declared.item.Item.{Item}
use Rattle.waiting_queue.specs.declared.joining.Part.{Part}
use Rattle.waiting_queue.specs.Joining.{AreMarked, AreParts, ComesBefore, EndsBefore, IsPart, JoinsAll, taken_of}
use Rattle.waiting_queue.specs.Passing.{EndsAt}
use Rattle.waiting_queue.specs.Shadows.{IsBehind, IsDominatedBy}
use Rattle.waiting_queue.specs.Taking.{AreSorted, IsDominatedIn}
use Rattle.waiting_item.specs.Waiting.{Spot, SpotLess, spot_in}
use Rattle.waiting_queue.proofs.OrderLemmas.{SpotLess-irrefl, SpotLess-trans, after_or_same, not_lex_less}
use Rattle.waiting_queue.proofs.PassingLemmas.{ends_if_there, has_if_ends}
use Rattle.waiting_queue.proofs.ShadowLemmas.{in_parts, pairs_parts, shadow_tells}
use Rattle.waiting_queue.proofs.TakingLemmas.{takes_more, takes_not, takes_skip}

-- ---- lists

module _ {X : Type 0} where
  -- what stands before a member
  pub pair_at : (R : X → X → Type 0) (xs : List X) (i : ℕ) (x y : X) → AllPairs R xs → i < length xs → x ≡ get_or xs i x → Contains (take i xs) y → R y x
  pair_at R xs i x y pairs within at (j, near, here) = let before = pairs j i y in grind (arith, common_steps, get_or-take, get_or_default)

  -- of two members one comes first, unless they are the same
  pairs_either : (R : X → X → Type 0) (xs : List X) (x y : X) → AllPairs R xs → Contains xs x → Contains xs y → (x ≡ y) ⊎ (R x y ⊎ R y x)
  pairs_either R xs x y pairs (i, near, here) (j, far, there) =
      let up = pairs i j x in let down = pairs j i y in let same = get_or_default xs j x y far in let same_too = get_or_default xs i x y near in grind arith

  -- a list up to a member that was read, and what it has
  pub take_read : (xs : List X) (i : ℕ) (x : X) → i < length xs → x ≡ get_or xs i x → take (i + 1) xs ≡ take i xs ++ x ∷ []
  take_read xs i x within at = grind (arith, common_steps)

  pub in_pushed : (xs : List X) (x y : X) → Contains (xs ++ x ∷ []) y ↔ (Contains xs y ⊎ (y ≡ x))
  in_pushed xs x y = let both = in_append xs (x ∷ []) y in let one = in_cons x [] y in let none = in_none y in grind arith

  pub in_read : (xs : List X) (i : ℕ) (x y : X) → i < length xs → x ≡ get_or xs i x
      → Contains (take (i + 1) xs) y ↔ (Contains (take i xs) y ⊎ (y ≡ x))
  in_read xs i x y within at = rw (take_read xs i x within at) (in_pushed (take i xs) x y)

module _ {X Y : Type 0} (f : X → List Y) where
  -- a list that is joined of the lists of each member has what these have
  pub in_flat : (xs : List X) (x : X) (y : Y) → Contains xs x → Contains (f x) y → Contains (flat_map f xs) y
  in_flat [] x y there here = absurd (in_none x there)
  in_flat (z ∷ zs) x y there here =
      let both = in_append (f z) (flat_map f zs) y in let cases = in_cons z zs x in let later = in_flat zs x y in grind arith

  -- and nothing else
  pub of_flat : (xs : List X) (y : Y) → Contains (flat_map f xs) y → (x : X) × Contains xs x × Contains (f x) y
  of_flat [] y there = absurd (in_none y there)
  of_flat (z ∷ zs) y there = elim ((in_append (f z) (flat_map f zs) y).0 there) [
    | inl first ↦ (z, in_first z zs, first)
    | inr rest ↦ let (x, later, here) = of_flat zs y rest in (x, in_rest z zs x later, here)
  ]

  -- its pairs
  pub pairs_flat : (R : Y → Y → Type 0) (xs : List X) → ((x : X) → Contains xs x → AllPairs R (f x))
      → AllPairs (λ x z. (y w : Y) → Contains (f x) y → Contains (f z) w → R y w) xs → AllPairs R (flat_map f xs)
  pairs_flat R [] each across = pairs_none R
  pairs_flat R (x ∷ xs) each across =
      let Across = λ (x z : X). (y w : Y) → Contains (f x) y → Contains (f z) w → R y w in
      pairs_append R (f x) (flat_map f xs) (each x (in_first x xs))
      (pairs_flat R xs (λ z h. each z (in_rest x xs z h)) (pairs_rest Across x xs across))
      (λ y w h k. let (z, later, here) = of_flat xs w k in pair_with_first Across x xs across z later y w h here)

-- what a loop takes from a list of lists
pub ruleset flat_steps = (take_at_read, take_all, take-append-drop, map_push, flat_map-append, append-nil, append_assoc)

module _ {C : Type 0} (components : C → List ℕ) where
  abbrev spot : Item C → Spot
  spot = spot_in components

  abbrev NotAfter : Item C → Item C → Type 0
  NotAfter a b = ¬ SpotLess (spot b) (spot a)

  -- what the parts took is sorted
  pub taken_sorted : (parts : List (Part C)) → AreParts components parts → AreSorted spot (taken_of parts)
  taken_sorted parts are = pairs_flat (λ p. p.taken.items) NotAfter parts (λ p h j k d before within back.
      let first = spot (get_or p.taken.items j d) in
      let less = (each_in (IsPart components) parts are.each p h).ascending j k d before within in
      SpotLess-irrefl first (SpotLess-trans first (spot (get_or p.taken.items k d)) first less back)) are.ascending

  -- ---- what a part's shadow tells

  module _ {parts : List (Part C)} (are : AreParts components parts) {x : Item C} (there : Contains (taken_of parts) x)
      {p : Part C} (p_in : Contains parts p) where
    is : IsPart components p
    is = each_in (IsPart components) parts are.each p p_in

    -- that something of the part dominates an item
    pub seen_in : IsDominatedBy components p.shadow.items (components x.cost) → IsDominatedIn spot (taken_of parts) (components x.cost)
    seen_in by =
        let (y, y_in, dominates) = shadow_tells components p.taken.items p.shadow.items (components x.cost) is.shadow by in
        (y, in_flat (λ (q : Part C). q.taken.items) parts p y p_in y_in, dominates)

    -- that nothing of it does, if it ends before the item
    pub unseen_in : (EndsBefore components p.taken.items (spot x) → IsBehind components p.shadow.items (components x.cost)
        → ¬ IsDominatedBy components p.shadow.items (components x.cost)) → ¬ IsDominatedIn spot p.taken.items (components x.cost)
    unseen_in unseen (y, y_in, by) =
        let (q, q_in, x_in) = of_flat (λ (r : Part C). r.taken.items) parts x there in
        elim (pairs_either (ComesBefore components) parts p q are.ascending p_in q_in) [
          | inl same ↦ is.apart y x y_in (rw same x_in) by
          | inr (inr after) ↦ not_lex_less (spot x) (spot y) (after x y x_in y_in) (LexLess_from_Dominates (components y.cost) (components x.cost) by)
          | inr (inl before) ↦
              let n = length p.taken.items - 1 in
              let within : n < length p.taken.items = omega (arith, y_in.1) in
              let last = get_or p.taken.items n y in
              let last_in = Contains-get_or p.taken.items n y within in
              let not_less = λ (z : Item C) (h : Contains p.taken.items z). not_lex_less (spot z) (spot x) (before z x h x_in) in
              elim (after_or_same (spot last) (spot x) (before last x last_in x_in)) [
                | inl ends ↦ unseen (last, slice_get-get_or p.taken.items n y within, ends)
                    (λ c h. let (i, i_in, same) = is.shadow.from c h in rw (← same) (not_less i i_in))
                    (is.shadow.dominates (components x.cost) not_less y y_in by)
                | inr same ↦ is.apart y last y_in last_in (subst (λ (s : Spot). Dominates (components y.cost) s.cost) (sym same) by)
              ]
        ]

  -- ---- marks

  -- those of two lists, one behind the other
  pub marked_append : {all xs ys : List (Item C)} {ms ns : List Bool} → AreMarked components all xs ms → AreMarked components all ys ns
      → AreMarked components all (xs ++ ys) (ms ++ ns)
  marked_append {xs = xs} front back = record {
    count = grind (arith, length-append, front.count, back.count);
    each = λ i x m here mark. let f = front.each i x m in let b = back.each (i - length xs) x m in grind (arith, gets, common_steps, front.count, back.count);
  }

  -- one more
  pub marked_push : {all : List (Item C)} (items : List (Item C)) {marks : List Bool} {i : ℕ} {x : Item C} {m : Bool} → i < length items
      → x ≡ get_or items i x → AreMarked components all (take i items) marks → (IsTrue m ↔ IsDominatedIn spot all (components x.cost))
      → AreMarked components all (take (i + 1) items) (marks ++ m ∷ [])
  marked_push items {i = i} {x = x} {m = m} within at are tells = rw (take_read items i x within at)
      (marked_append are (record {
        count = refl;
        each = λ k y n here mark. let both : (y ≡ x) × (n ≡ m) = grind (arith, gets) in rw (both.0, both.1) tells;
      }))

  -- ---- one member more

  module _ (all : List (Item C)) {took back : List (Item C)} (sorted : AreSorted spot all) {k : ℕ} {x : Item C} (within : k < length all)
      (at : x ≡ get_or all k x) (is : JoinsAll components (take k all) took back) where
    behind : (y : Item C) → Contains (take k all) y → NotAfter y x
    behind y h = pair_at NotAfter all k x y sorted within at h

    -- what dominates it stands before it
    before : (y : Item C) → Contains all y → Dominates (components y.cost) (components x.cost) → Contains (take k all) y
    before y h by =
        let less = LexLess_from_Dominates (components y.cost) (components x.cost) by in
        let later = pairs_parts NotAfter (k + 1) all x y sorted ((in_read all k x x within at).1 (inr refl)) in
        grind (arith, in_parts all (k + 1) y, in_read all k x y within at, not_lex_less (spot x) (spot y), Dominates-irrefl (components x.cost))

    dominated : IsDominatedIn spot all (components x.cost) → IsDominatedIn spot took (components x.cost)
    dominated (y, h, by) = elim (is.leaves y (before y h by)) [
      | inl stays ↦ let (z, z_in, up) = (is.stays y stays).1 in (z, z_in, Dominates-trans (components z.cost) (components y.cost) (components x.cost) up by)
      | inr (inl gone) ↦ (gone.0, gone.1, subst (λ (s : Spot). Dominates s.cost (components x.cost)) (sym gone.2) by)
      | inr (inr closed) ↦ absurd (closed tt)
    ]

    -- another dominates it
    pub goes_back : IsDominatedIn spot all (components x.cost) → JoinsAll components (take (k + 1) all) took (back ++ x ∷ [])
    goes_back by = rw (take_read all k x within at) (takes_skip spot _ (take k all) took back is x behind (dominated by))

    -- its spot was taken last
    pub is_there : EndsAt spot took (spot x) → JoinsAll components (take (k + 1) all) took back
    is_there ends = rw (take_read all k x within at) (takes_not spot _ (take k all) took back is x behind (inl (has_if_ends components took (spot x) ends)))

    -- it is taken
    pub joins : ¬ IsDominatedIn spot all (components x.cost) → ¬ EndsAt spot took (spot x) → JoinsAll components (take (k + 1) all) (took ++ x ∷ []) back
    joins free not_last = rw (take_read all k x within at) (takes_more spot _ (take k all) took back is x behind tt
        (λ (y, h, by). free (y, (in_parts all k y).1 (inl (is.among y h)), by))
        (λ y h. elim (after_or_same (spot y) (spot x) (behind y (is.among y h))) [
          | inl less ↦ less
          | inr same ↦ absurd (not_last (ends_if_there components took (spot x) is.ascending (λ z j. behind z (is.among z j)) (y, h, same)))
        ]))
