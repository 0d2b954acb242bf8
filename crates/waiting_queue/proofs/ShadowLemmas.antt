-- The shadow of what was taken.
use Rattle.std.proofs.Common.{◌≡◌, ◌≢◌, ℕ, ◌+◌, ◌||◌, ◌<◌, ◌≤◌, ◌⊎◌, ◌↔◌, Bool, true, false, not, IsTrue, List, [], ◌∷◌, ◌++◌, get_or, set, take, drop, length}
use Rattle.std.proofs.Common.{inl, inr, refl, sym, ap, arith, get_or-drop, get_or-take, drop-set-lt}
use Rattle.std.proofs.Common.{All, AllPairs, Contains, filter, insert, length-set, length-take, length-drop, take-add, take-append-drop}
use Rattle.std.specs.Int.{from_bool}
use Rattle.std.proofs.lemmas.Bool.Decides.{nat_tests}
use Rattle.std.proofs.lemmas.List.{get_or_default, get_or_past, get_or_read, take-set, take_more}
use Rattle.std.proofs.lemmas.List.Elements.{filter_passes, All-append, All-contains_itself, All-filter, All-more, AllZip-get_or}
use Rattle.std.proofs.lemmas.List.Filters.{FiltersInPlace, FiltersInPlace-more_no, FiltersInPlace-more_set}
use Rattle.std.proofs.lemmas.List.Sorted.{IsPermutation-insert}
use Rattle.std.proofs.lemmas.Option.{get_or_from_slice_get, slice_get_within}
use Rattle.cost_vector.specs.Costs.{AtMost, Dominates, LexLess}
use Rattle.cost_vector.proofs.Vectors.{AtMost-refl, AtMost-trans, cases_AtMost}
use Rattle.list_laws.specs.Without.{IsWithout}
use Rattle.list_laws.proofs.Members.{all_from_in, cases_in, cases_push, each_in, in_filter}
use Rattle.list_laws.proofs.OnceLaws.{in_append, pairs_append}
use Rattle.list_laws.proofs.Pairs.{pairs_cons, pairs_take}
use Rattle.list_laws.proofs.SetLaws.{gains_by_permutation}
use Rattle.waiting_item.specs.declared.item.Item.{Item}
use Rattle.waiting_queue.specs.Shadows.{grounded, second_of, Descends, ExceedsBefore, FallsTo, IsBehind, IsBelowSome, IsDominatedBy, IsLater}
use Rattle.waiting_queue.specs.Shadows.{IsRun, IsShadow, Joins, ReachesBefore}
use Rattle.waiting_queue.proofs.TakingLemmas.{in_push, last_in}

-- the end of a list
pub pairs_drop : {X : Type 0} (R : X → X → Type 0) (n : ℕ) (xs : List X) → AllPairs R xs → AllPairs R (drop n xs)
pairs_drop R n xs pairs = grind (arith, get_or-drop, length-drop)

-- what stands in the front or the back of a list stands in it, and nothing else does
pub in_parts : {X : Type 0} (xs : List X) (i : ℕ) (x : X) → Contains xs x ↔ (Contains (take i xs) x ⊎ Contains (drop i xs) x)
in_parts xs i x = rw take-append-drop at (in_append (take i xs) (drop i xs) x)

-- a member of the front, and one that stands behind it
pub pairs_parts : {X : Type 0} (R : X → X → Type 0) (k : ℕ) (xs : List X) (x y : X) → AllPairs R xs → Contains (take k xs) x → Contains (drop k xs) y → R x y
pairs_parts R k xs x y pairs h l = grind (arith, get_or-take, get_or-drop, length-take, length-drop, get_or_default xs (k + l.0) x y, pairs h.0 (k + l.0) x)

-- one element more, between two lists
pub pairs_between : {X : Type 0} (R : X → X → Type 0) (front back : List X) (y : X) → AllPairs R front → AllPairs R back
    → ((x z : X) → Contains front x → Contains back z → R x z) → ((x : X) → Contains front x → R x y) → ((z : X) → Contains back z → R y z)
    → AllPairs R (front ++ y ∷ back)
pairs_between R front back y first second across before after =
    pairs_append R front (y ∷ back) first (pairs_cons R y back after second)
    (λ x z h k. elim (cases_in y back z k) [ inl same ↦ rw same (before x h) | inr later ↦ across x z h later ])

-- where c comes no later than y, and each component of y but the first is at least c's, so is the first
pub at_most_ungrounded : (c y : List ℕ) → ¬ LexLess y c → AtMost (grounded c) y → AtMost c y
at_most_ungrounded (c ∷ cs) (z ∷ zs) later below = (grind (arith, nat_tests), below.1)
at_most_ungrounded _ _ later below = below

-- where c comes no later than y, and each component of b but the first is at least c's, c is at most what b is at most
covers_on : (c b y : List ℕ) → ¬ LexLess y c → AtMost (grounded c) b → AtMost b y → AtMost c y
covers_on c b y later below k = at_most_ungrounded c y later (AtMost-trans (grounded c) b y below k)

-- the second component of a cost that is at most another
pub second_at_most : (a b : List ℕ) → AtMost a b → second_of a ≤ second_of b
second_at_most a b h = grind (arith, AllZip-get_or ◌≤◌ a b 1 0 0 h, get_or_past a 1 0)

-- the members that stay are those that P doesn't hold of
pub loses_by_without : {X : Type 0} (P : X → Type 0) (before after : List X) → IsWithout P before after
    → (x : X) → Contains after x ↔ (Contains before x × ¬ P x)
loses_by_without P before after w x =
    grind (arith, each_in (Contains before) after w.old x, each_in (λ y. ¬ P y) after w.gone x, each_in (λ y. P y ⊎ Contains after y) before w.kept x)

-- ---- costs have these components
module _ {C : Type 0} (components : C → List ℕ) where
  -- ---- a list is gone through, and what stays moves up: the costs that aren't at least c
  module _ (c : List ℕ) where
    -- whether a cost isn't at least c
    abbrev pub stays : C → Bool
    stays x = elim (cases_AtMost c (components x)) [ inl above ↦ false | inr not_above ↦ true ]

    -- the next stays or leaves
    pub filters_next : {xs ys : List C} {k i : ℕ} {x : C} → FiltersInPlace stays xs ys k i → i < length ys → x ≡ get_or ys i x → (leaves : Bool)
        → IsTrue leaves ↔ AtMost c (components x) → FiltersInPlace stays xs (set ys k x) (k + from_bool (not leaves)) (i + 1)
    filters_next {xs} {ys} {k} {i} {x} is inside at true tells =
        let more = FiltersInPlace-more_no is inside (grind arith) at in
        grind (arith, take-set, drop-set-lt, length-set)
    filters_next {xs} {ys} {k} {i} {x} is inside at false tells = FiltersInPlace-more_set is inside (grind arith) at

    -- what stays are the others
    pub without_by_filter : (xs : List C) → IsWithout (λ x. AtMost c (components x)) xs (filter stays xs)
    without_by_filter xs = record {
      old = All-filter stays (Contains xs) xs (All-contains_itself xs);
      kept = all_from_in (λ x. AtMost c (components x) ⊎ Contains (filter stays xs) x) xs (λ x h. grind (arith, in_filter stays xs x h));
      gone = λ k d before. grind (arith, filter_passes stays xs k d before);
    }

  -- one cost more at the end
  below_some_push : (xs : List C) (y : C) (c : List ℕ) → IsBelowSome components (xs ++ y ∷ []) c ↔ (IsBelowSome components xs c ⊎ AtMost c (components y))
  below_some_push xs y c = (λ h. grind (arith, cases_push xs y h.above h.contains), λ k. grind (arith, in_push xs y, last_in xs y))

  -- the first costs, and one more
  pub below_some_more : (costs : List C) (c : List ℕ) (i : ℕ) (x : C) (any here : Bool) → i < length costs → x ≡ get_or costs i x
      → IsTrue any ↔ IsBelowSome components (take i costs) c → IsTrue here ↔ AtMost c (components x)
      → IsTrue (any || here) ↔ IsBelowSome components (take (i + 1) costs) c
  below_some_more costs c i x any here within is before now = grind (arith, take_more costs i x, below_some_push (take i costs) x c)

  -- where c is at most no cost that comes up to it in the second component, all stay
  pub without_none : (costs : List C) (c : List ℕ) (i : ℕ) → ReachesBefore components costs c i → ¬ IsBelowSome components (take i costs) c
      → IsWithout (λ x. AtMost c (components x)) costs costs
  without_none costs c i split none = record {
    old = All-contains_itself costs;
    kept = λ k d before. inr (All-contains_itself costs k d before);
    gone = all_from_in (λ x. ¬ AtMost c (components x)) costs (λ x h below.
        grind (arith, split.after, (in_parts costs i x).0 h, second_at_most c (components x) below));
  }

  -- the shadow dominates the first n items
  pub record IsShadowed (shadow : List C) (items : List (Item C)) (n : ℕ) : Type 0 where
    pub within : n ≤ length items
    pub shadowed : All (λ i. IsDominatedBy components shadow (components i.cost)) (take n items)

  module _ {shadow : List C} {items : List (Item C)} {n : ℕ} where
    -- a cost of the shadow dominates the next m items too
    pub run_on : IsShadowed shadow items n → (by : C) → Contains shadow by → (left : List (Item C)) → left ≡ drop n items → (m : ℕ) → m ≤ length left
        → All (λ (i : Item C). Dominates (components by) (components i.cost)) (take m left) → IsShadowed shadow items (n + m)
    run_on is by there left back m within next = record {
      within = omega (arith, is.within, ap length back, length-drop n items);
      shadowed = rw (take-add, ← back) (All-append (λ (i : Item C). IsDominatedBy components shadow (components i.cost)) (take n items) (take m left)
          is.shadowed (λ k d before. record { by = by; contains = there; dominates = next k d before }));
    }

    -- and so it does the next item, if another cost of it dominates that
    pub run_next : IsShadowed shadow items n → (item : Item C) → n < length items → item ≡ get_or items n item
        → IsDominatedBy components shadow (components item.cost) → IsShadowed shadow items (n + 1)
    run_next is item inside at by =
        grind (arith, All-more (λ (i : Item C). IsDominatedBy components shadow (components i.cost)) items n item inside is.shadowed)

    -- a run ends before an item that the shadow doesn't dominate
    pub run_ends : IsShadowed shadow items n → (item : Item C) → n < length items → item ≡ get_or items n item
        → (IsBehind components shadow (components item.cost) → ¬ IsDominatedBy components shadow (components item.cost)) → IsRun components shadow items n
    run_ends is item inside at free = record {
      within = is.within;
      shadowed = is.shadowed;
      ends = λ i h. grind (arith, free, get_or_read items n item inside at i, get_or-drop n items 0 i, get_or_from_slice_get (drop n items) 0 i i h);
    }

    -- or where there are no more
    pub run_over : IsShadowed shadow items n → length items ≤ n → IsRun components shadow items n
    run_over is none = grind (arith, slice_get_within (drop n items) 0, length-drop n items)

  -- the shadow dominates what the costs do that were taken
  pub shadow_tells : (took : List (Item C)) (shadow : List C) (c : List ℕ) → IsShadow components took shadow → IsDominatedBy components shadow c
      → (i : Item C) × Contains took i × Dominates (components i.cost) c
  shadow_tells took shadow c is by = let from = is.from by.by by.contains in (from.0, from.1, rw from.2 by.dominates)

  module _ (took : List (Item C)) (shadow : List C) (s : Item C) (is : IsShadow components took shadow)
      (behind : IsLater components took (components s.cost)) (free : ¬ IsDominatedBy components shadow (components s.cost)) (after : List C)
      (joins : Joins components shadow s.cost after) where
    -- the cost joins, and dominates what it dominates
    joined_dominates : (c : List ℕ) → Dominates (components s.cost) c → IsDominatedBy components after c
    joined_dominates c below = record { by = s.cost; contains = (joins s.cost).1 (inr refl); dominates = below }

    -- what dominates a later cost stays, or the cost that joins dominates that too
    still_dominated : (c : List ℕ) → IsLater components (took ++ s ∷ []) c → IsDominatedBy components shadow c → IsDominatedBy components after c
    still_dominated c later by = elim (cases_AtMost (grounded (components s.cost)) (components by.by)) [
      | inr stays ↦ grind (arith, joins by.by)
      | inl leaves ↦ joined_dominates c (record {
        at_most = covers_on (components s.cost) (components by.by) c (later s (last_in took s)) leaves by.dominates.at_most;
        differs = λ same. free (rw same by);
      })
    ]

    -- one more is taken
    pub shadow_cast : IsShadow components (took ++ s ∷ []) after
    shadow_cast = record {
      from = λ c h. elim ((joins c).0 h) [
        | inl old ↦ let from = is.from c old.0 in (from.0, in_push took s from.0 from.1, from.2)
        | inr joined ↦ (s, last_in took s, sym joined)
      ];
      dominates = λ c later x h below. elim (cases_push took s x h) [
        | inl old ↦ still_dominated c later (is.dominates c (λ y k. later y (in_push took s y k)) x old below)
        | inr last ↦ joined_dominates c (rw last at below)
      ];
    }

  -- a cost is put among those that are retained
  pub joins_by_insert : (before kept after : List C) (c : C) (i : ℕ)
      → ((x : C) → Contains kept x ↔ (Contains before x × ¬ AtMost (grounded (components c)) (components x)))
      → after ≡ insert kept i c → Joins components before c after
  joins_by_insert before kept after c i without put =
      λ x. through (gains_by_permutation c kept after (rw put (IsPermutation-insert kept i c)) x) (without x)
    where
      through : {A B K E : Type 0} → A ↔ (K ⊎ E) → K ↔ B → A ↔ (B ⊎ E)
      through gains keeps = grind arith

  module _ (shadow : List C) (c : List ℕ) (i : ℕ) (split : ExceedsBefore components shadow c i) where
    -- what exceeds a cost in the second component doesn't dominate it
    pub dominated_behind : IsDominatedBy components shadow c → IsDominatedBy components (drop i shadow) c
    dominated_behind h = grind (arith, split.before, (in_parts shadow i h.by).0 h.contains, second_at_most (components h.by) c h.dominates.at_most)

    -- a cost fits behind those that exceed it
    pub descends_by_insert : (d : C) → components d ≡ c → Descends components shadow → (after : List C) → after ≡ insert shadow i d
        → Descends components after
    descends_by_insert d same descends after put = rw put (pairs_between (FallsTo components) (take i shadow) (drop i shadow) d
        (pairs_take (FallsTo components) i shadow descends) (pairs_drop (FallsTo components) i shadow descends)
        (λ x z. pairs_parts (FallsTo components) i shadow x z descends)
        (λ x h. grind (arith, split.before)) (λ x h. grind (arith, split.after)))
