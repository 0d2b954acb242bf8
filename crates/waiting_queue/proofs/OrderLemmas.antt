-- The order of spots, and lists in this order.
use Rattle.std.proofs.Common.{◌≡◌, ℕ, ◌+◌, ◌-◌, ◌*◌, ◌/◌, ◌<◌, ◌≤◌, Bool, List, take, drop, get_or, length, map, length-take, length-drop, ◌⊎◌, ◌↔◌}
use Rattle.std.proofs.Common.{inl, inr, sym, ap, ap₂, subst, arith, All, AllPairs, Equal, IsTrue, Ordering, get_or-drop, get_or-take}
use Rattle.std.specs.Ordering.{nat_cmp, ordering_then, is_lt, is_eq}
use Rattle.std.specs.Cmp.{IsTotalOrder, nat_cmp_total}
use Rattle.std.specs.Cmp.Lexicographic.{nat_list_cmp_total}
use Rattle.std.specs.List.Sorted.{IsSorted}
use Rattle.std.proofs.lemmas.List.{get_or-map, get_or_read, length-map}
use Rattle.std.proofs.lemmas.List.Sorted.{sorted_far, ranks_by}
use Rattle.std.proofs.lemmas.Bool.Decides.{nat_tests}
use Rattle.std.proofs.lemmas.Cmp.{tied_itself, then_total, on_total}
use Rattle.cost_vector.specs.Costs.{LexLess, lex_cmp}
use Rattle.cost_vector.proofs.Vectors.{same_from_lex_cmp}
use Rattle.list_laws.proofs.Pairs.{pairs_map}
use Rattle.waiting_item.specs.declared.item.Item.{Item}
use Rattle.waiting_queue.specs.Taking.{AreSorted}
use Rattle.waiting_item.specs.Waiting.{Spot, SpotLess, spot_cmp, spot_in}

-- ---- spots

pub spot_cmp_total : IsTotalOrder spot_cmp
spot_cmp_total = then_total (on_total (λ (s : Spot). s.cost) nat_list_cmp_total) (on_total (λ (s : Spot). s.node) nat_cmp_total)

pub SpotLess-irrefl : (a : Spot) → ¬ SpotLess a a
SpotLess-irrefl a less = let e = tied_itself spot_cmp_total a in cc

pub SpotLess-trans : (a b c : Spot) → SpotLess a b → SpotLess b c → SpotLess a c
SpotLess-trans a b c = spot_cmp_total.trans a b c

same_spot : (a b : Spot) → lex_cmp a.cost b.cost ≡ Equal → a.node ≡ b.node → a ≡ b
same_spot a b cost node = ap₂ (λ v n. record { cost = v; node = n }) (same_from_lex_cmp a.cost b.cost cost) node

-- what doesn't come before another comes after it, or is the same
pub after_or_same : (a b : Spot) → ¬ SpotLess b a → SpotLess a b ⊎ (a ≡ b)
after_or_same a b not_less = let back = spot_cmp_total.antisymm b a in grind (arith, nat_tests, same_spot a b)

-- what comes before s comes before what doesn't
pub less_unless : (x y s : Spot) → SpotLess x s → ¬ SpotLess y s → SpotLess x y
less_unless x y s less not_less =
    elim (after_or_same x y (λ back. not_less (SpotLess-trans y x s back less))) [ inl before ↦ before | inr same ↦ absurd (not_less (rw same at less)) ]

-- what doesn't come after what comes before s comes before it too
less_too : (a b s : Spot) → ¬ SpotLess b a → SpotLess b s → SpotLess a s
less_too a b s behind less =
    elim (after_or_same a b behind) [ inl earlier ↦ SpotLess-trans a b s earlier less | inr same ↦ subst (λ z. SpotLess z s) (sym same) less ]

-- what doesn't come before another has no less cost
pub not_lex_less : (a b : Spot) → ¬ SpotLess b a → ¬ LexLess b.cost a.cost
not_lex_less a b not_less less = not_less (ap (λ o. ordering_then o (nat_cmp b.node a.node)) less)

-- what a test says
pub same_by_test : (a b : Spot) (test : Bool) → a.node ≡ b.node → test ≡ is_eq (lex_cmp a.cost b.cost) → IsTrue test ↔ (a ≡ b)
same_by_test a b test node is = grind (arith, same_spot a b, tied_itself nat_list_cmp_total a.cost)

-- ---- items

module _ {C : Type 0} (components : C → List ℕ) where
  -- by the spot, and then by where it came from
  abbrev item_cmp : Item C → Item C → Ordering
  item_cmp a b = ordering_then (lex_cmp (components a.cost) (components b.cost)) (ordering_then (nat_cmp a.node.0 b.node.0) (nat_cmp a.from.0 b.from.0))

  item_cmp_total : IsTotalOrder item_cmp
  item_cmp_total = then_total (on_total (λ (i : Item C). components i.cost) nat_list_cmp_total)
      (then_total (on_total (λ (i : Item C). i.node.0) nat_cmp_total) (on_total (λ (i : Item C). i.from.0) nat_cmp_total))

  -- sorted, by what comparing items tells
  pub sorted_from_cmp : (cmp : C → C → Ordering) → ((a b : C) → cmp a b ≡ lex_cmp (components a) (components b)) → (xs : List (Item C))
      → IsSorted (λ (a b : Item C). ordering_then (cmp a.cost b.cost) (ordering_then (nat_cmp a.node.0 b.node.0) (nat_cmp a.from.0 b.from.0))) xs
      → AreSorted (spot_in components) xs
  sorted_from_cmp cmp orders xs sorted = λ i j d before within less.
      let far = sorted_far (λ x y. is_lt (item_cmp x y)) (ranks_by item_cmp_total (λ (x : Item C). x)) xs (simp orders at sorted) i j d (omega arith) within in
      grind (arith, far)

-- ---- a place found by halving, where those that P holds of come first

module _ {X : Type 0} (R : X → X → Type 0) (xs : List X) (pairs : AllPairs R xs) (P : X → Type 0) (m n : ℕ) (x : X) (inside : m < length xs)
    (at : x ≡ get_or xs m x) (holds : P x) where
  -- P holds up to a place of which it holds
  holds_before : ((x y : X) → R x y → P y → P x) → n ≤ m + 1 → All P (take n xs)
  holds_before down up = λ k d before.
      grind (arith, pairs k m d, down (get_or xs k d) (get_or xs m d), get_or_read xs m x inside at d, get_or-take n xs k d, length-take n xs)

  -- or from it on
  holds_behind : ((x y : X) → R x y → P x → P y) → m ≤ n → All P (drop n xs)
  holds_behind up far = λ k d before.
      grind (arith, pairs m (n + k) d, up (get_or xs m d) (get_or xs (n + k) d), get_or_read xs m x inside at d, get_or-drop n xs k d, length-drop n xs)

-- Only so many elements from the start on are left to search: P holds of those before, and Q of those behind.
pub record IsLeft {X : Type 0} (P Q : X → Type 0) (xs : List X) (start size : ℕ) : Type 0 where
  pub within : start + size ≤ length xs
  pub before : All P (take start xs)
  pub after : All Q (drop (start + size) xs)

-- Of those that are left, the earlier half goes or the later one. P holds before each element of which it holds, and Q behind each of which
-- that holds; a number tells whether P holds or Q.
pub left_halved : {X : Type 0} {P Q : X → Type 0} {xs : List X} {start size : ℕ} → IsLeft P Q xs start size → (R : X → X → Type 0) → AllPairs R xs
    → ((x y : X) → R x y → (P y → P x) × (Q x → Q y)) → 0 < size → (x : X) → x ≡ get_or xs (start + (size - size / 2) - 1) x
    → (bit : ℕ) → (P x × (bit ≡ 1)) ⊎ (Q x × (bit ≡ 0)) → IsLeft P Q xs (start + (size - size / 2) * bit) (size - (size - size / 2))
left_halved {X} {P} {Q} {xs} {start} {size} is R pairs turns some x at bit tells =
    let m = start + (size - size / 2) - 1 in
    let inside : m < length xs = omega (arith, is.within) in
    elim tells [
      | inl holds ↦ rw holds.1 (record {
        within = omega (arith, is.within);
        before = holds_before R xs pairs P m _ x inside at holds.0 (λ x y r. (turns x y r).0) (omega arith);
        after = subst (λ n. All Q (drop n xs)) (omega (arith, some)) is.after;
      })
      | inr fails ↦ rw fails.1 (record {
        within = omega (arith, is.within);
        before = subst (λ n. All P (take n xs)) (omega arith) is.before;
        after = holds_behind R xs pairs Q m _ x inside at fails.0 (λ x y r. (turns x y r).1) (omega arith);
      })
    ]

-- so many of the items come before s
pub record AreBefore {C : Type 0} (components : C → List ℕ) (xs : List (Item C)) (s : Spot) (n : ℕ) : Type 0 where
  pub within : n ≤ length xs
  pub before : All (λ y. SpotLess (spot_in components y) s) (take n xs)

module _ {C : Type 0} (components : C → List ℕ) (xs : List (Item C)) (sorted : AreSorted (spot_in components) xs) (s : Spot) where
  abbrev Before : Item C → Type 0
  Before y = SpotLess (spot_in components y) s

  abbrev Behind : Item C → Item C → Type 0
  Behind x y = ¬ SpotLess (spot_in components y) (spot_in components x)

  -- all up to an item that comes before s do
  pub before_until : (m n : ℕ) (x : Item C) → m < length xs → n ≡ m + 1 → x ≡ get_or xs m x → Before x → AreBefore components xs s n
  before_until m n x inside next at less =
      grind (arith, holds_before Behind xs sorted Before m n x inside at less (λ x y. less_too (spot_in components x) (spot_in components y) s))

  -- and none does from one on that doesn't
  pub none_from : (m : ℕ) (x : Item C) → m < length xs → x ≡ get_or xs m x → ¬ Before x → All (λ y. ¬ Before y) (drop m xs)
  none_from m x inside at not_less = holds_behind Behind xs sorted (λ y. ¬ Before y) m m x inside at not_less
      (λ x y behind fails less. fails (less_too (spot_in components x) (spot_in components y) s behind less)) (omega arith)

-- where two lists are seen as the same ones, what holds of any two of the one holds of any two of the other
pub pairs_as : {X Y Z : Type 0} (f : X → Z) (g : Y → Z) (R : Z → Z → Type 0) (xs : List X) (ys : List Y) → map g ys ≡ map f xs
    → AllPairs (λ a b. R (f a) (f b)) xs → AllPairs (λ a b. R (g a) (g b)) ys
pairs_as f g R xs ys same pairs = λ i j d before within.
    let there = rw (← same) at (pairs_map (λ a b. R (f a) (f b)) R f (λ a b h. h) xs pairs) in
    grind (arith, there i j (g d), get_or-map g ys i d (g d), get_or-map g ys j d (g d), length-map ys g)
