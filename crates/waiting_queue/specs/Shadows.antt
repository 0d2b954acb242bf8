-- The shadow of what was taken: few costs, which tell of each later cost whether one of all that were taken dominates it.
use Rattle.std.specs.Prelude.{◌≡◌, ℕ, ◌<◌, ◌≤◌, ◌↔◌, ◌⊎◌, List, [], ◌∷◌, length, take, drop, slice_get, slice_index, Some, All, AllPairs, Contains}
use Rattle.cost_vector.specs.Costs.{AtMost, Dominates, LexLess}
use Rattle.waiting_item.specs.declared.item.Item.{Item}

-- P holds of the elements before the place i, and Q of the others
pub record SplitsAt {X : Type 0} (P Q : X → Type 0) (xs : List X) (i : ℕ) : Type 0 where
  pub within : i ≤ length xs
  pub before : All P (take i xs)
  pub after : All Q (drop i xs)

-- the cost with zero as its first component
abbrev pub grounded : List ℕ → List ℕ
grounded [] = []
grounded (x ∷ xs) = 0 ∷ xs

-- the second component
abbrev pub second_of : List ℕ → ℕ
second_of c = slice_index c 1

-- costs have these components
module _ {C : Type 0} (components : C → List ℕ) where
  -- some cost of the list dominates c
  pub record IsDominatedBy (costs : List C) (c : List ℕ) : Type 0 where
    pub by : C
    pub contains : Contains costs by
    pub dominates : Dominates (components by) c

  -- c is at most some cost of the list
  pub record IsBelowSome (costs : List C) (c : List ℕ) : Type 0 where
    pub above : C
    pub contains : Contains costs above
    pub at_most : AtMost c (components above)

  -- b doesn't exceed a in the second component
  abbrev pub FallsTo : C → C → Type 0
  FallsTo a b = second_of (components b) ≤ second_of (components a)

  -- no cost exceeds an earlier one in the second component
  abbrev pub Descends : List C → Type 0
  Descends = AllPairs FallsTo

  -- the costs before the place i exceed c in the second component, and no other does
  abbrev pub ExceedsBefore : List C → List ℕ → ℕ → Type 0
  ExceedsBefore shadow c =
      SplitsAt (λ x. second_of c < second_of (components x)) (λ x. second_of (components x) ≤ second_of c) shadow

  -- the costs before the place i come up to c in the second component, and no other does
  abbrev pub ReachesBefore : List C → List ℕ → ℕ → Type 0
  ReachesBefore shadow c =
      SplitsAt (λ x. second_of c ≤ second_of (components x)) (λ x. second_of (components x) < second_of c) shadow

  -- c joins the shadow, and those leave of which no component but the first is less than c's
  abbrev pub Joins : List C → C → List C → Type 0
  Joins before c after = (x : C) → Contains after x ↔ ((Contains before x × ¬ AtMost (grounded (components c)) (components x)) ⊎ (x ≡ c))

  -- c comes before no cost of the shadow
  abbrev pub IsBehind : List C → List ℕ → Type 0
  IsBehind shadow c = (x : C) → Contains shadow x → ¬ LexLess c (components x)

  -- no item of the list comes after a cost of its own
  abbrev pub IsLater : List (Item C) → List ℕ → Type 0
  IsLater took c = (i : Item C) → Contains took i → ¬ LexLess c (components i.cost)

  -- Each cost of the shadow is that of an item that was taken, and of the costs that come before none of these, it dominates
  -- those that some item's cost dominates.
  pub record IsShadow (took : List (Item C)) (shadow : List C) : Type 0 where
    pub from : (c : C) → Contains shadow c → (i : Item C) × Contains took i × (i.cost ≡ c)
    pub dominates : (c : List ℕ) → IsLater took c → (i : Item C) → Contains took i → Dominates (components i.cost) c
        → IsDominatedBy shadow c

  -- The shadow dominates the first n of the items, and not the next, if that comes behind it.
  pub record IsRun (costs : List C) (items : List (Item C)) (n : ℕ) : Type 0 where
    pub within : n ≤ length items
    pub shadowed : All (λ i. IsDominatedBy costs (components i.cost)) (take n items)
    pub ends : (i : Item C) → slice_get (drop n items) 0 ≡ Some i → IsBehind costs (components i.cost) → ¬ IsDominatedBy costs (components i.cost)
