-- How a list is gone through, in ascending order.
use Rattle.std.specs.Prelude.{◌≡◌, ℕ, ◌-◌, ◌⊎◌, List, [], ◌∷◌, ◌++◌, Some, length, slice_get, Contains}
use Rattle.list_laws.specs.Sets.{SameMembers}
use Rattle.waiting_item.specs.declared.item.Item.{Item}
use Rattle.waiting_queue.specs.Shadows.{Descends, IsShadow, Joins, SplitsAt}
use Rattle.waiting_queue.specs.Taking.{AreSorted, TakesOpen}
use Rattle.waiting_item.specs.Waiting.{Spot, SpotLess, spot_in}

-- each member has a spot
module _ {X : Type 0} (spot : X → Spot) where
  -- the members before the place i come before s, and no other does
  abbrev pub IsSplit : List X → Spot → ℕ → Type 0
  IsSplit xs s = SplitsAt (λ x. SpotLess (spot x) s) (λ x. ¬ SpotLess (spot x) s) xs

  -- s is the spot of the last member
  abbrev pub EndsAt : List X → Spot → Type 0
  EndsAt xs s = (x : X) × (slice_get xs (length xs - 1) ≡ Some x) × (spot x ≡ s)

-- costs have these components
module _ {C : Type 0} (components : C → List ℕ) where
  -- of an item that the shadow doesn't dominate: it leaves, since it isn't open or was taken last, or it is taken
  abbrev pub IsLookedAt : (Spot → Type 0) → Item C → List C → List (Item C) → List C → List (Item C) → Type 0
  IsLookedAt Open i costs took more_costs more_took =
      ((more_costs ≡ costs) × (more_took ≡ took) × (EndsAt (spot_in components) took (spot_in components i) ⊎ (¬ Open (spot_in components i))))
      ⊎ (Joins components costs i.cost more_costs × (more_took ≡ took ++ i ∷ [])
      × (¬ EndsAt (spot_in components) took (spot_in components i)) × Open (spot_in components i))

  -- those that were seen are taken, stay or have left
  pub record IsPassed (Open : Spot → Type 0) (seen : List (Item C)) (costs : List C) (took left : List (Item C)) : Type 0 where
    pub shadow : IsShadow components took costs
    pub descends : Descends components costs
    pub takes : TakesOpen (spot_in components) Open seen took left
    pub sorted : AreSorted (spot_in components) left

  -- the items come next: they are sorted, and none comes before one that was seen
  pub record AreNext (seen items : List (Item C)) : Type 0 where
    pub sorted : AreSorted (spot_in components) items
    pub behind : (x y : Item C) → Contains seen x → Contains items y → ¬ SpotLess (spot_in components y) (spot_in components x)

  -- where the items come next, they are passed too
  abbrev pub PassesNext : (Spot → Type 0) → List (Item C) → List C → List (Item C) → List (Item C) → List C → List (Item C) → List (Item C) → Type 0
  PassesNext Open items costs took left more_costs more_took more_left = (seen : List (Item C)) → AreNext seen items
      → IsPassed Open seen costs took left → IsPassed Open (seen ++ items) more_costs more_took more_left

  -- all are passed: the list that was seen has the same members
  abbrev pub HasPassed : (Spot → Type 0) → List (Item C) → List C → List (Item C) → List (Item C) → Type 0
  HasPassed Open all costs took left = (seen : List (Item C)) × SameMembers all seen × IsPassed Open seen costs took left
