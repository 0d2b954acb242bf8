-- What the parts of a queue have taken, each by a pass of its own, and what is taken of all.
use Rattle.std.specs.Prelude.{◌≡◌, ℕ, ◌-◌, ◌<◌, ◌↔◌, Bool, List, [], Some, All, AllPairs, Contains, IsTrue, flat_map, length, slice_get, slice_index_or}
use Rattle.cost_vector.specs.Costs.{Dominates}
use Rattle.waiting_item.specs.declared.item.Item.{Item}
use Rattle.waiting_queue.specs.declared.joining.Part.{Part}
use Rattle.waiting_queue.specs.Shadows.{Descends, IsShadow}
use Rattle.waiting_queue.specs.Taking.{IsDominatedIn, TakesOpen}
use Rattle.waiting_item.specs.Waiting.{AreCriteria, Spot, SpotLess, spot_in}

module _ {C : Type 0} where
  -- what the parts have taken
  abbrev pub taken_of : List (Part C) → List (Item C)
  taken_of = flat_map (λ p. p.taken.items)

  -- what stays in them
  abbrev pub rest_of : List (Part C) → List (Item C)
  rest_of = flat_map (λ p. p.rest.items)

-- the lists, one behind the other
abbrev pub joined : {X : Type 0} → List (List X) → List X
joined = flat_map (λ xs. xs)

-- costs have these components
module _ {C : Type 0} (components : C → List ℕ) where
  -- what a part took ascends, none of it dominates another, and its shadow tells what it dominates
  pub record IsPart (p : Part C) : Type 0 where
    pub ascending : AllPairs (λ x y. SpotLess (spot_in components x) (spot_in components y)) p.taken.items
    pub apart : (x y : Item C) → Contains p.taken.items x → Contains p.taken.items y → ¬ Dominates (components x.cost) (components y.cost)
    pub shadow : IsShadow components p.taken.items p.shadow.items
    pub descends : Descends components p.shadow.items

  -- nothing that the second part took comes before something that the first did
  abbrev pub ComesBefore : Part C → Part C → Type 0
  ComesBefore p q = (x y : Item C) → Contains p.taken.items x → Contains q.taken.items y
      → ¬ SpotLess (spot_in components y) (spot_in components x)

  -- parts in ascending order
  pub record AreParts (parts : List (Part C)) : Type 0 where
    pub each : All IsPart parts
    pub ascending : AllPairs ComesBefore parts

  -- exactly those of all are taken that none of them dominates, each spot once, and the others go back
  abbrev pub JoinsAll : List (Item C) → List (Item C) → List (Item C) → Type 0
  JoinsAll = TakesOpen (spot_in components) (λ _. Unit {0})

  -- the same of what the parts took
  abbrev pub AreJoined : List (Part C) → List (Item C) → List (Item C) → Type 0
  AreJoined parts = JoinsAll (taken_of parts)

  -- the last of the items comes before s
  abbrev pub EndsBefore : List (Item C) → Spot → Type 0
  EndsBefore items s = (x : Item C) × (slice_get items (length items - 1) ≡ Some x) × SpotLess (spot_in components x) s

  -- each mark tells of the item at its place whether one of all dominates it
  pub record AreMarked (all items : List (Item C)) (marks : List Bool) : Type 0 where
    pub count : length marks ≡ length items
    pub each : (i : ℕ) (x : Item C) (m : Bool) → slice_get items i ≡ Some x → slice_get marks i ≡ Some m
        → IsTrue m ↔ IsDominatedIn (spot_in components) all (components x.cost)

  -- there is such a piece, and all pieces are of what the parts took
  pub record CanMark (d : ℕ) (parts : List (Part C)) (pieces : List (List (Item C))) (piece : ℕ) : Type 0 where
    pub criteria : AreCriteria d
    pub are : AreParts parts
    pub there : piece < length pieces
    pub whole : joined pieces ≡ taken_of parts

  -- these are the marks of the piece's items
  abbrev pub AreMarksOf : List (Part C) → List (List (Item C)) → ℕ → List Bool → Type 0
  AreMarksOf parts pieces piece = AreMarked (taken_of parts) (slice_index_or pieces piece [])
