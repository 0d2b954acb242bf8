-- A queue cut into ranges, and what comes of a pass over each.
use Rattle.std.specs.Prelude.{◌≡◌, ℕ, ◌<◌, ◌⊎◌, ◌↔◌, List, ◌++◌, Some, All, AllPairs, Contains, IfSome, length, slice_get}
use Rattle.waiting_item.specs.declared.item.Item.{Item}
use Rattle.waiting_queue.specs.declared.joining.Part.{Part}
use Rattle.waiting_queue.specs.declared.ranges.Range.{Range}
use Rattle.waiting_queue.specs.declared.ranges.Lists.{Lists}
use Rattle.waiting_queue.specs.Joining.{AreParts, rest_of, taken_of}
use Rattle.waiting_queue.specs.Shadows.{Descends, IsShadow}
use Rattle.waiting_queue.specs.Taking.{AreSorted, SetsApart, TakesOpen}
use Rattle.waiting_item.specs.Waiting.{AreCriteria, Spot, SpotLess, spot_in}

-- what comes in
abbrev pub others_of : {C : Type 0} → Lists C → List (Item C)
others_of l = l.late.now ++ l.fresh.now

-- all that waits
abbrev pub all_of : {C : Type 0} → Lists C → List (Item C)
all_of l = l.items.now ++ others_of l

-- costs have these components
module _ {C : Type 0} (components : C → List ℕ) where
  -- an item lies in the range: it doesn't come before where that begins, and comes before where it ends
  pub record LiesIn (r : Range C) (x : Item C) : Type 0 where
    pub from : IfSome r.from (λ f. ¬ SpotLess (spot_in components x) (spot_in components f.now))
    pub until : IfSome r.until (λ u. SpotLess (spot_in components x) (spot_in components u.now))

  -- x is one of the range's items, or one of the others that lies in it
  abbrev pub IsOf : List (Item C) → Range C → Item C → Type 0
  IsOf others r x = Contains r.items.now x ⊎ (Contains others x × LiesIn r x)

  -- nothing of the second range comes before something of the first
  abbrev pub LiesBefore : List (Item C) → Range C → Range C → Type 0
  LiesBefore others r s = (x y : Item C) → IsOf others r x → IsOf others s y → ¬ SpotLess (spot_in components y) (spot_in components x)

  -- the range's items are sorted
  abbrev pub IsRange : Range C → Type 0
  IsRange r = AreSorted (spot_in components) r.items.now

  -- ranges in ascending order, of which just these items and the others are
  pub record AreRanges (items others : List (Item C)) (ranges : List (Range C)) : Type 0 where
    pub each : All IsRange ranges
    pub ascending : AllPairs (LiesBefore others) ranges
    pub has : (x : Item C) → (Contains items x ⊎ Contains others x) ↔ ((r : Range C) × Contains ranges r × IsOf others r x)

  -- those of the items that lie in the range are listed behind what was there
  abbrev pub ListsWithin : Range C → List (Item C) → List (Item C) → List (Item C) → Type 0
  ListsWithin r items old new = (x : Item C) → Contains new x ↔ (Contains old x ⊎ (Contains items x × LiesIn r x))

  -- there is such a range, and its items are sorted
  pub record CanPass (d : ℕ) (ranges : List (Range C)) (piece : ℕ) : Type 0 where
    pub criteria : AreCriteria d
    pub there : piece < length ranges
    pub each : All IsRange ranges

  -- what a pass took of what is of the range and left there, and the shadow of what it took
  pub record PassesRange (Open : Spot → Type 0) (others : List (Item C)) (r : Range C) (took rest : List (Item C)) (costs : List C) : Type 0 where
    pub met : List (Item C)
    pub all : (x : Item C) → Contains met x ↔ IsOf others r x
    pub takes : TakesOpen (spot_in components) Open met took rest
    pub sorted : AreSorted (spot_in components) rest
    pub shadow : IsShadow components took costs
    pub descends : Descends components costs

  -- so it is of the range at this place
  abbrev pub GivesPart : (Spot → Type 0) → List (Item C) → List (Range C) → ℕ → Part C → Type 0
  GivesPart Open others ranges piece p = (r : Range C) → slice_get ranges piece ≡ Some r
      → PassesRange Open others r p.taken.items p.rest.items p.shadow.items

  -- These items were passed in ranges: what the parts took can be joined, they set apart what may be taken, and what stays is sorted.
  pub record ArePassed (Open : Spot → Type 0) (items : List (Item C)) (parts : List (Part C)) : Type 0 where
    pub are : AreParts components parts
    pub apart : SetsApart (spot_in components) Open items (taken_of parts) (rest_of parts)
    pub sorted : AreSorted (spot_in components) (rest_of parts)
