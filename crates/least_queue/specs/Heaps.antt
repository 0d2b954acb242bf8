-- The order of a heap of what waits.
use Rattle.std.specs.Prelude.{◌≡◌, ℕ, ◌-◌, ◌<◌, List, length, slice_index_or, true}
use Rattle.std.specs.declared.cmp.Reverse.{Reverse}
use Rattle.std.specs.declared.cmp.Ordering.{Ordering}
use Rattle.std.specs.Ordering.{is_lt, nat_cmp, ordering_then}
use Rattle.waiting_item.specs.Waiting.{Waiting, as_waiting}
use Rattle.waiting_item.specs.declared.item.Item.{Item}

-- the order of a heap whose greatest element leaves first: the least cost, then the least node
abbrev pub least_first : {C : Type 0} → (C → C → Ordering) → Reverse (Item C) → Reverse (Item C) → Ordering
least_first cmp x y =
    ordering_then (cmp y.0.cost x.0.cost) (ordering_then (nat_cmp y.0.node.0 x.0.node.0) (nat_cmp y.0.from.0 x.0.from.0))

-- what an element of the heap says
abbrev pub waits : {C : Type 0} → (C → List ℕ) → Reverse (Item C) → Waiting
waits components i = as_waiting components i.0

-- the last element of the list is less than the head of the heap
pub record IsLastBehind {T : Type 0} (cmp : T → T → Ordering) (run heap : List T) : Type 0 where
  pub some : 0 < length heap
  pub less : (d : T) → is_lt (cmp (slice_index_or run (length run - 1) d) (slice_index_or heap 0 d)) ≡ true
