-- What waits in buckets.
use Rattle.std.specs.Prelude.{◌≡◌, ℕ, ◌-◌, ◌/◌, ◌^◌, ◌<◌, ◌≤◌, ◌⊎◌, List, ◌++◌, length, slice_index, All, IsSorted}
use Rattle.std.specs.BinaryHeap.{IsHeap}
use Rattle.std.specs.declared.cmp.Ordering.{Ordering}
use Rattle.std.specs.declared.cmp.Reverse.{Reverse}
use Rattle.waiting_item.specs.declared.item.Item.{Item}
use Rattle.least_queue.specs.Rings.{EachFits, HasBucket, reach_from, ring_items}

-- the number of an item's bucket
abbrev pub bucket_number : {C : Type 0} → (C → List ℕ) → ℕ → Reverse (Item C) → ℕ
bucket_number components shift e = slice_index (components e.0.cost) 0 / 2 ^ shift

-- What is opened lies in the run and in the heap, and the rest in the ring and in the far list.
pub record Buckets (T : Type 0) : Type 0 where
  pub shift : ℕ
  pub current : ℕ
  pub run : List T
  pub heap : List T
  pub ring : List (ℕ × List T)
  pub far : List T
  pub far_least : ℕ

-- what is opened
abbrev pub opened : {T : Type 0} → Buckets T → List T
opened b = b.run ++ b.heap

-- what is not
abbrev pub unopened : {T : Type 0} → Buckets T → List T
unopened b = ring_items b.ring ++ b.far

-- all that waits
abbrev pub all_of : {T : Type 0} → Buckets T → List T
all_of b = opened b ++ unopened b

-- of the bucket m, which is behind the current one and within the ring's reach
pub record Behind {T : Type 0} (number : T → ℕ) (current size m : ℕ) (e : T) : Type 0 where
  pub is : number e ≡ m
  pub later : current < m
  pub near : m < reach_from current size

-- of a bucket that is at least the least far one, which is behind the current one
pub record FarBehind {T : Type 0} (number : T → ℕ) (current far_least : ℕ) (e : T) : Type 0 where
  pub later : current < far_least
  pub least : far_least ≤ number e

-- the run and the heap are in order, and what they hold is of the current bucket or of earlier ones
pub record AreBuckets {T : Type 0} (cmp : T → T → Ordering) (number : T → ℕ) (b : Buckets T) : Type 0 where
  pub narrow : b.shift < 64
  pub sorted : IsSorted cmp b.run
  pub heap : IsHeap cmp b.heap
  pub opened : All (λ e. number e ≤ b.current) (opened b)
  pub ring : EachFits (Behind number b.current (length b.ring)) b.ring
  pub behind : (b.current < b.far_least) ⊎ (2 ^ 64 - 1 ≤ b.far_least)
  pub far : All (FarBehind number b.current b.far_least) b.far

-- no item that is not opened is of an earlier bucket than this one, which is behind the current one
pub record IsNext {T : Type 0} (number : T → ℕ) (b : Buckets T) (n : ℕ) : Type 0 where
  pub later : b.current < n
  pub ring : (m : ℕ) → HasBucket b.ring m → n ≤ m
  pub far : All (λ e. n ≤ number e) b.far
