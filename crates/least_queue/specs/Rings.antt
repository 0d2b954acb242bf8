-- A ring of buckets: lists of items by the numbers of their buckets.
use Rattle.std.specs.Prelude.{◌≡◌, ◌≢◌, ℕ, ◌+◌, ◌-◌, ◌^◌, ◌<◌, ◌⊎◌, List, [], ◌∷◌, ◌++◌, length, min, slice_index_or, slice_set, All, IsPermutation}
use Rattle.std.specs.Int.Bits.{bit_and}

-- the bucket at the place k: its number, and its items
abbrev pub bucket_at : {T : Type 0} → List (ℕ × List T) → ℕ → ℕ × List T
bucket_at ring k = slice_index_or ring k (0, [])

-- all items of the buckets
abbrev pub ring_items : {T : Type 0} → List (ℕ × List T) → List T
ring_items [] = []
ring_items (b ∷ bs) = b.1 ++ ring_items bs

-- the place of the bucket n, among so many
abbrev pub place_in : ℕ → ℕ → ℕ
place_in size n = bit_and n (size - 1)

-- the number below which a ring of this size reaches from n on
abbrev pub reach_from : ℕ → ℕ → ℕ
reach_from n size = min (n + size) (2 ^ 64 - 1)

-- there are places, and what has items stands at its own
pub record IsRing {T : Type 0} (ring : List (ℕ × List T)) : Type 0 where
  pub some : 0 < length ring
  pub placed : (k : ℕ) → k < length ring → (bucket_at ring k).1 ≢ [] → place_in (length ring) (bucket_at ring k).0 ≡ k

-- the bucket n has items
pub record HasBucket {T : Type 0} (ring : List (ℕ × List T)) (n : ℕ) : Type 0 where
  pub place : ℕ
  pub within : place < length ring
  pub number : (bucket_at ring place).0 ≡ n
  pub some : (bucket_at ring place).1 ≢ []

-- each item fits the number of its bucket
abbrev pub EachFits : {T : Type 0} → (ℕ → T → Type 0) → List (ℕ × List T) → Type 0
EachFits Q ring = (k : ℕ) → k < length ring → All (Q (bucket_at ring k).0) (bucket_at ring k).1

-- the item comes last in the bucket n, whose place was free or its own
pub record Puts {T : Type 0} (before : List (ℕ × List T)) (n : ℕ) (item : T) (after : List (ℕ × List T)) : Type 0 where
  pub place : ℕ
  pub within : place < length before
  pub free : ((bucket_at before place).1 ≡ []) ⊎ ((bucket_at before place).0 ≡ n)
  pub is : after ≡ slice_set before place (n, (bucket_at before place).1 ++ item ∷ [])

-- the items of the bucket n are taken out, if it has some
pub record TakesOut {T : Type 0} (before : List (ℕ × List T)) (n : ℕ) (items : List T) (after : List (ℕ × List T)) : Type 0 where
  pub long : length after ≡ length before
  pub moved : IsPermutation (ring_items before) (items ++ ring_items after)
  pub gone : ¬ HasBucket after n
  pub others : (k : ℕ) → (bucket_at after k ≡ bucket_at before k) ⊎ ((bucket_at after k).1 ≡ [])
  pub from : (items ≡ []) ⊎ ((k : ℕ) × (k < length before) × ((bucket_at before k).0 ≡ n) × (items ≡ (bucket_at before k).1))
