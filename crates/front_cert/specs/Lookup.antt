-- Where a node and a cost have their place among labels.
use Rattle.std.specs.Prelude.{◌≡◌, ℕ, ◌+◌, ◌*◌, ◌<◌, ◌≤◌, [], length, Some, slice_get, slice_index_or, ◌==◌, ◌||◌, ◌&&◌, nat_lt, Bool, true, false, List}
use Rattle.std.specs.List.Sorted.{IsPartitionPoint}
use Rattle.std.specs.Ordering.{is_lt}
use Rattle.cost_vector.specs.Costs.{AtMost, lex_cmp}
use Rattle.cost_vector.specs.declared.label.Label.{Label as StoredLabel}
use Rattle.cert_rules.specs.Certificates.{IsBefore}
use Rattle.front_cert.specs.Listing.{block_size, line_of}

-- of two labels as they are kept, the first stands before the second
abbrev pub Precedes : StoredLabel → StoredLabel → Type 0
Precedes x y = IsBefore (line_of x) (line_of y)

-- the test that a label stands before each label of this node and this cost
abbrev pub is_before : ℕ → List ℕ → StoredLabel → Bool
is_before v c l = nat_lt l.node.0 v || (l.node.0 == v && is_lt (lex_cmp l.cost c))

-- all labels before the place i stand before this node and this cost, and all others don't
abbrev pub IsPlace : List StoredLabel → ℕ → List ℕ → ℕ → Type 0
IsPlace labels v c i = IsPartitionPoint (λ l. is_before v c l ≡ true) (λ l. is_before v c l ≡ false) labels i

-- All labels before `first` stand before this node and this cost, and from `end` on none does.
pub record Encloses (labels : List StoredLabel) (v : ℕ) (c : List ℕ) (first end : ℕ) : Type 0 where
  pub order : first ≤ end
  pub within : end ≤ length labels
  pub before : (k : ℕ) (x : StoredLabel) → slice_get labels k ≡ Some x → k < first → is_before v c x ≡ true
  pub behind : (k : ℕ) (x : StoredLabel) → slice_get labels k ≡ Some x → end ≤ k → is_before v c x ≡ false

-- a whole block stands before this end, and its corner isn't at most the cost
pub record IsPassed (corners : List (List ℕ)) (end : ℕ) (c : List ℕ) (size : ℕ) : Type 0 where
  pub block : ℕ
  pub there : block < length corners
  pub ends : block * block_size + block_size ≡ end
  pub all : size ≡ block_size
  pub greater : ¬ AtMost (slice_index_or corners block []) c
