-- Where the labels of each node stand among labels that ascend.
use Rattle.std.specs.Prelude.{◌≡◌, ℕ, ◌<◌, ◌≤◌, List, length, Some, slice_get}
use Rattle.cost_vector.specs.declared.label.Label.{Label as StoredLabel}

-- all labels before the place i are of nodes up to v
abbrev pub AreUpTo : List StoredLabel → ℕ → ℕ → Type 0
AreUpTo labels v i = (k : ℕ) (x : StoredLabel) → slice_get labels k ≡ Some x → k < i → x.node.0 ≤ v

-- all labels from the place i on are of nodes greater than v
abbrev pub AreBeyond : List StoredLabel → ℕ → ℕ → Type 0
AreBeyond labels v i = (k : ℕ) (x : StoredLabel) → slice_get labels k ≡ Some x → i ≤ k → v < x.node.0

-- the labels of nodes up to v end at the place i
pub record IsEnd (labels : List StoredLabel) (v i : ℕ) : Type 0 where
  pub within : i ≤ length labels
  pub up_to : AreUpTo labels v i
  pub beyond : AreBeyond labels v i

-- each offset is the end of the labels of nodes up to its number
abbrev pub AreOffsets : List StoredLabel → List ℕ → Type 0
AreOffsets labels offsets = (v i : ℕ) → slice_get offsets v ≡ Some i → IsEnd labels v i

-- from the place `first` up to `end` stand all labels of node v
pub record IsSpan (labels : List StoredLabel) (v first end : ℕ) : Type 0 where
  pub order : first ≤ end
  pub within : end ≤ length labels
  pub below : (k : ℕ) (x : StoredLabel) → slice_get labels k ≡ Some x → k < first → x.node.0 < v
  pub beyond : AreBeyond labels v end
