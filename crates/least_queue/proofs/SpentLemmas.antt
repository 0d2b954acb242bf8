-- Items that are spent leave a list, in any order.
use Rattle.std.proofs.Common.{ℕ, ◌<◌, ◌≤◌, List, ◌∷◌, length, map, IsPermutation, All, arith}
use Rattle.std.specs.Prelude.{Contains}
use Rattle.std.specs.declared.cmp.Reverse.{Reverse}
use Rattle.std.proofs.lemmas.List.Elements.{All-contains_itself, All-tail}
use Rattle.std.proofs.lemmas.List.Sorted.{All-permutation, IsPermutation-map, length_permutation}
use Rattle.waiting_item.specs.Waiting.{Spot, spot_in}
use Rattle.waiting_item.specs.declared.item.Item.{Item}
use Rattle.sweep_parts.specs.Leaving.{LosesSpent}
use Rattle.least_queue.specs.Heaps.{waits}
use Rattle.least_queue.proofs.LosesLemmas.{loses_none, loses_one, loses_twice}

module _ {C : Type 0} (components : C → List ℕ) (Spent : Spot → Type 0) (before : List (Reverse (Item C))) where
  -- what has left is spent, and so many of those that are left have been looked at
  pub record LeavesOut (now : List (Reverse (Item C))) (kept : ℕ) : Type 0 where
    pub loses : LosesSpent Spent (map (waits components) before) (map (waits components) now)
    pub old : All (Contains before) now
    pub within : kept ≤ length now

  pub leaves_none : LeavesOut before 0
  leaves_none = record { loses = loses_none Spent (map (waits components) before); old = All-contains_itself before; within = omega arith }

  pub leaves_one : (now : List (Reverse (Item C))) (kept : ℕ) (e : Reverse (Item C)) (after : List (Reverse (Item C))) → LeavesOut now kept → kept < length now
      → IsPermutation now (e ∷ after) → Spent (spot_in components e.0) → LeavesOut after kept
  leaves_one now kept e after leaves more moves spent = record {
    loses = loses_twice Spent (map (waits components) before) (map (waits components) now) (map (waits components) after) leaves.loses
        (loses_one Spent (map (waits components) now) (waits components e) (map (waits components) after) (IsPermutation-map (waits components) now (e ∷ after) moves) spent);
    old = All-tail (Contains before) e after (All-permutation (Contains before) now (e ∷ after) moves leaves.old);
    within = omega (arith, more, length_permutation now (e ∷ after) moves);
  }
