-- The rule of the end mark, under each kind of step.
use Rattle.std.proofs.Common.{ℕ, ◌+◌, List, refl}
use Rattle.left_right.specs.Register.{TurnsAt}
use Rattle.epoch_store.specs.EndMark.{LooksForMark}
use Rattle.epoch_store.specs.declared.end_mark.EndMark.{EndMark}
use Rattle.epoch_store.specs.declared.sight.MarkSight.{MarkSight}

-- whatever becomes of the mark, a look at it then tells what it is, and is counted
pub looks_for_mark : (seat : ℕ) (v : MarkSight) (mark : EndMark)
    → TurnsAt (λ (m : EndMark) (views : List MarkSight). Unit {0}) seat v mark mark (λ before m n after. LooksForMark before n after)
looks_for_mark seat v mark views kept at = (
  record { looks = v.looks + 1; closed = mark.closed },
  tt,
  record { counted = refl; found = refl },
)
