use Rattle.std.proofs.Common.{◌-◌, ◌≤◌, length}
use Rattle.std.specs.List.{AllWithin}
use Rattle.settled_list.proofs.staircase.place_for.Given as goal

abbrev pub invariant-loop-end : goal.invariant-loop-end
invariant-loop-end g l =
    (l.start ≤ l.end) × ((l.end ≤ length l.rests) × AllWithin (λ q. g.P.Part.value l.rest.third ≤ g.P.Part.value q.third) l.rests l.start l.end)

abbrev pub decreases-loop-end : goal.decreases-loop-end
decreases-loop-end g l = length l.rests - l.end
