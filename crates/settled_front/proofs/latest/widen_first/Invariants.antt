use Rattle.std.proofs.Common.{◌≡◌, ℕ, List, take}
use Rattle.settled_front.proofs.latest.widen_first.Given as goal

abbrev pub invariant-loop-lane : goal.invariant-loop-lane
invariant-loop-lane g l =
    let wide : List (List ℕ) = l.wide in
    let block : List (List ℕ) = l.block in
    wide ≡ take l.lane block
