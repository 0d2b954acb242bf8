use Rattle.std.proofs.Common.{◌≡◌, ℕ, List, take}
use Rattle.settled_front.specs.Corners.{in_blocks}
use Rattle.settled_front.proofs.cornered.widen_blocks.Given as goal

abbrev pub invariant-loop-block : goal.invariant-loop-block
invariant-loop-block g l =
    let blocks : List (List (List ℕ)) = l.blocks in
    l.wide ≡ in_blocks (take l.block-index blocks)
