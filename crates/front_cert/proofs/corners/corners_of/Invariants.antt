use Rattle.std.proofs.Common.{◌≡◌, length}
use Rattle.front_cert.specs.Listing.{AreCorners}
use Rattle.front_cert.proofs.corners.corners_of.Given as goal

-- the corners of the first blocks are laid
abbrev pub invariant-loop-block : goal.invariant-loop-block
invariant-loop-block l = record {
  count : length l.corners.items ≡ l.block;
  are : AreCorners l.criteria l.labels l.corners.items;
}
