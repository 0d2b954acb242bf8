use Rattle.std.proofs.Common.{◌≡◌, [], replicate, rules}
use Rattle.least_queue.proofs.RingLemmas.{empty_ring}
use Rattle.least_queue.proofs.ring.Ring.new.Goals as goal

pub invariant_of-result : goal.invariant_of-result
invariant_of-result g c =
    let is : c.loop.buckets.items ≡ replicate c.args.size (0, []) = search rules in
    rw is (empty_ring c.args.size c.requires)
