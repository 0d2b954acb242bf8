use Rattle.std.proofs.Common.{◌<◌, ◌≤◌, subst, arith}
use Rattle.std.specs.BinaryHeap.{heap_items}
use Rattle.least_queue.specs.Rings.{Puts}
use Rattle.least_queue.proofs.BucketLemmas.{far_put, far_waits, heap_put, heap_waits, ring_put, ring_waits}
use Rattle.least_queue.proofs.buckets.BucketQueue.put_entry.Goals as goal

pub invariant_of-self-then-number-self : goal.invariant_of-self-then-number-self
invariant_of-self-then-number-self g c =
    heap_put c.self.invariant c.args.entry (heap_items c.push.new.self)
    (subst (λ n. n ≤ c.self.inside.current) c.number_of-number.ensures c.if-number-self.true)
    c.in_ok-push.ensures.permutation (c.in_ok-push.ensures.heap_order c.self.invariant.heap)

pub returns-then-number-self-clause-put : goal.returns-then-number-self-clause-put
returns-then-number-self-clause-put g c =
    rw (← c.self.view_is) (heap_waits c.self.invariant c.args.entry (heap_items c.push.new.self) c.in_ok-push.ensures.permutation)

pub invariant_of-self-in_default : goal.invariant_of-self-in_default
invariant_of-self-in_default g c =
    let later : c.self.inside.current < c.number_of-number.result = omega (arith, c.if-number-self.false) in
    let puts = rw c.in_default.is at c.in_ok-entry.ensures.puts in
    let near = rw c.in_default.is at c.in_ok-entry.ensures.near in
    ring_put c.self.invariant c.args.entry c.number_of-number.result c.put.new.self c.number_of-number.ensures later near puts

pub returns-in_default-clause-put : goal.returns-in_default-clause-put
returns-in_default-clause-put g c =
    let puts : Puts c.self.inside.ring c.number_of-number.result c.args.entry c.put.new.self = rw c.in_default.is at c.in_ok-entry.ensures.puts in
    rw (← c.self.view_is) (ring_waits c.self.invariant c.args.entry c.number_of-number.result c.put.new.self puts)

pub invariant_of-self-2 : goal.invariant_of-self-2
invariant_of-self-2 g c =
    let later : c.self.inside.current < c.number_of-number.result = omega (arith, c.if-number-self.false) in
    let back = rw c.in-Some.is at c.in_ok-entry.ensures.back in
    rw (c.min-self-inside.ensures, c.in_ok-push-2.ensures.items, back.1, back.0)
    (far_put c.self.invariant c.args.entry c.number_of-number.result c.number_of-number.ensures later c.number_of-number.type_inv)

pub returns-clause-put : goal.returns-clause-put
returns-clause-put g c =
    let back = rw c.in-Some.is at c.in_ok-entry.ensures.back in
    rw (← c.self.view_is, c.in_ok-push-2.ensures.items, back.1, back.0) (far_waits c.self.invariant c.args.entry c.min-self-inside.result)
