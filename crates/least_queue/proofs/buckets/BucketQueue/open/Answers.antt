use Rattle.std.proofs.Common.{◌≡◌, ◌++◌, [], inl, inr, arith}
use Rattle.std.specs.Prelude.{Contains}
use Rattle.std.specs.BinaryHeap.{heap_items}
use Rattle.std.proofs.lemmas.List.{append-nil}
use Rattle.std.proofs.lemmas.List.Elements.{All-nil}
use Rattle.std.proofs.lemmas.List.Sorted.{All-permutation, IsPermutation-refl}
use Rattle.waiting_item.specs.Waiting.{spot_in}
use Rattle.least_queue.specs.Heaps.{waits}
use Rattle.least_queue.proofs.BucketLemmas.{far_stays, none_first, opens, opens_loses, taken_keeps}
use Rattle.least_queue.proofs.buckets.BucketQueue.open.Goals as goal

pub swap_out-requires : goal.swap_out-requires
swap_out-requires g c =
    let none : c.self.inside.run.items ++ heap_items c.self.inside.heap ≡ [] = rw (← c.self.view_is) at c.requires.opened in
    none_first _ _ none

pub leave_out_spent-requires : goal.leave_out_spent-requires
leave_out_spent-requires g c =
    let all = rw (← c.self.view_is) at c.requires.allowed in
    taken_keeps c.self.invariant (λ e. g.K.Look.allows c.args.look.now (spot_in g.C.StoredCost.components e.0)) c.swap_out.ensures all

pub invariant_of-self : goal.invariant_of-self
invariant_of-self g c =
    let next = rw (← c.self.view_is) at c.requires.next in
    let of_taken = All-permutation (Contains c.swap_out.new.list.items) _ _ c.sort_unstable.ensures.permutation c.leave_out_spent.ensures.old in
    opens c.self.invariant next c.swap_out.ensures c.sort_unstable.new.self.items c.self.inside.far.items c.self.inside.far_least of_taken c.sort_unstable.ensures.sorted
    (inl c.if-number-self.true) (far_stays c.self.invariant next c.swap_out.ensures c.if-number-self.true)

pub returns-then-number-self-clause-loses : goal.returns-then-number-self-clause-loses
returns-then-number-self-clause-loses g c =
    let none : c.self.inside.run.items ++ heap_items c.self.inside.heap ≡ [] = rw (← c.self.view_is) at c.requires.opened in
    rw (← c.self.view_is)
    (opens_loses c.self.invariant (waits g.C.StoredCost.components) (g.K.Look.IsSpent c.args.look.now) none c.swap_out.ensures
    c.leave_out_spent.new.entries.items c.sort_unstable.new.self.items c.self.inside.far.items c.new.result.items c.leave_out_spent.ensures.loses
    c.sort_unstable.ensures.permutation (rw c.new.ensures.items (IsPermutation-refl c.self.inside.far.items)))

pub invariant_of-self-2 : goal.invariant_of-self-2
invariant_of-self-2 g c =
    let next = rw (← c.self.view_is) at c.requires.next in
    let of_taken = All-permutation (Contains c.swap_out.new.list.items) _ _ c.sort_unstable.ensures.permutation c.leave_out_spent.ensures.old in
    rw (c.replace.ensures.after, c.new-2.ensures.items)
    (opens c.self.invariant next c.swap_out.ensures c.sort_unstable.new.self.items [] 18446744073709551615 of_taken c.sort_unstable.ensures.sorted
    (inr (omega arith)) (All-nil _))

pub returns-clause-loses : goal.returns-clause-loses
returns-clause-loses g c =
    let none : c.self.inside.run.items ++ heap_items c.self.inside.heap ≡ [] = rw (← c.self.view_is) at c.requires.opened in
    rw (← c.self.view_is, c.replace.ensures.after, c.new-2.ensures.items, c.replace.ensures.value)
    (opens_loses c.self.invariant (waits g.C.StoredCost.components) (g.K.Look.IsSpent c.args.look.now) none c.swap_out.ensures
    c.leave_out_spent.new.entries.items c.sort_unstable.new.self.items [] c.self.inside.far.items c.leave_out_spent.ensures.loses
    c.sort_unstable.ensures.permutation (rw append-nil (IsPermutation-refl c.self.inside.far.items)))
