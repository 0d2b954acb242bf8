use Rattle.std.proofs.Common.{◌≡◌, ◌<◌, [], length, rules}
use Rattle.std.proofs.lemmas.List.{nil_from_length}
use Rattle.least_queue.proofs.BucketLemmas.{next_far, next_if_any, next_of_both, none_if_none}
use Rattle.least_queue.proofs.buckets.BucketQueue.next_number.Goals as goal

pub returns-then-is_empty-clause-next : goal.returns-then-is_empty-clause-next
returns-then-is_empty-clause-next g c =
    let none : c.self.inside.far.items ≡ [] = search (rules, nil_from_length) in
    rw (← c.self.view_is) (next_if_any c.self.invariant none c.next-next.result c.next-next.ensures.some c.next-next.ensures.least)

pub returns-then-is_empty-clause-none : goal.returns-then-is_empty-clause-none
returns-then-is_empty-clause-none g c =
    let none : c.self.inside.far.items ≡ [] = search (rules, nil_from_length) in
    rw (← c.self.view_is) (none_if_none c.self.invariant none c.next-next.result c.next-next.ensures.none)

pub returns-in_default-clause-next : goal.returns-in_default-clause-next
returns-in_default-clause-next g c =
    let some : 0 < length c.self.inside.far.items = search rules in
    rw (← c.self.view_is) (next_far c.self.invariant some c.in_default.ensures.none)

pub returns-clause-next : goal.returns-clause-next
returns-clause-next g c =
    let some : 0 < length c.self.inside.far.items = search rules in
    rw (← c.self.view_is, c.min.ensures) (next_of_both c.self.invariant c.in-Some.number some c.in-Some.ensures.some c.in-Some.ensures.least)
