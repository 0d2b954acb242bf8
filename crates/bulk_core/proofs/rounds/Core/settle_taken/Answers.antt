use Rattle.std.proofs.Common.{◌+◌, ◌≤◌, length, map, arith, rules}
use Rattle.std.proofs.lemmas.List.{length-map}
use Rattle.waiting_item.specs.Waiting.{spot_in}
use Rattle.bulk_core.proofs.BeginLemmas.{can_settle_taken, kept_settling, passes_budget, takes_next}
use Rattle.bulk_core.proofs.rounds.Core.settle_taken.Goals.{After-deref}
use Rattle.bulk_core.proofs.rounds.Core.settle_taken.Goals as goal

-- with what was taken no more are settled than the budget allows
few : (g : _) (c : After-deref g)
    → c.self.inside.count + length (map (spot_in g.F.Cost.StoredCost.components) c.self.inside.taken.items) ≤ c.self.inside.budget
few g c = omega (arith, rw (← c.self.view_is) at c.count_taken.ensures, c.if-count_taken-self.false, c.self.invariant.kept.within)

pub settle_all-requires : goal.settle_all-requires
settle_all-requires g c =
    let next = rw (← c.self.view_is) at c.requires.takes in
    let long = length-map c.self.inside.taken.items (spot_in g.F.Cost.StoredCost.components) in
    (search rules, rw c.deref.ensures.value (can_settle_taken next.1, omega (arith, few g c, long, c.self.invariant.most)))

pub invariant_of-self : goal.invariant_of-self
invariant_of-self g c =
    let next = rw (← c.self.view_is) at c.requires.takes in
    kept_settling next.1 {later = c.settle_all.new.settled} (rw c.deref.ensures.value at c.settle_all.ensures.some)
    (few g (goal.at.invariant_of-self g c).After-deref) c.self.invariant

pub invariant_of-self-2 : goal.invariant_of-self-2
invariant_of-self-2 g c =
    let next = rw (← c.self.view_is) at c.requires.takes in
    kept_settling next.1 {later = c.settle_all.new.settled} (rw c.deref.ensures.value at c.settle_all.ensures.some)
    (few g (goal.at.invariant_of-self-2 g c).After-deref) c.self.invariant

pub returns-then-count_taken-self-clause-settled : goal.returns-then-count_taken-self-clause-settled
returns-then-count_taken-self-clause-settled g c =
    let beyond = c.if-count_taken-self.true in
    let taken = rw (← c.self.view_is) at c.count_taken.ensures in
    let some = rw (← c.self.view_is) at c.requires.some in
    rw (← c.self.view_is) (record {
      some = λ wrong. cc;
      begins = λ base takes. passes_budget takes some c.self.invariant.kept.counted (omega (arith, beyond, taken, c.self.invariant.kept.within));
    })

pub returns-clause-settled : goal.returns-clause-settled
returns-clause-settled g c =
    let some = rw (← c.self.view_is) at c.requires.some in
    let ends = rw c.deref.ensures.value at c.settle_all.ensures.some in
    let all = rw c.deref.ensures.value at c.in_ok-settle_all.ensures.all in
    rw (← c.self.view_is) (record {
      some = λ wrong. cc;
      begins = λ base takes. takes_next takes {later = c.settle_all.new.settled} ends (few g (goal.at.returns-clause-settled g c).After-deref)
          c.self.invariant some (omega (arith, all, length-map c.self.inside.taken.items (spot_in g.F.Cost.StoredCost.components)));
    })
