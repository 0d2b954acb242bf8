use Rattle.std.proofs.Common.{arith, rules}
use Rattle.node_lists.proofs.KeptLemmas.{costs_read, count_read, keeps_after, kept_alike, place_within, pushes_now}
use Rattle.node_lists.proofs.lists.NodeListsSettledLists.push.Goals as goal

pub invariant_of-self : goal.invariant_of-self
invariant_of-self g c = kept_alike c.self.invariant c.reach.ensures.kept c.reach.ensures.same

pub index_mut-requires : goal.index_mut-requires
index_mut-requires g c =
    let at = c.in_ok-place.ensures in
    let within = place_within g.L.SettledList.costs c.reach.new.lists.items c.self.invariant at.kept at.same c.self.view_is c.requires.node at.place in
    omega (arith, within, c.reach.new.lists.ok.0)

pub push_or_clear-requires-clause-behind : goal.push_or_clear-requires-clause-behind
push_or_clear-requires-clause-behind g c =
    let at = c.in_ok-place.ensures in
    rw (costs_read g.L.SettledList.costs c.reach.new.lists.items c.self.invariant at.kept at.same c.self.view_is c.requires.node at.place at.reached c.index_mut.ensures.value)
    at c.requires.behind

pub push_or_clear-requires-clause-uncovered : goal.push_or_clear-requires-clause-uncovered
push_or_clear-requires-clause-uncovered g c =
    let at = c.in_ok-place.ensures in
    rw (costs_read g.L.SettledList.costs c.reach.new.lists.items c.self.invariant at.kept at.same c.self.view_is c.requires.node at.place at.reached c.index_mut.ensures.value)
    at c.requires.uncovered

pub push_or_clear-requires-clause-counted : goal.push_or_clear-requires-clause-counted
push_or_clear-requires-clause-counted g c =
    let at = c.in_ok-place.ensures in
    count_read g.L.SettledList.costs c.reach.new.lists.items c.self.invariant at.kept at.same c.self.view_is c.requires.node at.place at.reached c.index_mut.ensures.value

pub invariant_of-self-2 : goal.invariant_of-self-2
invariant_of-self-2 g c =
    let at = c.in_ok-place.ensures in let done = c.push_or_clear.ensures in
    keeps_after g.L.SettledList.costs c.reach.new.lists.items c.self.invariant at.kept at.same c.self.view_is c.requires.node at.place at.reached c.index_mut.ensures.value
    c.push_or_clear.new.list _ c.push_or_clear.result done.pushed done.cleared c.to_compact-read.ensures.fits done.settled done.counted (search rules)

pub returns : goal.returns
returns g c =
    let at = c.in_ok-place.ensures in let done = c.push_or_clear.ensures in
    pushes_now g.L.SettledList.costs c.reach.new.lists.items c.self.invariant at.kept at.same c.self.view_is c.requires.node at.place at.reached c.index_mut.ensures.value
    c.push_or_clear.new.list _ c.push_or_clear.result done.pushed done.cleared c.to_compact-read.ensures.fits done.settled
