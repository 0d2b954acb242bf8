use Rattle.std.proofs.Common.{rules}
use Rattle.std.proofs.lemmas.List.{append-nil}
use Rattle.waiting_item.specs.Waiting.{as_waiting}
use Rattle.bulk_core.proofs.BeginLemmas.{kept_taking, takes_waiting}
use Rattle.bulk_core.proofs.rounds.Core.take.Goals as goal

pub invariant_of-self : goal.invariant_of-self
invariant_of-self g c =
    rw (c.clear.ensures.items, append-nil c.pass.new.queue) (kept_taking (takes_waiting c.self.invariant (as_waiting g.F.Cost.StoredCost.components)
    c.pass.new.taken.items c.pass.new.queue (rw c.deref.ensures.value at c.in-Ok.ensures.taken)) c.self.invariant)

pub returns-in-Ok-clause-took : goal.returns-in-Ok-clause-took
returns-in-Ok-clause-took g c =
    rw (← c.self.view_is, c.clear.ensures.items, append-nil c.pass.new.queue) (takes_waiting c.self.invariant (as_waiting g.F.Cost.StoredCost.components)
    c.pass.new.taken.items c.pass.new.queue (rw c.deref.ensures.value at c.in-Ok.ensures.taken))

pub pass-requires : goal.pass-requires
pass-requires g c = let bounds = c.type_bounds in
    search (rules, bounds.send-F-Cost, bounds.send-F-Cost-Part, bounds.sync-F, bounds.sync-R, bounds.sync-G, bounds.sync-F-Cost, bounds.sync-F-Cost-Part)
