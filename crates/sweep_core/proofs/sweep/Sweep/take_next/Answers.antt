use Rattle.std.proofs.Common.{[], sym, subst}
use Rattle.std.specs.Prelude.{All}
use Rattle.waiting_item.specs.Waiting.{as_waiting}
use Rattle.sweep_parts.specs.Leaving.{LosesSpent}
use Rattle.sweep_core.specs.Sweeps.{CanTell, IsEnded, IsNext, IsSpentBy, Sweep, TakesUnspent, with_queue}
use Rattle.sweep_core.proofs.StepLemmas.{can_tell_waiting, ended_of, next_of, none_of, some_of}
use Rattle.sweep_core.proofs.sweep.Sweep.take_next.Goals as goal

pub take_unspent-requires : goal.take_unspent-requires
take_unspent-requires g c =
    let net = c.args.network.now in let s = c.args.self.now in let t = s.target in let P = g.P.Potential.height net t in
    let is = g.met.P.Potential.consistent net t c.nodes.ensures.network c.requires.sweep.target_node in
    subst (λ (z : Sweep). All (λ w. CanTell z.settled z.target w.spot) z.queue) (sym c.self.view_is) (can_tell_waiting net t P is s c.requires.sweep)

pub returns-clause-next : goal.returns-clause-next
returns-clause-next g c =
    let net = c.args.network.now in let s = c.args.self.now in let t = s.target in let P = g.P.Potential.height net t in
    let is = g.met.P.Potential.consistent net t c.nodes.ensures.network c.requires.sweep.target_node in
    let components = g.S.Cost.StoredCost.components in
    let lists = g.S.SettledLists.lists c.self.inside.lists in let before = g.Q.LeastQueue.waiting c.self.inside.queue in
    let after = g.Q.LeastQueue.waiting c.take_unspent.new.queue in
    some_of (λ i. TakesUnspent lists c.self.inside.target.0 before (as_waiting components i) after) _
    (λ i takes.
    let is_next = next_of net t P is s c.requires.sweep (as_waiting components i) after
    (subst (λ (z : Sweep). TakesUnspent z.settled z.target z.queue (as_waiting components i) after) c.self.view_is takes) in
    subst (λ (z : Sweep). IsNext net P (with_queue z after) (as_waiting components i)) (sym c.self.view_is) is_next)
    c.take_unspent.result c.take_unspent.ensures.taken

pub returns-clause-ended : goal.returns-clause-ended
returns-clause-ended g c =
    let net = c.args.network.now in let s = c.args.self.now in let t = s.target in let P = g.P.Potential.height net t in
    let is = g.met.P.Potential.consistent net t c.nodes.ensures.network c.requires.sweep.target_node in
    let after = g.Q.LeastQueue.waiting c.take_unspent.new.queue in
    none_of _ _ _ (λ loses none.
    let ended = ended_of net t P is s c.requires.sweep after (subst (λ (z : Sweep). LosesSpent (IsSpentBy z.settled z.target) z.queue []) c.self.view_is loses) none in
    subst (λ (z : Sweep). IsEnded net P (with_queue z after)) (sym c.self.view_is) ended)
    c.take_unspent.result c.take_unspent.ensures.none c.take_unspent.ensures.empty
