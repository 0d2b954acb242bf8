use Rattle.std.proofs.Common.{Err, ap, subst}
use Rattle.waiting_item.specs.Waiting.{as_waiting}
use Rattle.sweep_core.specs.Potentials.{HasNoRoom}
use Rattle.sweep_core.specs.Sweeps.{IsEnded, IsNext}
use Rattle.sweep_core.proofs.Ending.{ended_settles_all}
use Rattle.sweep_core.proofs.FaultLemmas.{was_wide_store}
use Rattle.sweep_core.proofs.Passing.{no_room_same, not_passed, passes, passes_same, same_back, same_with_queue, settles_same}
use Rattle.sweep_core.proofs.sweep.Sweep.run.Goals as goal

pub returns-then-is_full-clause-budget : goal.returns-then-is_full-clause-budget
returns-then-is_full-clause-budget g c = λ _.
    let net = c.args.network.now in let road = c.nodes.ensures.network in let s = c.args.self.now in let t = s.target in
    let P = g.P.Potential.height net t in let is = g.met.P.Potential.consistent net t road c.requires.sweep.target_node in
    let x = as_waiting g.S.Cost.StoredCost.components c.in-Some.item in
    let now = c.take_next.new.self in let rest = c.in_ok-item.ensures.rest in let so_far = c.labels.invariant.same in
    let same = same_with_queue s c.labels.self now rest so_far in
    let next = subst (λ n. IsNext net (g.P.Potential.height net n) now x) so_far.target (rw c.in-Some.is at c.in_ok-item.ensures.next) in
    passes_same net P s now same (passes net t P is road now same.target x next c.is_full.ensures.ordered (c.is_full.ensures.full.0 c.if-is_full.true))

pub returns-in_err-settle-clause-tells_still : goal.returns-in_err-settle-clause-tells_still
returns-in_err-settle-clause-tells_still g c = λ wide.
    let net = c.args.network.now in let s = c.args.self.now in
    let now = c.take_next.new.self in
    let same = same_with_queue s c.labels.self now c.in_ok-item.ensures.rest c.labels.invariant.same in
    let was = was_wide_store c.from_residual-in_err-settle.result c.in_err-settle.field-0.0 c.from_residual-in_err-settle.ensures.1 wide in
    subst (g.P.Potential.tells c.settle.new.potential net) same.target (c.in_err-settle.ensures.tells_still (ap (λ f. Err f) was))

pub returns-in_err-settle-clause-too_wide : goal.returns-in_err-settle-clause-too_wide
returns-in_err-settle-clause-too_wide g c = λ wide.
    let net = c.args.network.now in let s = c.args.self.now in
    let now = c.take_next.new.self in
    let same = same_with_queue s c.labels.self now c.in_ok-item.ensures.rest c.labels.invariant.same in
    let was = was_wide_store c.from_residual-in_err-settle.result c.in_err-settle.field-0.0 c.from_residual-in_err-settle.ensures.1 wide in
    let P = g.P.Potential.height net s.target in let bound = g.S.Cost.Part.Part.bound in
    no_room_same net P bound s now same (subst (λ u. HasNoRoom net now.start now.target now.limit (g.P.Potential.height net u) bound) same.target
    (c.in_err-settle.ensures.too_wide (ap (λ f. Err f) was)))

pub returns-clause-all : goal.returns-clause-all
returns-clause-all g c =
    let net = c.args.network.now in let road = c.nodes.ensures.network in let s = c.args.self.now in let t = s.target in
    let P = g.P.Potential.height net t in let is = g.met.P.Potential.consistent net t road c.requires.sweep.target_node in
    let now = c.take_next.new.self in let rest = c.in_ok-item.ensures.rest in let so_far = c.labels.invariant.same in
    let same = same_with_queue s c.labels.self now rest so_far in
    let ended = subst (λ n. IsEnded net (g.P.Potential.height net n) now) so_far.target (rw c.in_default.is at c.in_ok-item.ensures.ended) in
    settles_same net P s now same (ended_settles_all net road.network t P is now ended same.target)

pub returns-clause-in_budget : goal.returns-clause-in_budget
returns-clause-in_budget g c =
    let net = c.args.network.now in let road = c.nodes.ensures.network in let s = c.args.self.now in let t = s.target in
    let P = g.P.Potential.height net t in let is = g.met.P.Potential.consistent net t road c.requires.sweep.target_node in
    let now = c.take_next.new.self in let rest = c.in_ok-item.ensures.rest in let so_far = c.labels.invariant.same in
    let same = same_with_queue s c.labels.self now rest so_far in
    let ended = subst (λ n. IsEnded net (g.P.Potential.height net n) now) so_far.target (rw c.in_default.is at c.in_ok-item.ensures.ended) in λ passes.
    not_passed net t P is road now (ended_settles_all net road.network t P is now ended same.target) ended.sweep.few (passes_same net P now s (same_back s now same) passes)
