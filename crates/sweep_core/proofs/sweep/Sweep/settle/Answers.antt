use Rattle.std.proofs.Common.{Err, inl, refl, sym, ap, subst, arith, rules}
use Rattle.waiting_item.specs.Waiting.{as_waiting}
use Rattle.sweep_core.specs.Relaxing.{HasNoRoomFrom}
use Rattle.sweep_core.specs.Sweeps.{Follows, IsRelaxing, Sweep, without_queue}
use Rattle.sweep_core.proofs.FaultLemmas.{was_wide}
use Rattle.sweep_core.proofs.StepLemmas.{next_behind, next_node, no_room_on, relaxing, settled_by}
use Rattle.sweep_core.proofs.sweep.Sweep.settle.Goals as goal

pub push-requires : goal.push-requires
push-requires g c =
    let net = c.args.network.now in let road = c.nodes.ensures.network in let s = c.args.self.now in let t = s.target in
    let P = g.P.Potential.height net t in let x = as_waiting g.S.Cost.StoredCost.components c.args.item.now in let next = c.requires.next in
    let is = g.met.P.Potential.consistent net t road next.sweep.target_node in (
      search rules,
      (
        omega (arith, (next_node net road t P is s refl x next).1, next.sweep.count),
        (omega (arith, c.requires.room, c.requires.most), (next_behind net road t P is s refl x next x.spot.node, λ covered. next.unspent (inl covered))),
      ),
    )

pub relax-requires : goal.relax-requires
relax-requires g c =
    let net = c.args.network.now in let road = c.nodes.ensures.network in let s = c.args.self.now in let t = s.target in
    let P = g.P.Potential.height net t in let x = as_waiting g.S.Cost.StoredCost.components c.args.item.now in let next = c.requires.next in
    let is = g.met.P.Potential.consistent net t road next.sweep.target_node in
    let pushed = c.in_ok-push.ensures in
    let here = sym (ap (λ (z : Sweep). z.target) pushed.rest) in (
      search rules,
      (
        c.requires.criteria,
        (
          subst (g.P.Potential.tells c.args.potential.now net) here c.requires.tells,
          subst (λ n. IsRelaxing net (g.P.Potential.height net n) (without_queue c.push.new.self) x) here
              (relaxing net road t P is s refl x next c.requires.room c.requires.most c.push.new.self pushed.pushed pushed.rest),
        ),
      ),
    )

pub returns-clause-settles : goal.returns-clause-settles
returns-clause-settles g c =
    let net = c.args.network.now in let road = c.nodes.ensures.network in let s = c.args.self.now in let t = s.target in
    let P = g.P.Potential.height net t in let x = as_waiting g.S.Cost.StoredCost.components c.args.item.now in let next = c.requires.next in
    let is = g.met.P.Potential.consistent net t road next.sweep.target_node in
    let pushed = c.in_ok-push.ensures in
    let here = ap (λ (z : Sweep). z.target) pushed.rest in
    let follows = subst (λ n. Follows net (g.P.Potential.height net n) (without_queue c.push.new.self) x (λ k. Unit {0}) c.push.new.self.queue c.relax.new.self.queue) here
    c.in_ok-relax.ensures.follows in
    settled_by net road t P is s refl x next c.requires.room c.requires.most c.push.new.self pushed.pushed pushed.rest c.relax.new.self c.in_ok-relax.ensures.rest follows

pub returns-in_err-relax-clause-tells_still : goal.returns-in_err-relax-clause-tells_still
returns-in_err-relax-clause-tells_still g c = λ wide.
    let was = was_wide c.from_residual-in_err-relax.result c.in_err-relax.field-0.0 c.from_residual-in_err-relax.ensures.1 wide in
    subst (g.P.Potential.tells c.relax.new.potential c.args.network.now) (ap (λ (z : Sweep). z.target) c.in_ok-push.ensures.rest)
    (c.in_err-relax.ensures.tells_still (ap (λ f. Err f) was))

pub returns-in_err-relax-clause-too_wide : goal.returns-in_err-relax-clause-too_wide
returns-in_err-relax-clause-too_wide g c = λ wide.
    let net = c.args.network.now in let road = c.nodes.ensures.network in let s = c.args.self.now in let t = s.target in
    let P = g.P.Potential.height net t in let x = as_waiting g.S.Cost.StoredCost.components c.args.item.now in let next = c.requires.next in
    let is = g.met.P.Potential.consistent net t road next.sweep.target_node in
    let bound = g.S.Cost.Part.Part.bound in
    let pushed = c.in_ok-push.ensures in
    let was = was_wide c.from_residual-in_err-relax.result c.in_err-relax.field-0.0 c.from_residual-in_err-relax.ensures.1 wide in
    let none = subst (λ (z : Sweep). HasNoRoomFrom net (g.P.Potential.height net z.target) z.limit x.spot bound) pushed.rest
    (c.in_err-relax.ensures.too_wide (ap (λ f. Err f) was)) in
    no_room_on net road t P is s refl x next bound none
