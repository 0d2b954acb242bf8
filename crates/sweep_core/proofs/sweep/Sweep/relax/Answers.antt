use Rattle.std.proofs.Common.{◌≡◌, ◌∙◌, ◌+◌, Err, None, Some, get_or, refl, sym, ap, subst, rules}
use Rattle.std.specs.Option.{option_map}
use Rattle.road_network.specs.Network.{IsNode}
use Rattle.waiting_item.specs.Waiting.{as_waiting, spot_in}
use Rattle.sweep_core.specs.Potentials.{IsHeightIfAny}
use Rattle.sweep_core.specs.Relaxing.{HasNoRoomFrom, IsGivenIfAny, IsSmallLifted}
use Rattle.sweep_core.specs.Sweeps.{CanTell, Follows, LetsWait, Sweep, with_queue, without_queue}
use Rattle.sweep_core.proofs.FaultLemmas.{was_wide}
use Rattle.sweep_core.proofs.FollowLemmas.{all_follow, can_tell_given, item_node, more_follow, none_follows, nothing_follows, one_follows}
use Rattle.sweep_core.proofs.LeadingLemmas.{IsAmong, out_arc_at}
use Rattle.sweep_core.proofs.sweep.Sweep.relax.Goals.{in-Some-2+in_ok-let_wait, in_default-2}
use Rattle.sweep_core.proofs.sweep.Sweep.relax.Goals as goal

pub at-requires-clause-node : goal.at-requires-clause-node
at-requires-clause-node g c =
    let net = c.args.network.now in let s = without_queue c.args.self.now in let road = c.nodes.ensures.network in
    let is = g.met.P.Potential.consistent net s.target road c.requires.settled.target_node in
    item_node net (g.P.Potential.height net s.target) s (as_waiting g.S.Cost.StoredCost.components c.args.item.now) road.network s.target is c.requires.settled

pub returns-in_default-clause-follows : goal.returns-in_default-clause-follows
returns-in_default-clause-follows g c =
    let net = c.args.network.now in let node = c.args.item.now.node.0 in
    let none = subst (λ n. IsHeightIfAny (g.P.Potential.height net n) node None) c.target-target.ensures
    (subst (IsHeightIfAny (g.P.Potential.height net c.target-target.result.0) node) c.in_default.is c.in_ok-own.ensures.exact) in
    absurd (none c.requires.settled.lifted.height c.requires.settled.lifted.has)

pub out_arcs-arc-items-requires : goal.out_arcs-arc-items-requires
out_arcs-arc-items-requires g c =
    let net = c.args.network.now in let s = without_queue c.args.self.now in let road = c.nodes.ensures.network in
    let is = g.met.P.Potential.consistent net s.target road c.requires.settled.target_node in
    item_node net (g.P.Potential.height net s.target) s (as_waiting g.S.Cost.StoredCost.components c.args.item.now) road.network s.target is c.requires.settled

pub loop-arc-init : goal.loop-arc-init
loop-arc-init g c =
    let net = c.args.network.now in let s = c.args.self.now in record {
      tells = subst (g.P.Potential.tells c.at.new.self net) c.target-target.ensures c.in_ok-own.ensures.tells;
      rest = refl;
      follows = none_follows net (g.P.Potential.height net s.target) (without_queue s) (as_waiting g.S.Cost.StoredCost.components c.args.item.now)
          c.out_arcs-arc-items.result.now s.queue;
    }

pub relax_arc-requires : goal.relax_arc-requires
relax_arc-requires g c =
    let net = c.args.network.now in let height = g.P.Potential.height net in let item = c.args.item.now in
    let spot = spot_in g.S.Cost.StoredCost.components item in let known = c.requires.settled in
    let here = sym c.target-target.ensures in (
      search rules,
      (
        c.requires.criteria,
        (
          out_arc_at net.ends item.node.0 c.out_arcs-arc-items.result.now c.loop-arc.arc-index (record { 0 = 0 }) c.out_arcs-arc-items.ensures c.loop-arc-test.true,
          (
            subst (IsNode net.nodes) here known.target_node,
            (
              subst (g.P.Potential.tells c.loop-arc.potential net) here c.loop-arc.invariant.tells,
              (
                subst (λ n. IsSmallLifted net (height n) spot) here (record { is_lifted = known.lifted; small = known.small }),
                subst (IsHeightIfAny (height c.target-target.result.0) item.node.0) c.in-Some.is c.in_ok-own.ensures.exact,
              ),
            ),
          ),
        ),
      ),
    )

pub returns-in_err-next-clause-tells_still : goal.returns-in_err-next-clause-tells_still
returns-in_err-next-clause-tells_still g c = λ wide.
    let was = was_wide c.from_residual-in_err-next.result c.in_err-next.field-0.0 c.from_residual-in_err-next.ensures.1 wide in
    subst (g.P.Potential.tells c.relax_arc.new.potential c.args.network.now) c.target-target.ensures (c.in_err-next.ensures.tells_still (ap (λ f. Err f) was))

pub returns-in_err-next-clause-too_wide : goal.returns-in_err-next-clause-too_wide
returns-in_err-next-clause-too_wide g c = λ wide.
    let net = c.args.network.now in let spot = spot_in g.S.Cost.StoredCost.components c.args.item.now in let bound = g.S.Cost.Part.Part.bound in
    let was = was_wide c.from_residual-in_err-next.result c.in_err-next.field-0.0 c.from_residual-in_err-next.ensures.1 wide in
    let limit = c.limit-limit.ensures ∙ ap (λ (z : Sweep). z.limit) c.loop-arc.invariant.rest in
    subst (λ l. HasNoRoomFrom net (g.P.Potential.height net c.args.self.now.target) l spot bound) limit
    (subst (λ n. HasNoRoomFrom net (g.P.Potential.height net n) c.limit-limit.result.now spot bound) c.target-target.ensures
    (c.in_err-next.ensures.too_wide (ap (λ f. Err f) was)))

pub let_wait-requires : goal.let_wait-requires
let_wait-requires g c =
    let net = c.args.network.now in let s = c.args.self.now in let road = c.nodes.ensures.network in
    let P = g.P.Potential.height net s.target in let known = c.requires.settled in
    let is = g.met.P.Potential.consistent net s.target road known.target_node in
    let components = g.S.Cost.StoredCost.components in let x = as_waiting components c.args.item.now in
    let k = (get_or c.out_arcs-arc-items.result.now c.loop-arc.arc-index (record { 0 = 0 })).0 in let i = as_waiting components c.in-Some-2.next in
    let given = subst (λ n. IsGivenIfAny net (g.P.Potential.height net n) c.limit-limit.result.now x k (Some i)) c.target-target.ensures
    (subst (λ o. IsGivenIfAny net (g.P.Potential.height net c.target-target.result.0) c.limit-limit.result.now x k (option_map (as_waiting components) o)) c.in-Some-2.is
    c.in_ok-next.ensures.given) in (
      search rules,
      subst (λ (z : Sweep). CanTell z.settled z.target i.spot) (sym c.loop-arc.invariant.rest)
          (can_tell_given net P (without_queue s) x road.network s.target is known k i given.0),
    )

pub loop-arc-preserved : goal.loop-arc-preserved
loop-arc-preserved g c =
    let net = c.args.network.now in let s = c.args.self.now in let road = c.nodes.ensures.network in
    let P = g.P.Potential.height net s.target in let known = c.requires.settled in
    let is = g.met.P.Potential.consistent net s.target road known.target_node in
    let components = g.S.Cost.StoredCost.components in let x = as_waiting components c.args.item.now in
    let arcs = c.out_arcs-arc-items.result.now in let n = c.loop-arc.arc-index in let k = (get_or arcs n (record { 0 = 0 })).0 in
    let rest = c.loop-arc.invariant.rest in let between = c.loop-arc.self.queue in
    let limit = c.limit-limit.ensures ∙ ap (λ (z : Sweep). z.limit) rest in
    let given = subst (λ l. IsGivenIfAny net P l x k (option_map (as_waiting components) c.in_ok-next.field-0)) limit
    (subst (λ u. IsGivenIfAny net (g.P.Potential.height net u) c.limit-limit.result.now x k (option_map (as_waiting components) c.in_ok-next.field-0)) c.target-target.ensures
    c.in_ok-next.ensures.given) in
    let tells = subst (g.P.Potential.tells c.relax_arc.new.potential net) c.target-target.ensures c.in_ok-next.ensures.tells in
    elim c.match-branch-4.branch [
      | in-Some-2+in_ok-let_wait w ↦
          let i = as_waiting components w.in-Some-2.next in let after = w.let_wait.new.self.queue in
          let waits = subst (λ (z : Sweep). LetsWait z.settled z.target i between after) rest w.in_ok-let_wait.ensures.waits in
          let one = one_follows net P (without_queue s) x road.network s.target is known k i between after
          (subst (λ o. IsGivenIfAny net P s.limit x k (option_map (as_waiting components) o)) w.in-Some-2.is given) waits in record {
            tells = tells;
            rest = subst (λ (z : Sweep). z ≡ with_queue s z.queue) (sym w.self-is) (w.in_ok-let_wait.ensures.rest ∙ ap (λ (z : Sweep). with_queue z after) rest);
            follows = subst (λ (z : Sweep). Follows net P (without_queue s) x (IsAmong arcs (n + 1)) s.queue z.queue) (sym w.self-is)
                (more_follow net P (without_queue s) x arcs n s.queue between after c.loop-arc.invariant.follows one);
          }
      | in_default-2 w ↦
          let none = nothing_follows net P (without_queue s) x road.network s.target is known k between
          (subst (λ o. IsGivenIfAny net P s.limit x k (option_map (as_waiting components) o)) w.in_default-2.is given) in record {
            tells = tells;
            rest = subst (λ (z : Sweep). z ≡ with_queue s z.queue) (sym w.self-is) rest;
            follows = subst (λ (z : Sweep). Follows net P (without_queue s) x (IsAmong arcs (n + 1)) s.queue z.queue) (sym w.self-is)
                (more_follow net P (without_queue s) x arcs n s.queue between between c.loop-arc.invariant.follows none);
          }
    ]

pub returns-clause-follows : goal.returns-clause-follows
returns-clause-follows g c =
    let net = c.args.network.now in let s = c.args.self.now in
    all_follow net (g.P.Potential.height net s.target) (without_queue s) (as_waiting g.S.Cost.StoredCost.components c.args.item.now) c.out_arcs-arc-items.result.now
    c.loop-arc.arc-index s.queue c.loop-arc.self.queue c.out_arcs-arc-items.ensures c.loop-arc-test.false c.loop-arc.invariant.follows
