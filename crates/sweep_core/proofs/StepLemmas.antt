-- One step: an item is taken, settled, and what follows it waits.
use Rattle.std.proofs.Common.{◌≡◌, ℕ, ◌<◌, ◌≤◌, List, [], Option, Some, None, Result, Ok, Err, inl, inr, refl, sym, ap, subst, ◌∙◌, arith}
use Rattle.std.specs.Prelude.{All, Contains, IfNone, IfOk, IfSome, OnOk}
use Rattle.list_laws.proofs.Members.{all_from_in}
use Rattle.road_network.specs.Limits.{max_budget}
use Rattle.cost_vector.specs.Costs.{Within, plus}
use Rattle.road_network.specs.Network.{Network, IsNode}
use Rattle.arc_graph.specs.Graph.{IsRoadNetwork}
use Rattle.waiting_item.specs.Waiting.{Waiting}
use Rattle.sweep_parts.specs.Settled.{IsBehind, Pushes, count_settled}
use Rattle.sweep_parts.specs.Leaving.{LosesSpent}
use Rattle.sweep_core.specs.Potentials.{HasNoRoom, IsConsistent, IsRelevantBy, Potential}
use Rattle.sweep_core.specs.Sweeps.{CanTell, Follows, IsEnded, IsNext, IsRelaxing, IsSpentBy, IsSweep, Settles, Sweep, TakesUnspent, costs_at, with_both, with_queue, without_queue}
use Rattle.sweep_core.specs.Relaxing.{HasNoRoomFrom}
use Rattle.sweep_core.proofs.Frontier.{next_is_relevant}
use Rattle.sweep_core.proofs.Leaving.{leaves_behind, leaves_node, spent_leave, there}
use Rattle.sweep_core.proofs.Lifted.{one_cost}
use Rattle.sweep_core.proofs.Settling.{relaxing_now, settling_keeps}

-- what is known of something that was taken is known of it, if anything was
pub some_of : {A E : Type 0} (F G : A → Type 0) → ((a : A) → F a → G a) → (r : Result (Option A) E) → IfOk r (λ o. IfSome o F) → IfOk r (λ o. IfSome o G)
some_of F G f (Err e) h = tt
some_of F G f (Ok None) h = tt
some_of F G f (Ok (Some a)) h = f a h

pub none_of : {A E : Type 0} (F H G : Type 0) → (F → H → G) → (r : Result (Option A) E) → IfOk r (λ o. IfNone o F) → IfOk r (λ o. IfNone o H) → IfOk r (λ o. IfNone o G)
none_of F H G f (Err e) h k = tt
none_of F H G f (Ok None) h k = f h k
none_of F H G f (Ok (Some a)) h k = tt

-- what holds in any case, or of what is given, where something is
pub on_ok : {A E : Type 0} (P : Type 0) → P → (r : Result A E) → OnOk r P
on_ok P h (Err e) = tt
on_ok P h (Ok a) = h

pub on_ok_of : {A E : Type 0} (F : A → Type 0) (P : Type 0) → ((a : A) → F a → P) → (r : Result A E) → IfOk r F → OnOk r P
on_ok_of F P f (Err e) h = tt
on_ok_of F P f (Ok a) h = f a h

module _ (net : Network) (t : ℕ) (P : Potential) (is : IsConsistent net t P) (s : Sweep) (sweep : IsSweep net P s) where
  -- of what waits it can be told whether it is spent
  pub can_tell_waiting : All (λ w. CanTell s.settled s.target w.spot) s.queue
  can_tell_waiting = all_from_in (λ w. CanTell s.settled s.target w.spot) s.queue (λ w waits.
      let from = (sweep.waiting_from w waits).lifted in
      let node = is.nodes w.spot.node from.height from.has in record {
        node = omega (arith, node.1, sweep.count);
        target_node = omega (arith, sweep.target_node.1, sweep.count);
        at_node = sweep.ascending w w.spot.node waits;
        at_target = sweep.ascending w s.target waits;
      })

  pub next_of : (i : Waiting) (after : List Waiting) → TakesUnspent s.settled s.target s.queue i after → IsNext net P (with_queue s after) i
  next_of i after takes = record {
    queue = takes.takes.still;
    sweep = spent_leave net P s sweep takes.takes.still takes.takes.loses;
    leaves = takes.takes.leaves;
    unspent = takes.unspent;
  }

  pub ended_of : (after : List Waiting) → LosesSpent (IsSpentBy s.settled s.target) s.queue [] → after ≡ [] → IsEnded net P (with_queue s after)
  ended_of after loses none = record { sweep = subst (λ q. IsSweep net P (with_queue s q)) (sym none) (spent_leave net P s sweep [] loses); none = none }

module _ (net : Network) (road : IsRoadNetwork net) (t : ℕ) (P : Potential) (is : IsConsistent net t P) (s : Sweep) (target : s.target ≡ t) (x : Waiting)
    (next : IsNext net P s x) where
  abbrev was : Sweep
  was = with_queue s next.queue

  abbrev waits : Contains next.queue x
  waits = there net t P is was next.sweep x s.queue next.leaves

  pub next_node : IsNode net.nodes x.spot.node
  next_node = leaves_node net t P is was next.sweep x s.queue next.leaves

  pub next_behind : (v : ℕ) → IsBehind (costs_at s v) x.spot.cost
  next_behind = leaves_behind net t P is was next.sweep x s.queue next.leaves

  -- where what follows it has no room, what follows a relevant pair has none
  pub no_room_on : (bound : ℕ) → HasNoRoomFrom net P s.limit x.spot bound → HasNoRoom net s.start s.target s.limit P bound
  no_room_on bound h =
      let b = h.given.is_lifted in
      let relevant = next_is_relevant net road.network t P is was next.sweep x s.queue next.leaves waits (λ covered. next.unspent (inl covered))
      (λ dominated. next.unspent (inr dominated)) (next.sweep.within x waits) target in
      record {
        node = h.spot.node;
        cost = plus b.cost h.given.by;
        from = inr (record {
          from = x.spot.node;
          cost = b.cost;
          relevant = subst (IsRelevantBy net s.start s.target s.limit P x.spot.node) (one_cost net t P is x.spot (next.sweep.waiting_from x waits).lifted b) relevant;
          arc = h.arc;
          by = h.given.by;
          leads = h.given.leads;
          sum = refl;
        });
        height = h.given.height;
        has = h.given.has;
        within = subst (Within s.limit) h.given.cost h.within;
        exceeds = subst (λ c. ¬ All (λ y. y < bound) c) h.given.cost h.exceeds;
      }

  module _ (room : count_settled s.settled < s.budget) (settled : List (List (List ℕ))) (pushes : Pushes s.settled x.spot.node x.spot.cost settled) where
    pub next_relaxing : s.budget ≤ max_budget → IsRelaxing net P (with_both s settled []) x
    next_relaxing most = relaxing_now net road t P is was next.sweep x s.queue next.leaves settled pushes room most []

    pub next_settles : (queue : List Waiting) → Follows net P (with_both s settled []) x (λ k. Unit {0}) s.queue queue → Settles net P s (with_both s settled queue)
    next_settles queue follows = record {
      same = record { start = refl; target = refl; limit = refl; budget = refl };
      sweep = settling_keeps net road t P is was next.sweep x s.queue next.leaves settled pushes queue follows room
          (next_is_relevant net road.network t P is was next.sweep x s.queue next.leaves waits (λ covered. next.unspent (inl covered))
          (λ dominated. next.unspent (inr dominated)) (next.sweep.within x waits) target);
      more = pushes.more;
    }

-- it is settled, and then what follows it waits
module _ (net : Network) (road : IsRoadNetwork net) (t : ℕ) (P : Potential) (is : IsConsistent net t P) (s : Sweep) (target : s.target ≡ t) (x : Waiting)
    (next : IsNext net P s x) (room : count_settled s.settled < s.budget) (most : s.budget ≤ max_budget)
    (pushed : Sweep) (pushes : Pushes s.settled x.spot.node x.spot.cost pushed.settled) (same : pushed ≡ with_both s pushed.settled s.queue) where
  pub relaxing : IsRelaxing net P (without_queue pushed) x
  relaxing = subst (λ (z : Sweep). IsRelaxing net P z x) (sym (ap (λ (z : Sweep). without_queue z) same))
      (next_relaxing net road t P is s target x next room pushed.settled pushes most)

  -- what follows it waits now
  pub settled_by : (after : Sweep) → after ≡ with_queue pushed after.queue → Follows net P (without_queue pushed) x (λ k. Unit {0}) pushed.queue after.queue
      → Settles net P s after
  settled_by after rest follows =
      let bare = ap (λ (z : Sweep). without_queue z) same in
      let queue = ap (λ (z : Sweep). z.queue) same in
      let now = subst (λ (z : Sweep). Follows net P z x (λ k. Unit {0}) s.queue after.queue) bare
      (subst (λ q. Follows net P (without_queue pushed) x (λ k. Unit {0}) q after.queue) queue follows) in
      let settles = next_settles net road t P is s target x next room pushed.settled pushes after.queue now in
      subst (Settles net P s) (sym (rest ∙ ap (λ (z : Sweep). with_queue z after.queue) same)) settles
