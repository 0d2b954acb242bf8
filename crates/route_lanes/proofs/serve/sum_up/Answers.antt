use Rattle.std.proofs.Common.{ℕ, ◌+◌, ◌∷◌, Option, map, take, ap, ap₂, ◌∙◌, arith}
use Rattle.core.specs.Option.{option_or}
use Rattle.out_of_memory.specs.declared.OutOfMemory.{OutOfMemory}
use Rattle.route_lanes.specs.declared.serve.Served.{Served}
use Rattle.route_lanes.specs.declared.session_lane.SessionLane.{SessionLane}
use Rattle.route_lanes.specs.declared.visits.DoorTally.{DoorTally}
use Rattle.route_lanes.proofs.VisitLemmas.{bit_at_most, first_sum, sum_more, sum_next}
use Rattle.route_lanes.proofs.serve.sum_up.Goals as goal

pub loop-lane-init : goal.loop-lane-init
loop-lane-init g c =
    let first = c.from.ensures in record {
      sum = ap (λ (n : ℕ). record { failed = n; want = c.args.operator.want }) first ∙ first_sum c.args.operator;
      few = omega (arith, first, bit_at_most c.args.operator.failed);
    }

pub loop-lane-preserved : goal.loop-lane-preserved
loop-lane-preserved g c =
    let lanes = c.args.sessions.now in
    let loop = c.loop-lane in
    let lane = c.lane-item.result in
    let tell : SessionLane g.row.T.Denot DoorTally → DoorTally = λ l. l.end in
    let told = c.args.operator ∷ map tell (take loop.lane-index lanes) in
    let served : ℕ → Option OutOfMemory → Served = λ f w. record { failed = f; want = w } in
    let failed = ap₂ ◌+◌ (ap (λ (s : Served). s.failed) loop.invariant.sum) c.from-in-loop-lane.ensures in
    let want = c.or-served.ensures ∙ ap (λ (s : Served). option_or s.want lane.end.want) loop.invariant.sum in record {
      sum = ap₂ served failed want ∙ sum_more told lane.end ∙ sum_next tell c.args.operator lanes loop.lane-index lane c.loop-lane-test.true c.lane-item.is;
      few = omega (arith, loop.invariant.few, c.from-in-loop-lane.ensures, bit_at_most lane.end.failed);
    }
