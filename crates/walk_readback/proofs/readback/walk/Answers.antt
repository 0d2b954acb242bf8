use Rattle.std.proofs.Common.{◌≡◌, [], ◌∷◌, refl, ◌∙◌, arith}
use Rattle.std.proofs.lemmas.List.{length-append}
use Rattle.road_network.proofs.Reached.{arc_counts}
use Rattle.walk_readback.proofs.WellFoundLaws.{is_room, reading_begins, reading_ends, reading_goes_on}
use Rattle.walk_readback.proofs.readback.walk.Goals as goal

pub arcs-init : goal.arcs-init
arcs-init g c =
    let (limit, well) = c.requires.well_found in
    let reading = reading_begins _ _ c.nodes.ensures.network.network limit well c.requires.nodes _ _ c.cost-cost.ensures.value in
    (rw (c.target-node.ensures, c.clear.ensures.none) reading, omega arith)

pub push-requires : goal.push-requires
push-requires g c =
    let room = is_room _ _ (reading_goes_on c.arcs.invariant.0 c.in-Some.step.arc c.in-Some.ensures.some.0) in
    omega (arith, room, c.arcs.invariant.1, c.requires.room, c.clear.ensures.room)

pub tail-node-requires : goal.tail-node-requires
tail-node-requires g c =
    let leads = c.in-Some.ensures.some.0.holds.leads in
    record { counted = leads.counted; there = omega (arith, arc_counts _ _ _ _ _ leads) }

pub arcs-smaller : goal.arcs-smaller
arcs-smaller g c =
    let room = is_room _ _ (reading_goes_on c.arcs.invariant.0 c.in-Some.step.arc c.in-Some.ensures.some.0) in
    rw c.push.ensures.arcs (omega (arith, room, length-append c.arcs.room.arcs (c.in-Some.step.arc ∷ [])))

pub arcs-preserved : goal.arcs-preserved
arcs-preserved g c =
    let (least, same) = c.in-Some.ensures.some in
    let from : c.tail-node.result.0 ≡ least.holds.from = c.tail-node.ensures ∙ rw least.holds.leads.ends refl in
    let reading = reading_goes_on c.arcs.invariant.0 c.in-Some.step.arc least in
    (rw (c.push.ensures.arcs, from, ← same) reading, omega (arith, c.arcs.invariant.1, c.push.ensures.room))

pub returns-clause-least : goal.returns-clause-least
returns-clause-least g c =
    rw (c.cost-cost.ensures.value, c.reverse.ensures.arcs) (reading_ends c.arcs.invariant.0 (c.step_back.ensures.none c.in_default.is))
