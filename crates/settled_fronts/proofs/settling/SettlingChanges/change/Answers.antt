use Rattle.std.proofs.Common.{◌≡◌, ◌+◌, ◌-◌, ◌<◌, [], get_or, length, map, arith, take_all}
use Rattle.std.proofs.lemmas.List.{length-map}
use Rattle.waiting_item.specs.Waiting.{Spot, spot_in}
use Rattle.settled_fronts.specs.Settling.{placed}
use Rattle.settled_fronts.proofs.SettlingLemmas.{each_elsewhere, each_none, each_one_more, may_push_here, spot_at}
use Rattle.settled_fronts.proofs.settling.SettlingChanges.change.Goals.{then-first-place+then-place-first+in_ok-push_into, else-first-place, else-first-place-via-then-first-place+else-place-first, else-first-place-via-else-first-place}
use Rattle.settled_fronts.proofs.settling.SettlingChanges.change.Goals as goal

pub loop-item-init : goal.loop-item-init
loop-item-init g c = each_none g.F.SettledFront.costs g.F.Cost.Part.Part.bound [] c.args.first c.args.fronts.now

pub push_into-requires : goal.push_into-requires
push_into-requires g c =
    let at = spot_at (spot_in g.F.Cost.StoredCost.components) c.args.self.now.places.now c.args.self.now.items.now c.loop-item.item-index c.item-item.result
    c.loop-item-test.true c.item-item.is in
    let inside : get_or c.args.self.now.places.now c.item-item.result.node.0 0 - c.args.first < length c.args.fronts.now =
    omega (arith, c.if-place-first.true, c.loop-item.auto.fronts) in
    let may = may_push_here g.F.SettledFront.costs g.F.Cost.Part.Part.bound _ c.args.first c.args.fronts.now c.loop-item.item-index c.loop-item.fronts _
    c.loop-item.invariant at.0 at.1 _ c.index-fronts-place.result inside (omega (arith, c.if-first-place.true)) c.index-fronts-place.is
    c.requires.ready.apart (c.requires.each _ c.index-fronts-place.result inside) in
    rw (← c.index-fronts-place.is) (record { criteria = c.requires.ready.criteria; uncovered = may.0; spares = may.1 })

pub loop-item-preserved : goal.loop-item-preserved
loop-item-preserved g c =
    let at = spot_at (spot_in g.F.Cost.StoredCost.components) c.args.self.now.places.now c.args.self.now.items.now c.loop-item.item-index c.item-item.result
    c.loop-item-test.true c.item-item.is in
    elim c.if-first-place.branch [
      | then-first-place+then-place-first+in_ok-push_into w ↦
          let inside : get_or c.args.self.now.places.now c.item-item.result.node.0 0 - c.args.first < length c.args.fronts.now =
          omega (arith, w.if-place-first.true, c.loop-item.auto.fronts) in
          let here : get_or c.args.self.now.places.now c.item-item.result.node.0 0
          ≡ c.args.first + (get_or c.args.self.now.places.now c.item-item.result.node.0 0 - c.args.first) = omega (arith, w.if-first-place.true) in
          let may = may_push_here g.F.SettledFront.costs g.F.Cost.Part.Part.bound _ c.args.first c.args.fronts.now c.loop-item.item-index c.loop-item.fronts _
          c.loop-item.invariant at.0 at.1 _ w.index-fronts-place.result inside here w.index-fronts-place.is
          c.requires.ready.apart (c.requires.each _ w.index-fronts-place.result inside) in
          rw w.fronts-is (each_one_more g.F.SettledFront.costs g.F.Cost.Part.Part.bound _ c.args.first c.args.fronts.now c.loop-item.item-index c.loop-item.fronts _
          c.loop-item.invariant at.0 at.1 _ w.index-fronts-place.result inside here w.index-fronts-place.is w.push_into.new.front
          w.push_into.ensures.fits may.0 (rw (← w.index-fronts-place.is) at w.in_ok-push_into.ensures.pushed))
      | else-first-place w ↦ rw w.fronts-is (each_elsewhere g.F.SettledFront.costs g.F.Cost.Part.Part.bound _ c.args.first c.args.fronts.now
          c.loop-item.item-index c.loop-item.fronts _ c.loop-item.invariant at.0 at.1 (λ k within is. elim w.else-first-place.branch [
            | else-first-place-via-then-first-place+else-place-first v ↦ omega (arith, is, within, v.if-place-first.false, c.loop-item.auto.fronts)
            | else-first-place-via-else-first-place v ↦ omega (arith, is, v.if-first-place.false)
          ]))
    ]

pub returns : goal.returns
returns g c =
    let spots = map (spot_in g.F.Cost.StoredCost.components) c.args.self.now.items.now in
    let at_place : Spot → Spot = λ x. record { cost = x.cost; node = get_or c.args.self.now.places.now x.node 0 } in
    rw (take_all c.loop-item.item-index (placed c.args.self.now.places.now spots) (omega (
      arith,
      c.loop-item-test.false,
      length-map c.args.self.now.items.now (spot_in g.F.Cost.StoredCost.components),
      length-map spots at_place,
    ))) at c.loop-item.invariant
