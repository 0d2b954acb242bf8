use Rattle.std.proofs.Common.{◌+◌, ◌-◌, ◌*◌, [], map, inl, inr, refl, arith, get_or-drop}
use Rattle.std.proofs.lemmas.Bool.{cases_lt, false≢true, iff_false}
use Rattle.std.proofs.lemmas.List.{length-map}
use Rattle.settled_front.proofs.Covers.{among_group, covered_in, none_in}
use Rattle.settled_front.proofs.Views.{map-from, read_at}
use Rattle.settled_front.proofs.cornered.blocks_cover.Goals as goal

pub loop-group-preserved : goal.loop-group-preserved
loop-group-preserved g c = λ k from inside h.
    let costs = g.B.CostBlock.costs in
    let blocks = c.args.blocks.now in
    let n = c.loop-group.group - 1 in
    let is = read_at costs c.args.corners.now n c.index-corners-group.result (omega arith) c.index-corners-group.is in
    elim (cases_lt k (n * 16 + 16)) [
      | inl near ↦ iff_false (rw (map-from costs blocks (n * 16)) at c.some_cover.ensures) c.if-some_cover.false
          (among_group (map costs blocks) (g.B.Cost.StoredCost.components c.args.cost.now) c.requires n c.lanes_at_most-lanes.result k
          (rw is c.lanes_at_most-lanes.ensures) from near (omega (arith, inside, length-map blocks costs)) h)
      | inr far ↦ c.loop-group.invariant k (omega arith) inside h
    ]

pub returns-then-some_cover : goal.returns-then-some_cover
returns-then-some_cover g c =
    let costs = g.B.CostBlock.costs in
    let blocks = c.args.blocks.now in
    let n = c.loop-group.group - 1 in
    let among = rw (map-from costs blocks (n * 16)) at c.some_cover.ensures.0 c.if-some_cover.true in
    (λ _. covered_in (map costs blocks) _ (n * 16 + among.lane) (rw (get_or-drop (n * 16) (map costs blocks) among.lane []) at among.covered), λ _. refl)

pub returns : goal.returns
returns g c =
    let costs = g.B.CostBlock.costs in
    let blocks = c.args.blocks.now in
    let none = none_in (map costs blocks) (g.B.Cost.StoredCost.components c.args.cost.now)
    (λ k inside. c.loop-group.invariant k (omega (arith, c.loop-group-test.false)) (omega (arith, inside, length-map blocks costs))) in
    (λ yes. absurd (false≢true yes), λ h. absurd (none h))
