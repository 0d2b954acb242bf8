use Rattle.std.proofs.Common.{◌-◌, ◌/◌, map, subst₂, arith}
use Rattle.std.proofs.lemmas.List.{length-map}
use Rattle.settled_front.specs.Staircase.{IsCut, first}
use Rattle.settled_front.proofs.Stairs.{halved}
use Rattle.settled_front.proofs.Views.{read_at}
use Rattle.settled_front.proofs.stair.search_up_to.Goals as goal

pub loop-size-preserved : goal.loop-size-preserved
loop-size-preserved g c =
    let f = g.C.StoredCost.components in
    let end = c.loop-size.end in
    let half = c.loop-size.size / 2 in
    let cut = c.loop-size.invariant.1 in
    let is = read_at f c.args.costs.now (end - half) c.index-costs-end.result (omega (arith, length-map c.args.costs.now f)) c.index-costs-end.is in (
      omega arith,
      halved c.requires.stairs (first (f c.args.cost.now)) end c.loop-size.size half c.less_bit.result cut (omega arith) (omega arith) (omega arith)
          (rw (c.part-first.ensures.value, c.part.ensures.value, ← is) at c.less_bit.ensures),
    )

pub returns-clause-cut : goal.returns-clause-cut
returns-clause-cut g c =
    let f = g.C.StoredCost.components in
    let end = c.loop-size.end in
    let is = read_at f c.args.costs.now (end - 1) c.index-costs-end-2.result (omega (arith, length-map c.args.costs.now f)) c.index-costs-end-2.is in
    subst₂ (IsCut (map f c.args.costs.now) (first (f c.args.cost.now))) (omega arith) (omega arith)
    (halved c.requires.stairs (first (f c.args.cost.now)) end c.loop-size.size 1 c.less_bit-2.result c.loop-size.invariant.1 (omega arith)
    (omega arith) (omega arith)
    (rw (c.part-first.ensures.value, c.part-2.ensures.value, ← is) at c.less_bit-2.ensures))
