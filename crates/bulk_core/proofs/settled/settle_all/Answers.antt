use Rattle.std.proofs.Common.{length-take, map, arith, rules}
use Rattle.std.proofs.lemmas.List.{length-map}
use Rattle.waiting_item.specs.Waiting.{spot_in}
use Rattle.bulk_core.proofs.SettlingLemmas.{may_push, settles_none, settles_on, settles_one_more, spot_at}
use Rattle.bulk_core.proofs.settled.settle_all.Goals as goal

pub loop-item-init : goal.loop-item-init
loop-item-init g c = record { first = settles_none _ _; counted = omega arith }

pub push-requires : goal.push-requires
push-requires g c =
    let at = spot_at (spot_in g.F.Cost.StoredCost.components) c.args.items.now c.loop-item.item-index c.item-item.result c.loop-item-test.true c.item-item.is in
    (search rules, may_push _ c.requires.apart c.loop-item.invariant.first at.0 at.1)

pub returns-in_err-push-clause-some : goal.returns-in_err-push-clause-some
returns-in_err-push-clause-some g c = let spots = map (spot_in g.F.Cost.StoredCost.components) c.args.items.now in let left = c.in_err-push.ensures in record {
  many = c.loop-item.item-index;
  counted = omega (arith, length-take c.loop-item.item-index spots, length-map c.args.items.now (spot_in g.F.Cost.StoredCost.components));
  first = settles_on c.loop-item.invariant.first left.bounds c.item-item.result.node.0 left.elsewhere (λ _. ⊥)
      (λ cost. rw left.same (grind arith)) _ (λ x. grind arith);
}

pub loop-item-preserved : goal.loop-item-preserved
loop-item-preserved g c =
    let at = spot_at (spot_in g.F.Cost.StoredCost.components) c.args.items.now c.loop-item.item-index c.item-item.result c.loop-item-test.true c.item-item.is in
    let came = c.in_ok-push.ensures in record {
      first = settles_one_more _ c.requires.apart c.loop-item.invariant.first at.0 at.1 came.bounds came.elsewhere came.pushed;
      counted = omega (arith, c.loop-item.invariant.counted);
    }

pub returns-clause-some : goal.returns-clause-some
returns-clause-some g c = let spots = map (spot_in g.F.Cost.StoredCost.components) c.args.items.now in record {
  many = c.loop-item.item-index;
  counted = omega (arith, length-take c.loop-item.item-index spots, length-map c.args.items.now (spot_in g.F.Cost.StoredCost.components));
  first = c.loop-item.invariant.first;
}
