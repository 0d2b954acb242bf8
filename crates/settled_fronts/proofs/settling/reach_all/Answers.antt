use Rattle.std.proofs.Common.{◌≢◌, get_or, sym, ◌∙◌, take_all, arith}
use Rattle.settled_fronts.proofs.SettlingLemmas.{all_next}
use Rattle.settled_fronts.proofs.settling.reach_all.Goals as goal

pub loop-item-preserved : goal.loop-item-preserved
loop-item-preserved g c = let at = c.in_ok-reach.ensures in record {
  kept = at.kept;
  same = at.same ∙ c.loop-item.invariant.same;
  long = at.long ∙ c.loop-item.invariant.long;
  reached = all_next (λ i. get_or c.loop-item.places.items i.node.0 0 ≢ 0) (λ i. get_or c.reach.new.places.items i.node.0 0 ≢ 0) c.args.items.now c.loop-item.item-index c.item-item.result c.loop-item-test.true
      c.item-item.is (λ i some zero. some (sym (at.stay i.node.0 some) ∙ zero)) c.loop-item.invariant.reached (λ zero. at.reached (at.place ∙ zero));
}

pub returns-clause-reached : goal.returns-clause-reached
returns-clause-reached g c = rw (take_all c.loop-item.item-index c.args.items.now (omega (arith, c.loop-item-test.false))) at c.loop-item.invariant.reached
