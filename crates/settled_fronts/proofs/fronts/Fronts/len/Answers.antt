use Rattle.std.proofs.lemmas.List.{take_all}
use Rattle.settled_fronts.proofs.PairLemmas.{pairs_counted}
use Rattle.settled_fronts.proofs.fronts.Fronts.len.Goals as goal

pub returns : goal.returns
returns g c =
    let all = take_all c.loop-front.front-index c.deref-front-items.result.now c.loop-front-test.false in
    rw (← c.self.view_is, pairs_counted, c.self.invariant.counted) (rw (all, c.deref-front-items.ensures.value) at c.loop-front.invariant)
