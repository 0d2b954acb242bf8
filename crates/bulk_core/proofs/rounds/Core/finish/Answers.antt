use Rattle.std.proofs.Common.{[], refl, arith}
use Rattle.waiting_item.specs.Waiting.{as_waiting}
use Rattle.bulk_rounds.proofs.FinishedLemmas.{finishes_round}
use Rattle.bulk_core.proofs.FinishLemmas.{kept_with_more, puts_all}
use Rattle.bulk_core.proofs.rounds.Core.finish.Goals as goal

pub invariant_of-self-2 : goal.invariant_of-self-2
invariant_of-self-2 g c =
    rw (c.in_ok-extend_from_slice.ensures.items, c.clear.ensures.items) (kept_with_more (as_waiting g.F.Cost.StoredCost.components) c.self.invariant
    c.self.inside.queue _ _ refl [] (λ k d within. absurd (omega (arith, within))) (rw (← c.self.view_is) at c.requires))

pub returns : goal.returns
returns g c =
    let puts = puts_all (as_waiting g.F.Cost.StoredCost.components) c.self.invariant c.self.inside.queue c.self.inside.fresh.items c.args.candidates.now refl []
    refl in
    rw (← c.self.view_is, c.in_ok-extend_from_slice.ensures.items, c.clear.ensures.items)
    (record { same_search = puts.same_search; put = puts; finished = finishes_round _ _ _ puts })
