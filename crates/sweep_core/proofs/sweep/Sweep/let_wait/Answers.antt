use Rattle.std.proofs.Common.{◌≡◌, ◌∷◌, inl, inr, refl, sym, subst}
use Rattle.std.specs.Prelude.{IsPermutation, OnOk}
use Rattle.waiting_item.specs.Waiting.{as_waiting, spot_in}
use Rattle.sweep_core.specs.Sweeps.{IsSpentBy, LetsWait, Sweep, with_queue}
use Rattle.sweep_core.proofs.StepLemmas.{on_ok, on_ok_of}
use Rattle.sweep_core.proofs.sweep.Sweep.let_wait.Goals as goal

pub returns-then-is_spent-clause-waits : goal.returns-then-is_spent-clause-waits
returns-then-is_spent-clause-waits g c =
    let spot = spot_in g.S.Cost.StoredCost.components c.args.item.now in
    inl (subst (λ (z : Sweep). IsSpentBy z.settled z.target spot) c.self.view_is (c.is_spent.ensures.0 c.if-is_spent.true), refl)

pub returns-clause-rest : goal.returns-clause-rest
returns-clause-rest g c =
    let s = c.args.self.now in let after = g.Q.LeastQueue.waiting c.put.new.self in
    subst (λ (z : Sweep). OnOk c.put.result (with_queue z after ≡ with_queue s after)) (sym c.self.view_is) (on_ok (with_queue s after ≡ with_queue s after) refl c.put.result)

pub returns-clause-waits : goal.returns-clause-waits
returns-clause-waits g c =
    let s = c.args.self.now in let after = g.Q.LeastQueue.waiting c.put.new.self in
    let i = as_waiting g.S.Cost.StoredCost.components c.args.item.now in
    on_ok_of _ (LetsWait s.settled s.target i s.queue after) (λ _ moved. inr (subst (λ (z : Sweep). IsPermutation (i ∷ z.queue) after) c.self.view_is moved))
    c.put.result c.put.ensures
