use Rattle.std.proofs.Common.{None, Some}
use Rattle.walk_readback.proofs.GoingBackLaws.{least_goes_back, one_least}
use Rattle.walk_readback.proofs.WellFoundLaws.{settled_is_readable}
use Rattle.walk_readback.proofs.readback.last_arc.Goals as goal

pub step_back-requires-clause-readable : goal.step_back-requires-clause-readable
step_back-requires-clause-readable g c =
    let (limit, all) = c.requires.all_relevant in settled_is_readable _ c.nodes.ensures.network.network limit _ all _ _ c.requires.settled

pub returns-in_err-step : goal.returns-in_err-step
returns-in_err-step g c = λ p least.
    let (limit, all) = c.requires.all_relevant in
    let readable = settled_is_readable _ c.nodes.ensures.network.network limit _ all _ _ c.requires.settled in
    rw c.from_residual.ensures (one_least _ None _ (c.step_back.ensures.none c.in_err-step.was) (least_goes_back readable p least))

pub returns : goal.returns
returns g c = λ p least.
    let (limit, all) = c.requires.all_relevant in
    let readable = settled_is_readable _ c.nodes.ensures.network.network limit _ all _ _ c.requires.settled in
    one_least _ (Some c.in_ok-step.step.arc.0) _ c.in_ok-step.ensures.some.0 (least_goes_back readable p least)
