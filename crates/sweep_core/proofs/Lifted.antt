-- A cost with the height of its node added.
use Rattle.std.proofs.Common.{◌≡◌, ℕ, sym, ap, ◌∙◌}
use Rattle.cost_vector.specs.Costs.{plus}
use Rattle.cost_vector.proofs.Vectors.{plus_cancel}
use Rattle.road_network.specs.Network.{Network}
use Rattle.waiting_item.specs.Waiting.{Spot}
use Rattle.sweep_core.specs.Potentials.{IsConsistent, Potential}
use Rattle.sweep_core.specs.Sweeps.{IsLifted}

-- a spot is that of one cost alone
pub one_cost : (net : Network) (t : ℕ) (P : Potential) → IsConsistent net t P → (x : Spot) (a b : IsLifted net P x) → a.cost ≡ b.cost
one_cost net t P is x a b =
    let same = is.one x.node a.height b.height a.has b.has in
    let long = is.whole x.node b.height b.has in
    plus_cancel a.cost b.cost b.height (a.whole ∙ sym long) (b.whole ∙ sym long) (ap (plus a.cost) (sym same) ∙ sym a.sum ∙ b.sum)
