use Rattle.std.proofs.lemmas.Bool.Decides.{Decides-at}
use Rattle.cost_vector.proofs.Stored.{Decides-zeros}
use Rattle.cost_vector.proofs.weight.Weight.is_zero.Goals as goal

pub returns : goal.returns
returns c = Decides-at _ _ c.eq.ensures (Decides-zeros c.self.invariant c.self.view_is)
