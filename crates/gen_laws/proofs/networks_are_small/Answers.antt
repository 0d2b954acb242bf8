use Rattle.gen_laws.proofs.CostLemmas.{is_small}
use Rattle.gen_laws.proofs.networks_are_small.Goals as goal

pub returns : goal.returns
returns c = λ plan is. is_small plan is
