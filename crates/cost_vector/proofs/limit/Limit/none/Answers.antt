use Rattle.std.proofs.Common.{None}
use Rattle.std.proofs.lemmas.List.{take-replicate}
use Rattle.cost_vector.proofs.limit.Limit.none.Goals as goal

pub returns : goal.returns
returns c = take-replicate c.args.d 4 None c.requires.at_most_four
