use Rattle.std.proofs.Common.{refl, rules}
use Rattle.road_network.specs.Queries.{IsTooLarge}
use Rattle.still_commands.specs.Prove.{ProveReplies}
use Rattle.still_commands.proofs.ProveLemmas.{passes_budget}
use Rattle.still_commands.proofs.RunsLemmas.{starves}
use Rattle.still_commands.proofs.prove.put_found.Goals as goal

pub returns-in-Err-Budget : goal.returns-in-Err-Budget
returns-in-Err-Budget g c =
    let net = c.args.network.now in let query = c.args.query.now in
    let large : IsTooLarge net query = search rules in
    passes_budget query net _ _ _ c.requires.nodes large c.refuse.ensures

pub returns-in-Err-OutOfMemory : goal.returns-in-Err-OutOfMemory
returns-in-Err-OutOfMemory g c = starves (ProveReplies c.args.query.now c.args.network.now) _ refl
