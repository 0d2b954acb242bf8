use Rattle.still_commands.proofs.ProveLemmas.{lacks_node}
use Rattle.still_commands.proofs.prove.reply.Goals as goal

pub returns-then-not-has_nodes : goal.returns-then-not-has_nodes
returns-then-not-has_nodes g c =
    lacks_node c.args.query.now c.args.network.now _ _ _ (λ nodes. absurd (cc (c.if-not-has_nodes.ensures.1 nodes))) c.refuse.ensures
