use Rattle.session_core.proofs.ReplyLemmas.{answers_query}
use Rattle.session_core.proofs.answerer.Answerer.send_found.Goals as goal

pub returns-in-Ok : goal.returns-in-Ok
returns-in-Ok g c =
    let net = c.args.self.now.network.now in
    let within = rw c.in-Ok.is at c.requires.in_budget in
    answers_query net c.args.self.now.mode c.args.epoch c.args.kind c.args.query.now _ _ _ c.nodes.ensures.network.network c.requires.nodes within c.answer.ensures
