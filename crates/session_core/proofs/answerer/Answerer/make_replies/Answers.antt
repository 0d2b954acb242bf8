use Rattle.session_core.proofs.MakingLemmas.{first_made}
use Rattle.session_core.proofs.answerer.Answerer.make_replies.Goals as goal

pub returns : goal.returns
returns g c =
    rw c.truncate.ensures.items
    (first_made c.args.self.now.network.now c.args.self.now.mode c.args.epoch c.args.kind c.args.queries.now c.in_ok-made.made.items _ c.in_ok-made.ensures)
