use Rattle.answer_writer.proofs.RouteLemmas.{same_lines}
use Rattle.answer_writer.proofs.page.Page.put_lines.Goals as goal

pub returns-in-Costs-clause-lines : goal.returns-in-Costs-clause-lines
returns-in-Costs-clause-lines g c = λ routes its.
    let lines = same_lines c.args.network.now (g.F.FoundCosts.state c.args.found.now) c.requires.tells.found routes its c.args.places.start c.args.places.end in
    rw (c.in-Costs.is, lines) c.put_costs.ensures

pub returns-in-Walks-clause-lines : goal.returns-in-Walks-clause-lines
returns-in-Walks-clause-lines g c = λ routes its. rw c.in-Walks.is (c.put_walks.ensures.lines routes its)
