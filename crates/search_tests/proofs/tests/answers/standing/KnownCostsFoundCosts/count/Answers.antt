use Rattle.search_tests.proofs.KnownCostsLemmas.{stands_found}
use Rattle.search_tests.proofs.tests.answers.standing.KnownCostsFoundCosts.count.Goals as goal

pub returns-clause-found : goal.returns-clause-found
returns-clause-found c = stands_found c.args.self.now.nodes c.args.self.now.criteria c.args.self.now.node.0 c.args.self.now.place
