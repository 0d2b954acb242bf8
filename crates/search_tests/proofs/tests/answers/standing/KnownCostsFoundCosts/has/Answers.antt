use Rattle.std.proofs.Common.{sym, ◌∙◌}
use Rattle.std.proofs.lemmas.Bool.{eqb-true, eq-eqb}
use Rattle.walk_readback.proofs.GoingBackLaws.{settled_is_covered}
use Rattle.search_tests.proofs.KnownCostsLemmas.{stands_covers}
use Rattle.search_tests.proofs.tests.answers.standing.KnownCostsFoundCosts.has.Goals as goal

pub returns : goal.returns
returns c =
    let stands = stands_covers c.args.self.now.nodes c.args.self.now.criteria c.args.self.now.node.0 c.args.node.0 c.args._cost.now c.requires.criteria in record {
      settled = λ there. c.eq.ensures ∙ eq-eqb c.args.node.0 c.args.self.now.node.0 (stands.1 (settled_is_covered _ _ _ there));
      covered = λ yes. stands.0 (eqb-true c.args.node.0 c.args.self.now.node.0 (sym c.eq.ensures ∙ yes));
    }
