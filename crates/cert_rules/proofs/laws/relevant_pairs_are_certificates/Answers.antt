use Rattle.cert_rules.proofs.CompleteLaws.{no_failure, small_costs}
use Rattle.cert_rules.proofs.laws.relevant_pairs_are_certificates.Goals as goal

pub returns-clause-complete : goal.returns-clause-complete
returns-clause-complete c = λ net cert is good lists. no_failure net is cert lists good

pub returns-clause-small : goal.returns-clause-small
returns-clause-small c = λ net cert l is small few lists. small_costs net is cert lists small few l
