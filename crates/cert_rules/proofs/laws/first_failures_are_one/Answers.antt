use Rattle.cert_rules.proofs.FirstLaws.{one_first}
use Rattle.cert_rules.proofs.laws.first_failures_are_one.Goals as goal

pub returns-clause-one : goal.returns-clause-one
returns-clause-one c = λ net cert rule other i j first second. one_first net cert rule other i j first second

pub returns-clause-none : goal.returns-clause-none
returns-clause-none c = λ net cert rule i none first. none rule i first.fails
