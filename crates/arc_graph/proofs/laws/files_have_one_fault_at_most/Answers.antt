use Rattle.arc_graph.proofs.FaultLemmas.{none_of_agreeing, one_fault}
use Rattle.arc_graph.proofs.laws.files_have_one_fault_at_most.Goals as goal

pub returns-clause-none_of_agreeing : goal.returns-clause-none_of_agreeing
returns-clause-none_of_agreeing c = none_of_agreeing

pub returns-clause-one : goal.returns-clause-one
returns-clause-one c = one_fault
