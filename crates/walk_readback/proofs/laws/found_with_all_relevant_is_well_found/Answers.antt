use Rattle.walk_readback.proofs.WellFoundLaws.{well_found, is_within_longest}
use Rattle.walk_readback.proofs.laws.found_with_all_relevant_is_well_found.Goals as goal

pub returns-clause-well_found : goal.returns-clause-well_found
returns-clause-well_found g = λ net limit f is found all. well_found net is limit f all found

pub returns-clause-bounded : goal.returns-clause-bounded
returns-clause-bounded g = λ net limit f cost p is nodes well there least. is_within_longest net is limit f well cost p there least.walk nodes
