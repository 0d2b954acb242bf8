use Rattle.arc_graph.proofs.HistoryLemmas.{page_left_by_set, page_left_by_sets}
use Rattle.arc_graph.proofs.histories.pages_change_by_sets_alone.Goals as goal

pub returns-clause-set : goal.returns-clause-set
returns-clause-set c = page_left_by_set

pub returns-clause-epochs : goal.returns-clause-epochs
returns-clause-epochs c = page_left_by_sets
