use Rattle.arc_graph.specs.History.HistoryEntry.{Changes, Closed}
use Rattle.arc_graph.proofs.HistoryLemmas.{sets_with_set, sets_closed, count_with_set, ends_with}
use Rattle.arc_graph.proofs.histories.histories_grow_by_entries.Goals as goal

pub returns-clause-set : goal.returns-clause-set
returns-clause-set c = sets_with_set

pub returns-clause-closed : goal.returns-clause-closed
returns-clause-closed c = sets_closed

pub returns-clause-count : goal.returns-clause-count
returns-clause-count c = count_with_set

pub returns-clause-ends : goal.returns-clause-ends
returns-clause-ends c = λ h cs. ends_with h (Changes cs)

pub returns-clause-ends_closed : goal.returns-clause-ends_closed
returns-clause-ends_closed c = λ h. ends_with h Closed
