use Rattle.arc_graph.proofs.HistoryLemmas.{epoch_next, epoch_closed, epoch_earlier}
use Rattle.arc_graph.proofs.histories.epochs_follow_their_history.Goals as goal

pub returns-clause-next : goal.returns-clause-next
returns-clause-next c = epoch_next

pub returns-clause-closed : goal.returns-clause-closed
returns-clause-closed c = epoch_closed

pub returns-clause-earlier : goal.returns-clause-earlier
returns-clause-earlier c = epoch_earlier
