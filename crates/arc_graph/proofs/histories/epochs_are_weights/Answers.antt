use Rattle.arc_graph.proofs.HistoryLemmas.{epoch_criteria, epoch_arcs, epoch_weights}
use Rattle.arc_graph.proofs.histories.epochs_are_weights.Goals as goal

pub returns-clause-criteria : goal.returns-clause-criteria
returns-clause-criteria c = epoch_criteria

pub returns-clause-arcs : goal.returns-clause-arcs
returns-clause-arcs c = epoch_arcs

pub returns-clause-weights : goal.returns-clause-weights
returns-clause-weights c = epoch_weights
