use Rattle.epoch_store.specs.Published.{ended_if}
use Rattle.epoch_store.proofs.ShownLemmas.{shown_criteria, shown_arcs}
use Rattle.epoch_store.proofs.reader.Shown.last_epoch.Goals as goal

pub returns-clause-criteria : goal.returns-clause-criteria
returns-clause-criteria g c =
    let own = c.self.inside in
    shown_criteria g.S.Store.origin (ended_if own.snapshot.closed own.history.history) own.snapshot.number own.snapshot.closed own.snapshot.weights c.self.invariant

pub returns-clause-arcs : goal.returns-clause-arcs
returns-clause-arcs g c =
    let own = c.self.inside in
    shown_arcs g.S.Store.origin (ended_if own.snapshot.closed own.history.history) own.snapshot.number own.snapshot.closed own.snapshot.weights c.self.invariant
