use Rattle.std.proofs.Common.{sym, ap, ◌∙◌}
use Rattle.arc_graph.specs.History.{History}
use Rattle.arc_graph.specs.History.HistoryEntry.{Closed}
use Rattle.std.specs.Prelude.{[], ◌∷◌, ◌++◌}
use Rattle.epoch_store.specs.Origin.{last_number}
use Rattle.epoch_store.specs.Published.{of_sets}
use Rattle.epoch_store.proofs.OperatorLemmas.{closed_last}
use Rattle.epoch_store.proofs.operator.Operator.close.Goals as goal

pub invariant_of-result : goal.invariant_of-result
invariant_of-result g c =
    let origin = g.S.Store.origin in (
      c.self.invariant.2 ∙ sym (closed_last origin (of_sets c.self.inside.draft.sets.items))
          ∙ ap (λ (h : History). last_number origin (h ++ Closed ∷ [])) (sym c.self.invariant.3),
      c.set_mark-mark.ensures,
    )
