use Rattle.std.proofs.Common.{ap, sym, ◌∙◌}
use Rattle.arc_graph.specs.History.{sets_of}
use Rattle.epoch_store.proofs.OperatorLemmas.{sets_of_sets}
use Rattle.epoch_store.proofs.operator.Operator.sets.Goals as goal

pub returns : goal.returns
returns g c =
    c.deref.ensures.value ∙ sym (sets_of_sets c.self.inside.draft.sets.items) ∙ ap (λ o. sets_of o.published) c.self.view_is
