use Rattle.std.proofs.Common.{List, subst, sym}
use Rattle.arc_graph.specs.declared.change.Change.{Change}
use Rattle.epoch_store.specs.Published.{of_sets}
use Rattle.epoch_store.specs.Faults.{MayPend}
use Rattle.epoch_store.specs.Origin.{IsOperatorIn}
use Rattle.epoch_store.proofs.OperatorLemmas.{one_more_pending}
use Rattle.epoch_store.proofs.operator.Operator.add.Goals as goal

pub invariant_of-self-2 : goal.invariant_of-self-2
invariant_of-self-2 g c =
    let o = g.S.Store.origin in
    let keeps = c.self.invariant in
    let published = of_sets c.self.inside.draft.sets.items in
    let more = one_more_pending o (record { published = published; pending = c.self.inside.draft.pending.items }) c.args.change keeps.0 c.requires.change
    (subst MayPend (sym c.self.view_is) c.requires.room) in (
      subst (λ (pending : List Change). IsOperatorIn o (record { published = published; pending = pending })) (sym c.in_ok-push.ensures.items) more,
      keeps.1,
      keeps.2,
      keeps.3,
      keeps.4,
      keeps.5,
    )
