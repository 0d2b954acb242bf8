use Rattle.std.proofs.Common.{◌≡◌, ◌<◌, List, [], ◌∷◌, ◌++◌, refl, arith}
use Rattle.std.proofs.lemmas.Bool.Decides.{nat_tests}
use Rattle.arc_graph.specs.declared.change.Change.{Change}
use Rattle.road_network.specs.Limits.{max_epoch}
use Rattle.arc_graph.specs.History.HistoryEntry.{Changes}
use Rattle.epoch_store.specs.Published.{of_sets}
use Rattle.epoch_store.proofs.OperatorLemmas.{of_sets_with, next_operator, next_number, next_follows}
use Rattle.epoch_store.proofs.operator.Operator.publish.Goals as goal

pub hand_over-requires-clause-follows : goal.hand_over-requires-clause-follows
hand_over-requires-clause-follows g c =
    let o = g.S.Store.origin in
    let own = c.self.inside in
    let keeps = c.self.invariant in
    let below : own.number < max_epoch = grind (arith, nat_tests) in
    rw (c.in_ok-publication.ensures, c.reserve.ensures.items)
    (next_follows o own.draft.sets.items own.draft.pending.items own.number keeps.0 keeps.2 own.writer.desk.shown.value keeps.3 below)

pub invariant_of-self-2 : goal.invariant_of-self-2
invariant_of-self-2 g c =
    let o = g.S.Store.origin in
    let own = c.self.inside in
    let keeps = c.self.invariant in
    let css : List (List Change) = own.draft.sets.items in
    let cs : List Change = own.draft.pending.items in
    let below : own.number < max_epoch = grind (arith, nat_tests) in
    let kept = c.reserve.ensures.items in
    let published : of_sets c.publish.new.self.sets.items ≡ of_sets css ++ Changes cs ∷ [] =
    rw (c.publish.ensures.sets, kept) (of_sets_with css cs) in
    let shown : c.hand_over.new.writer.desk.shown.value.history ≡ of_sets css ++ Changes cs ∷ [] =
    rw (c.in_ok-hand_over.ensures.shown, c.in_ok-publication.ensures, kept) refl in
    rw (published, c.publish.ensures.pending) (
      next_operator o css cs own.number keeps.0 keeps.2 below,
      keeps.1,
      next_number o css cs own.number keeps.0 keeps.2,
      shown,
      c.hand_over.ensures.idle,
      keeps.5,
    )

pub returns-clause-number : goal.returns-clause-number
returns-clause-number g c =
    let own = c.self.inside in
    let keeps = c.self.invariant in
    rw (c.publish.ensures.sets, c.reserve.ensures.items, of_sets_with)
    (next_number g.S.Store.origin own.draft.sets.items own.draft.pending.items own.number keeps.0 keeps.2)
