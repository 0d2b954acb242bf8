use Rattle.std.proofs.Common.{◌≡◌, false, fold, ap, sym, subst, ◌∙◌}
use Rattle.left_right.specs.Register.{TurnsAt}
use Rattle.epoch_store.specs.Published.{Published, with_publication}
use Rattle.epoch_store.specs.StoreRule.{Looks, Stands}
use Rattle.epoch_store.proofs.RuleLemmas.{publishes}
use Rattle.epoch_store.proofs.operator.show.Goals as goal

pub publish_as-writer-requires : goal.publish_as-writer-requires
publish_as-writer-requires g c next is =
    let o = g.S.Store.origin in
    let desk = c.args.writer.desk in
    let p = desk.shown.value in
    let waits = c.requires in
    let same : next ≡ with_publication p waits.publication = is ∙ ap (fold with_publication p) waits.alone in
    subst (λ (y : Published). TurnsAt (Stands o) desk.place.id desk.place.me.0.client p y (λ v x z w. Looks o false v z w)) (sym same)
    (publishes o desk.place.id desk.place.me.0.client p waits.publication waits.follows)
