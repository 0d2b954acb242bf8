use Rattle.std.proofs.Common.{◌≡◌, ◌+◌, sym, ◌∙◌, ap}
use Rattle.epoch_store.proofs.ChronicleLemmas.{adds_moves}
use Rattle.epoch_store.proofs.chronicle.Keeper.try_add.Goals as goal

pub compare_exchange-found-requires : goal.compare_exchange-found-requires
compare_exchange-found-requires g c =
    let k = c.self.inside in
    let keeps = c.self.invariant in
    let pen = c.no_pen-pen.ensures in
    let offer = c.plain-offer.ensures in
    let seen = c.again-seen.ensures in
    let next : c.in_ok-next.next ≡ k.place + 1 = c.in_ok-next.ensures.1 in
    let book : c.again-seen.result.book ≡ k.count.book = ap (λ s. s.book) seen ∙ (keeps.1 ∙ sym (ap (λ w. w.book) keeps.2)) in (
      ap (λ w. w.tracked) keeps.2,
      book,
      pen.0 ∙ book,
      offer.0,
      rw (ap (λ w. w.key) keeps.2, pen.1, offer.1, offer.3, c.requires, seen)
          (adds_moves k.seen.log (g.M.Plain.ask c.args.draft.now) k.place c.in_ok-next.next (sym keeps.0) next),
    )
