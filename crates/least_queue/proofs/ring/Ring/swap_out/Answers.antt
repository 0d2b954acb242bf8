use Rattle.std.proofs.Common.{sym, ap, ◌∙◌}
use Rattle.std.proofs.lemmas.Bool.{false≢true}
use Rattle.least_queue.proofs.RingLemmas.{swapped, unswapped}
use Rattle.least_queue.proofs.ring.Ring.swap_out.Goals as goal
use Rattle.least_queue.proofs.ring.Ring.swap_out.Goals.{then-has, else-has}

pub returns : goal.returns
returns g c =
    let ring = c.self.inside.buckets.items in
    let b = c.index_mut-bucket.result.now in
    let read = c.index_mut-bucket.ensures.value in
    let within = rw (← c.self.view_is) at c.place-place.ensures.within in
    let placed = rw (← c.self.view_is) at c.place-place.ensures.place in
    elim c.if-has.branch [
      | then-has w ↦ rw (w.list-is, w.self-inside-is, ← c.self.view_is)
          (swapped ring c.self.invariant c.args.number c.place-place.result within placed b w.swap.new.self w.swap.new.list.items read
          (c.has.ensures.0 w.if-has.true).0 w.swap.ensures.items (w.swap.ensures.bucket ∙ ap (λ xs. (b.0, xs)) c.requires))
      | else-has w ↦ rw (w.list-is, w.self-inside-is, ← c.self.view_is)
          (unswapped ring c.self.invariant c.args.number c.place-place.result within placed b c.args.list.now.items read
          (λ has. false≢true (sym w.if-has.false ∙ c.has.ensures.1 has)) c.requires)
    ]
