use Rattle.std.proofs.Common.{[], ◌≡◌, ◌+◌, ◌++◌, map, take, get_or, sym, arith}
use Rattle.std.proofs.lemmas.List.{length-map}
use Rattle.std.proofs.lemmas.Option.{gets}
use Rattle.waiting_queue.specs.Joining.{joined}
use Rattle.waiting_queue.proofs.JoiningLemmas.{flat_steps, marked_append}
use Rattle.waiting_queue.proofs.marking.mark_all.Goals as goal

pub loop-list-preserved : goal.loop-list-preserved
loop-list-preserved g c =
    let pieces = map (λ p. p.now) c.in_ok-pieces.pieces.items in
    let i = c.loop-list.list-index in
    let more : joined (take (i + 1) pieces) ≡ joined (take i pieces) ++ get_or pieces i [] = grind (arith, flat_steps, length-map) in
    rw (c.in_ok-extend_from_slice.ensures.items, c.deref-in-loop-list.ensures.value, more)
    (marked_append g.C.StoredCost.components c.loop-list.invariant
    (rw (sym c.requires.all, c.deref.ensures.value) at (c.in_ok-lists.ensures.each i c.list-item.result (grind (arith, gets)))))
