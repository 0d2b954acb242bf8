use Rattle.std.proofs.Common.{◌-◌, refl, arith}
use Rattle.std.proofs.lemmas.Bool.{ltb-true}
use Rattle.std.proofs.lemmas.List.{length-map}
use Rattle.settled_front.proofs.Stairs.{last_decides}
use Rattle.settled_front.proofs.Views.{read_at}
use Rattle.settled_list.specs.Stairs.{as_pair}
use Rattle.settled_list.proofs.Places.{last_second_of_pairs}
use Rattle.settled_list.proofs.staircase.Staircase.covers.Goals as goal

pub returns-then-place-gt0 : goal.returns-then-place-gt0
returns-then-place-gt0 g c =
    let value = g.P.Part.value in
    let rests = c.self.inside.rests.items in
    let place = c.up_to-place.result in
    let cut = rw c.deref.ensures.value at c.up_to-place.ensures in
    let is = read_at (as_pair value) rests (place - 1) c.index.result.now (omega (arith, cut.within, c.if-place-gt0.true, length-map rests (as_pair value))) c.index.ensures in
    let decides = rw is at (last_second_of_pairs c.self.invariant.0 (as_pair value c.args.rest.now) refl place cut c.if-place-gt0.true) in
    rw (← c.self.view_is) (λ h. decides.1 (c.is_at_most.ensures.0 h), λ h. c.is_at_most.ensures.1 (decides.0 h))

pub returns-else-place-gt0 : goal.returns-else-place-gt0
returns-else-place-gt0 g c =
    let value = g.P.Part.value in
    let cut = rw c.deref.ensures.value at c.up_to-place.ensures in
    let decides = last_decides c.self.invariant.0 (as_pair value c.args.rest.now) refl c.up_to-place.result cut in
    rw (← c.self.view_is) (λ h. absurd (omega (arith, c.if-place-gt0.false, ltb-true 0 c.up_to-place.result h)), λ h. absurd (omega (arith, (decides.0 h).0, c.if-place-gt0.false)))
