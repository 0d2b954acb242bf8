use Rattle.settled_list.specs.Stairs.{as_pair}
use Rattle.std.proofs.Common.{refl}
use Rattle.settled_list.proofs.Places.{map-splice, puts_in, seconds_put, stairs_put}
use Rattle.settled_list.proofs.staircase.Staircase.put.Goals as goal

pub invariant_of-self-2 : goal.invariant_of-self-2
invariant_of-self-2 g c =
    let value = g.P.Part.value in
    let pair = as_pair value in
    let rests = c.self.inside.rests.items in
    let start = c.place_for-start.result.0 in
    let end = c.place_for-start.result.1 in
    rw (c.in_ok-replace.ensures.replaced) (
      rw (map-splice pair rests start end c.args.rest)
          (stairs_put c.self.invariant.0 (pair c.args.rest) refl start end (rw c.deref.ensures.value at c.place_for-start.ensures)
          (rw (← c.self.view_is) at c.requires.uncovered)),
      seconds_put value g.P.Part.bound rests c.args.rest start end c.self.invariant.1 c.requires.fits,
    )

pub returns-clause-put : goal.returns-clause-put
returns-clause-put g c =
    let pair = as_pair g.P.Part.value in
    let start = c.place_for-start.result.0 in
    let end = c.place_for-start.result.1 in
    rw (← c.self.view_is, c.in_ok-replace.ensures.replaced, map-splice pair c.self.inside.rests.items start end c.args.rest)
    (puts_in c.self.invariant.0 (pair c.args.rest) refl start end (rw c.deref.ensures.value at c.place_for-start.ensures))
