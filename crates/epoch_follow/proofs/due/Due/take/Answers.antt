use Rattle.std.proofs.Common.{◌≡◌, refl, arith}
use Rattle.std.proofs.lemmas.Bool.Decides.{nat_tests}
use Rattle.epoch_follow.specs.Text.{head_of}
use Rattle.epoch_follow.proofs.due.Due.take.Goals as goal

pub returns-in-Begin-clause-tells : goal.returns-in-Begin-clause-tells
returns-in-Begin-clause-tells g c = rw c.in-Begin.is (c.begin_message.ensures.tells (head_of c.args.graph.now g.T.Store.origin.first) refl)

pub returns-in-Within-default-eq0-clause-tells : goal.returns-in-Within-default-eq0-clause-tells
returns-in-Within-default-eq0-clause-tells g c =
    let within = c.in-Within-default-eq0 in
    let test = within.left-test in
    let zero : within.left ≡ 0 = grind (arith, nat_tests) in
    rw (within.is, zero) (c.end_message.ensures.tells (head_of c.args.graph.now g.T.Store.origin.first) refl)
