use Rattle.std.proofs.Common.{◌≡◌, Some, length, refl, arith}
use Rattle.std.specs.Prelude.{slice_get}
use Rattle.std.proofs.lemmas.Bool.Decides.{nat_tests}
use Rattle.std.proofs.lemmas.Option.{slice_get_read}
use Rattle.front_cert.proofs.LookupLemmas.{dominated_by}
use Rattle.front_cert.proofs.lookup.is_beaten_by.Goals as goal

pub returns-then-eq : goal.returns-then-eq
returns-then-eq c =
    let x = c.in-Some.label.now in
    let here : slice_get c.args.labels.now c.args.place ≡ Some x = slice_get_read c.args.labels.now (length c.args.labels.now) c.args.place x refl c.in-Some.ensures.lookup.3.0 c.in-Some.ensures.lookup.1 in
    let node : x.node.0 ≡ c.args.node.0 = grind (arith, nat_tests) in
    λ holds. dominated_by c.args.labels.now c.args.place x here c.args.node.0 c.args.cost.now node (c.dominates.ensures.0 holds)
