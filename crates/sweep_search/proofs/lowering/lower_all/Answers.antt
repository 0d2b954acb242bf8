use Rattle.std.proofs.Common.{◌∙◌, arith, rules}
use Rattle.sweep_search.proofs.BareLemmas.{all_bare, none_bare, one_bare_more, still_lifted}
use Rattle.sweep_search.proofs.lowering.lower_all.Goals as goal

pub loop-place-init : goal.loop-place-init
loop-place-init g c =
    let net = c.args.network.now in let t = c.args.target.0 in let P = g.P.Potential.height net t in
    let is = g.met.P.Potential.consistent net t c.nodes.ensures.network c.requires.target in
    record { tells = c.requires.tells; bare = none_bare net t P is c.args.found.now c.requires.lifted }

pub lower-requires : goal.lower-requires
lower-requires g c =
    let net = c.args.network.now in let t = c.args.target.0 in let P = g.P.Potential.height net t in
    let is = g.met.P.Potential.consistent net t c.nodes.ensures.network c.requires.target in
    let so_far = c.loop-place.invariant.bare in (
      search rules,
      (
        so_far.same.criteria ∙ c.requires.criteria,
        (
          c.requires.target,
          (
            (omega arith, omega (arith, c.loop-place-test.true, c.nodes-place-end.ensures.count)),
            (
              c.loop-place.invariant.tells,
              (so_far.same.long ∙ c.requires.count, still_lifted net t P is c.args.found.now c.requires.lifted c.loop-place.place c.loop-place.found so_far),
            ),
          ),
        ),
      ),
    )

pub loop-place-preserved : goal.loop-place-preserved
loop-place-preserved g c =
    let net = c.args.network.now in let t = c.args.target.0 in let P = g.P.Potential.height net t in
    let is = g.met.P.Potential.consistent net t c.nodes.ensures.network c.requires.target in
    let lowered = c.in_ok-lower.ensures in record {
      tells = lowered.tells;
      bare = one_bare_more net t P is c.args.found.now c.requires.lifted c.loop-place.place c.loop-place.found c.loop-place.invariant.bare c.lower.new.found lowered.same
          lowered.others lowered.bare;
    }

pub returns-clause-bare : goal.returns-clause-bare
returns-clause-bare g c =
    let net = c.args.network.now in let t = c.args.target.0 in let P = g.P.Potential.height net t in
    let is = g.met.P.Potential.consistent net t c.nodes.ensures.network c.requires.target in
    all_bare net t P is c.args.found.now c.requires.lifted c.loop-place.place c.loop-place.found c.loop-place.invariant.bare
    (omega (arith, c.loop-place-test.false, c.nodes-place-end.ensures.count))
