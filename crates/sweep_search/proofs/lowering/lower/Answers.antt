use Rattle.std.proofs.Common.{sym, ◌∙◌, arith, rules}
use Rattle.sweep_search.proofs.BareLemmas.{bare_by_lowering, bare_without_height, heights_fit}
use Rattle.sweep_search.proofs.lowering.lower.Goals as goal
use Rattle.std.proofs.Common.{refl}

pub returns-in_default-clause-bare : goal.returns-in_default-clause-bare
returns-in_default-clause-bare g c =
    let net = c.args.network.now in let t = c.args.target.0 in
    let is = g.met.P.Potential.consistent net t c.nodes.ensures.network c.requires.target in
    bare_without_height net t (g.P.Potential.height net t) is c.args.found.now.lists c.args.found.now.lists c.args.node.0 c.requires.lifted refl
    (rw c.in_default.is at c.in_ok-height.ensures.exact)

pub lower-requires : goal.lower-requires
lower-requires g c =
    let net = c.args.network.now in let t = c.args.target.0 in
    let is = g.met.P.Potential.consistent net t c.nodes.ensures.network c.requires.target in
    let has = rw c.in-Some.is at c.in_ok-height.ensures.exact in (
      search rules,
      (
        omega (arith, c.requires.node.1, c.requires.count),
        (
          is.whole c.args.node.0 c.in-Some.height has ∙ sym c.requires.criteria,
          heights_fit net t (g.P.Potential.height net t) is c.args.found.now.lists c.args.found.now.lists c.args.node.0 c.in-Some.height has c.requires.lifted,
        ),
      ),
    )

pub returns-clause-bare : goal.returns-clause-bare
returns-clause-bare g c =
    let net = c.args.network.now in let t = c.args.target.0 in
    let is = g.met.P.Potential.consistent net t c.nodes.ensures.network c.requires.target in
    let has = rw c.in-Some.is at c.in_ok-height.ensures.exact in
    bare_by_lowering net t (g.P.Potential.height net t) is c.args.found.now.lists c.lower.new.self.lists c.args.node.0 c.in-Some.height has c.lower.ensures.lowered
