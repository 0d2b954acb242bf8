use Rattle.std.proofs.Common.{◌≡◌, sym, subst, ◌∙◌, arith}
use Rattle.std.proofs.lemmas.Bool.Decides.{nat_tests}
use Rattle.cert_rules.specs.Certificates.{IsListed}
use Rattle.front_cert.specs.Listing.{line_of}
use Rattle.front_cert.proofs.RuleLemmas.{comes_if_listed, comes_of_none}
use Rattle.front_cert.proofs.listing.Listing.comes_by_arc.Goals as goal

pub returns-in-Some-minus : goal.returns-in-Some-minus
returns-in-Some-minus c =
    let labels = c.args.self.now.cert.labels in
    let before = c.in-Some-minus.before in
    let same : c.head.result.0 ≡ c.args.label.now.node.0 = grind (arith, nat_tests) in
    let comes = comes_if_listed c.args.network.now c.requires.network.network c.args.self.now.cert c.requires.certificate (line_of c.args.label.now)
    c.args.label.now.arc c.in-Some.weight c.requires.line.cost c.requires.some c.requires.line.arc (sym c.weight.ensures.state ∙ c.in-Some.is)
    (sym c.head.ensures ∙ same) before c.in-Some-minus.ensures.same_count c.in-Some-minus.ensures.difference in (
      λ e. comes.0 (subst (λ u. IsListed labels u before) c.tail.ensures (c.is_listed.ensures.0 e)),
      λ ends. c.is_listed.ensures.1 (subst (λ u. IsListed labels u before) (sym c.tail.ensures) (comes.1 ends)),
    )

pub returns-in-None : goal.returns-in-None
returns-in-None c = (
  λ e. absurd cc,
  λ ends. absurd (comes_of_none c.args.network.now c.requires.network.network c.args.self.now.cert c.requires.certificate (line_of c.args.label.now)
      c.args.label.now.arc c.in-Some.weight c.requires.line.cost c.requires.some c.requires.line.arc (sym c.weight.ensures.state ∙ c.in-Some.is)
      (λ at_most. let none = c.in-None.ensures.fits.1 at_most in absurd cc) ends),
)
