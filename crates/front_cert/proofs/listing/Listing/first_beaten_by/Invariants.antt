use Rattle.cert_rules.specs.Certificates.{IsBeaten}
use Rattle.front_cert.specs.Passed.{ArePassed}
use Rattle.front_cert.proofs.SeenLemmas.{Seen}
use Rattle.front_cert.proofs.listing.Listing.first_beaten_by.Given as goal

-- no listed cost dominates that of a label so far, whose node's costs are kept
abbrev pub invariant-loop-i : goal.invariant-loop-i
invariant-loop-i g l = record {
  passed : ArePassed l.self.cert.labels l.i l.node.0 (g.F.SettledFront.costs l.costs);
  seen : Seen (λ m. ¬ IsBeaten l.self.cert.labels m.node m.cost) l.self.cert.labels l.i;
}
