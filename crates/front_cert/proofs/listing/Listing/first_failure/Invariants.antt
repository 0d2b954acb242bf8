use Rattle.std.specs.Prelude.{Contains}
use Rattle.cert_rules.specs.Certificates.{start_label}
use Rattle.cert_rules.specs.Rules.{FailsAt}
use Rattle.cert_rules.specs.declared.rule.Rule.{Rule}
use Rattle.front_cert.proofs.SeenLemmas.{Seen}
use Rattle.front_cert.proofs.listing.Listing.first_failure.Given as goal

-- no rule fails for the list as a whole, or at a label so far
abbrev pub invariant-loop-i : goal.invariant-loop-i
invariant-loop-i l = record {
  start : Contains l.self.cert.labels (start_label l.network l.self.cert);
  seen : Seen (λ m. (rule : Rule) → ¬ FailsAt l.network l.self.cert rule m) l.self.cert.labels l.i;
}
