use Rattle.std.proofs.Common.{arith}
use Rattle.list_laws.proofs.Members.{all_got}
use Rattle.cert_rules.specs.Certificates.{IsLine}
use Rattle.front_cert.specs.Listing.{line_of}
use Rattle.front_cert.proofs.RuleLemmas.{Holds, first_at_label, first_at_whole, known_beaten, none_answered, none_fails}
use Rattle.front_cert.proofs.SeenLemmas.{seen_more, seen_none}
use Rattle.front_cert.proofs.listing.Listing.first_failure.Goals as goal

pub returns-then-not-lists_start : goal.returns-then-not-lists_start
returns-then-not-lists_start c =
    first_at_whole c.args.network.now c.args.self.now.cert
    (λ there. let holds = (c.lists_start.ensures c.args.network.now c.requires.of).1 there in let other = c.if-not-lists_start.true in absurd cc)

pub loop-i-init : goal.loop-i-init
loop-i-init c = record {
  start = (c.lists_start.ensures c.args.network.now c.requires.of).0 c.if-not-lists_start.false;
  seen = seen_none (Holds c.args.network.now c.args.self.now.cert) c.args.self.now.cert.labels;
}

pub failing_rule-requires-clause-line : goal.failing_rule-requires-clause-line
failing_rule-requires-clause-line c =
    all_got (IsLine c.args.network.now) c.args.self.now.cert.labels c.loop-i.i (line_of c.label-label.result) c.requires.certificate.lines c.label-label.ensures

pub failing_rule-requires-clause-known : goal.failing_rule-requires-clause-known
failing_rule-requires-clause-known c =
    known_beaten c.args.network.now c.args.self.now.cert c.args.beaten c.requires.beaten c.loop-i.i (line_of c.label-label.result) c.label-label.ensures
    c.loop-i.invariant.seen c.eq-is_beaten.result c.eq-is_beaten.ensures

pub returns-in-Some : goal.returns-in-Some
returns-in-Some c =
    first_at_label c.args.network.now c.args.self.now.cert c.loop-i.i (line_of c.label-label.result) c.label-label.ensures c.loop-i.invariant.start
    c.loop-i.invariant.seen c.in-Some.rule (rw c.in-Some.is at c.failing_rule.ensures)

pub loop-i-preserved : goal.loop-i-preserved
loop-i-preserved c =
    let net = c.args.network.now in let cert = c.args.self.now.cert in let l = line_of c.label-label.result in
    record {
      start = c.loop-i.invariant.start;
      seen = seen_more (Holds net cert) cert.labels c.loop-i.i l c.label-label.ensures
          (none_answered net cert l c.failing_rule.result c.in_default.is c.failing_rule.ensures) c.loop-i.invariant.seen;
    }

pub returns : goal.returns
returns c =
    none_fails c.args.network.now c.args.self.now.cert c.loop-i.i (omega (arith, c.loop-i-test.false, c.len-i-end.ensures)) c.loop-i.invariant.start c.loop-i.invariant.seen
