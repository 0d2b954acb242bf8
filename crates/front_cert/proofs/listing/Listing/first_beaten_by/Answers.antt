use Rattle.std.proofs.Common.{◌≡◌, ◌≤◌, All, length, refl, arith}
use Rattle.list_laws.proofs.Members.{all_got}
use Rattle.road_network.specs.Labels.{Label}
use Rattle.cert_rules.specs.Certificates.{IsBeaten, max_component}
use Rattle.front_cert.specs.Listing.{line_of}
use Rattle.front_cert.proofs.PassedLemmas.{covered_beaten, fits_within, passed_more, passed_none, spares_passed}
use Rattle.front_cert.proofs.SeenLemmas.{seen_all, seen_more, seen_none}
use Rattle.front_cert.proofs.listing.Listing.first_beaten_by.Goals as goal

pub loop-i-init : goal.loop-i-init
loop-i-init g c = record {
  passed = passed_none c.args.self.now.cert.labels 0 (g.F.SettledFront.costs c.new-costs.result) refl c.new-costs.ensures;
  seen = seen_none (λ m. ¬ IsBeaten c.args.self.now.cert.labels m.node m.cost) c.args.self.now.cert.labels;
}

pub covers-requires-clause-long : goal.covers-requires-clause-long
covers-requires-clause-long g c =
    all_got (λ (l : Label). length l.cost ≡ g.row.D) c.args.self.now.cert.labels c.loop-i.i (line_of c.next_label-label.result) c.requires.whole c.next_label-label.ensures.label

pub covers-requires-clause-room : goal.covers-requires-clause-room
covers-requires-clause-room g c =
    fits_within g.F.Cost.Part.Part.bound c.requires.room c.next_label-label.result.cost
    (all_got (λ (l : Label). All (λ x. x ≤ max_component) l.cost) c.args.self.now.cert.labels c.loop-i.i (line_of c.next_label-label.result) c.requires.small c.next_label-label.ensures.label)

pub returns-then-covers : goal.returns-then-covers
returns-then-covers g c =
    let labels = c.args.self.now.cert.labels in let l = line_of c.next_label-label.result in
    let costs = g.F.SettledFront.costs c.next_label-label.new.costs in
    record {
      label = l;
      at = c.next_label-label.ensures.label;
      beaten = (covered_beaten labels c.requires.ascending c.loop-i.i l c.next_label-label.ensures.label costs c.next_label-label.ensures.passed).0
          (c.covers.ensures.0 c.if-covers.true);
      first = c.loop-i.invariant.seen;
    }

pub push-requires : goal.push-requires
push-requires g c =
    let labels = c.args.self.now.cert.labels in let l = line_of c.next_label-label.result in
    let costs = g.F.SettledFront.costs c.next_label-label.new.costs in
    record {
      four = c.requires.four;
      long = all_got (λ (l : Label). length l.cost ≡ g.row.D) labels c.loop-i.i l c.requires.whole c.next_label-label.ensures.label;
      room = fits_within g.F.Cost.Part.Part.bound c.requires.room l.cost
          (all_got (λ (l : Label). All (λ x. x ≤ max_component) l.cost) labels c.loop-i.i l c.requires.small c.next_label-label.ensures.label);
      uncovered = λ covered. let holds = c.covers.ensures.1 covered in absurd cc;
      spares = spares_passed labels c.requires.ascending c.loop-i.i l c.next_label-label.ensures.label costs c.next_label-label.ensures.passed;
    }

pub loop-i-preserved : goal.loop-i-preserved
loop-i-preserved g c =
    let labels = c.args.self.now.cert.labels in let l = line_of c.next_label-label.result in
    let costs = g.F.SettledFront.costs c.next_label-label.new.costs in
    record {
      passed = passed_more labels c.requires.ascending c.loop-i.i l c.next_label-label.ensures.label costs c.next_label-label.ensures.passed
          (g.F.SettledFront.costs c.push.new.costs) c.in_ok-push.ensures;
      seen = seen_more (λ m. ¬ IsBeaten labels m.node m.cost) labels c.loop-i.i l c.next_label-label.ensures.label
          (λ beaten. let holds = c.covers.ensures.1 ((covered_beaten labels c.requires.ascending c.loop-i.i l c.next_label-label.ensures.label costs c.next_label-label.ensures.passed).1 beaten) in absurd cc)
          c.loop-i.invariant.seen;
    }

pub returns : goal.returns
returns g c = seen_all (λ m. ¬ IsBeaten c.args.self.now.cert.labels m.node m.cost) c.args.self.now.cert.labels c.loop-i.i
    (omega (arith, c.loop-i-test.false, c.len-i-end.ensures, c.loop-i.auto.i-end)) c.loop-i.invariant.seen
