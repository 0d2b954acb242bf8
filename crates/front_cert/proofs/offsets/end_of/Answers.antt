use Rattle.std.proofs.Common.{◌<◌, get_or, arith}
use Rattle.std.proofs.lemmas.Option.{slice_get-get_or}
use Rattle.front_cert.proofs.OffsetLemmas.{beyond_all, beyond_from}
use Rattle.front_cert.proofs.offsets.end_of.Goals as goal

pub returns-else-labels-end : goal.returns-else-labels-end
returns-else-labels-end c =
    let labels = c.args.labels.now in
    let x = get_or labels c.labels.end c.index-labels-end.result in
    let more : c.args.node < x.node.0 = omega (arith, c.if-labels-end.false) in
    record {
      within = c.labels.invariant.within;
      up_to = c.labels.invariant.up_to;
      beyond = beyond_from labels c.args.node c.labels.end c.requires.ascending x
          (slice_get-get_or labels c.labels.end c.index-labels-end.result c.labels-test.true) more;
    }

pub returns-after-labels : goal.returns-after-labels
returns-after-labels c = record {
  within = c.labels.invariant.within;
  up_to = c.labels.invariant.up_to;
  beyond = beyond_all c.args.labels.now c.args.node c.labels.end (omega (arith, c.labels-test.false));
}
