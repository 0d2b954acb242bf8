use Rattle.std.proofs.Common.{◌-◌, arith}
use Rattle.std.proofs.lemmas.Option.{slice_get-get_or}
use Rattle.front_cert.proofs.OffsetLemmas.{all_span, span_by_ends}
use Rattle.front_cert.proofs.lookup.span_of.Goals as goal

pub returns-then-v-eq0 : goal.returns-then-v-eq0
returns-then-v-eq0 c = all_span c.args.labels.now c.args.node.0

pub returns : goal.returns
returns c =
    let offsets = c.args.offsets.now in let v = c.args.node.0 in
    span_by_ends c.args.labels.now v (v - 1) _ _ (omega (arith, c.if-v-eq0.false))
    (c.requires (v - 1) _ (slice_get-get_or offsets (v - 1) 0 (omega (arith, c.if-v-offsets.false))))
    (c.requires v _ (slice_get-get_or offsets v 0 (omega (arith, c.if-v-offsets.false))))
