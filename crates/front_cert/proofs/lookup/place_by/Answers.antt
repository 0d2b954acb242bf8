use Rattle.front_cert.proofs.OffsetLemmas.{encloses_span, part_place}
use Rattle.front_cert.proofs.lookup.place_by.Goals as goal

pub narrowed-first-requires-clause-encloses : goal.narrowed-first-requires-clause-encloses
narrowed-first-requires-clause-encloses c = encloses_span c.args.labels.now c.args.node.0 c.args.cost.now _ _ c.span_of-least.ensures

pub returns-clause-place : goal.returns-clause-place
returns-clause-place c =
    let encloses = c.narrowed-first.ensures in
    part_place c.args.labels.now c.narrowed-first.result.0 c.narrowed-first.result.1 encloses.order encloses.within c.args.node.0 c.args.cost.now c.place_of.result encloses
    (rw c.span.ensures at c.place_of.ensures.place) (rw c.span.ensures at c.place_of.ensures.within)
