use Rattle.std.proofs.Common.{refl}
use Rattle.epoch_store.proofs.OperatorLemmas.{is_not_zero}
use Rattle.epoch_store.proofs.operator.Operator.set.Goals as goal

pub add-requires-clause-change : goal.add-requires-clause-change
add-requires-clause-change g c =
    let arc = c.if-not-has_arc.ensures.0 refl in
    record {
      counted = arc.0;
      there = arc.1;
      vector = record {
        whole = c.requires.criteria;
        nonzero = is_not_zero c.args.w (λ zero. absurd (cc (c.if-is_zero.ensures.1 zero)));
      };
      small = c.count-count.ensures.in_range;
    }
