use Rattle.std.proofs.Common.{◌<◌, length, map, arith}
use Rattle.std.proofs.lemmas.List.{length-map}
use Rattle.arc_graph.specs.Layout.{pair_of}
use Rattle.arc_graph.proofs.JoinerLemmas.{joining_after_arc, joining_after_weight}
use Rattle.arc_graph.proofs.JoinerHoldsLemmas.{arc_within, arc_past}
use Rattle.arc_graph.proofs.join.Joiner.push_later.Goals as goal
use Rattle.arc_graph.proofs.join.Joiner.push_later.Goals.{then-place-len, else-place-len}

pub invariant_of-self : goal.invariant_of-self
invariant_of-self c =
    let later = rw (← c.self.view_is) at c.requires.later_file in
    let due = rw (← c.self.view_is) at c.requires.due in
    elim c.if-place-len.branch [
      | then-place-len w ↦
          let there : c.self.inside.come < length (map pair_of c.self.inside.ends.items) =
          omega (arith, w.if-place-len.true, length-map c.self.inside.ends.items pair_of) in
          rw w.self-inside-is
          (joining_after_weight _ w.index_mut.result.now c.args.a.weight w.other_ends_with-self-inside.result later due there (omega arith)
          w.index_mut.ensures.value c.self.invariant)
      | else-place-len w ↦ rw w.self-inside-is (joining_after_arc _ _ _ later due c.self.invariant.matched c.self.invariant.stored c.self.invariant)
    ]

pub returns-clause-files : goal.returns-clause-files
returns-clause-files c = λ front last stands.
    let here = rw (← c.self.view_is) at stands in
    let later = rw (← c.self.view_is) at c.requires.later_file in
    elim c.if-place-len.branch [
      | then-place-len w ↦
          let there : c.self.inside.come < length (map pair_of c.self.inside.ends.items) =
          omega (arith, w.if-place-len.true, length-map c.self.inside.ends.items pair_of) in
          rw w.self-inside-is
          (arc_within _ front last c.args.a w.index_mut.result.now w.other_ends_with-self-inside.result c.self.invariant later there
          w.index_mut.ensures.value here (w.other_ends_with-self-inside.ensures front last stands))
      | else-place-len w ↦
          rw w.self-inside-is (arc_past _ front last c.args.a later (omega (arith, w.if-place-len.false, length-map c.self.inside.ends.items pair_of)) here)
    ]
