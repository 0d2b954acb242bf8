use Rattle.std.proofs.Common.{arith, rules}
use Rattle.std.proofs.lemmas.List.Sorted.{IsNonDecreasingBy-from_sort_by_key}
use Rattle.waiting_item.specs.declared.item.Item.{Item}
use Rattle.round_work.proofs.groups.sort_by_node.Goals as goal

pub returns-clause-ascending : goal.returns-clause-ascending
returns-clause-ascending g c = λ i j d before within.
    IsNonDecreasingBy-from_sort_by_key (λ (l : Item g.row.C.Denot). l.node.0) _ c.par_sort_unstable_by_key.ensures.sorted (λ a r q k. search rules) i j d (omega (arith, before)) within
