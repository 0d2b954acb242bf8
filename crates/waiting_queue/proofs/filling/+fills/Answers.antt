use Rattle.std.proofs.Common.{suc, ◌-◌, arith}
use Rattle.std.proofs.lemmas.Grind.{common_steps}
use Rattle.std.proofs.lemmas.Option.{gets}
use Rattle.waiting_queue.proofs.filling.+fills.Goals as goal

pub fill_from-fill_both-requires-clause-others : goal.fill_from-fill_both-requires-clause-others
fill_from-fill_both-requires-clause-others g t c = λ κs within i below. let accepts = c.requires.accepts (suc i) in grind (arith, common_steps)

pub fill_from-returns-else-is_empty : goal.fill_from-returns-else-is_empty
fill_from-returns-else-is_empty g t c = record {
  count = grind (arith, common_steps);
  each = λ i p is. let later = c.fill_both.ensures.others.each (i - 1) p in grind (arith, gets, common_steps);
}
