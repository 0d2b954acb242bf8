use Rattle.event_machine.proofs.Keeping.{sound_if_reached}
use Rattle.event_machine.proofs.BegunLaws.{some_begun, all_drops, begun_in_any_order, begins_is_begun, one_begun}
use Rattle.event_machine.proofs.orders.rounds_begin_in_any_order.Goals as goal

pub returns : goal.returns
returns c = record {
  some_state = λ task s is reached. some_begun task is s (sound_if_reached task is s reached);
  each_order_of_drops = λ task s left drops is reached each. (all_drops task s (sound_if_reached task is s reached) drops each).1 left;
  each_order = λ task s b drops takes is reached between d t. begun_in_any_order task is s (sound_if_reached task is s reached) between drops takes d t b;
  begins = λ task s begun is reached between. begins_is_begun task is s (sound_if_reached task is s reached) between begun;
  one_state = one_begun;
}
