use Rattle.std.proofs.Common.{inl, inr}
use Rattle.bulk_rounds.proofs.laws.spent_candidates_may_be_left_out.Goals as goal

pub returns : goal.returns
returns c = λ given all before after among rest puts. record {
  same_search = puts.same_search;
  settled = puts.settled;
  none_taken = puts.none_taken;
  put = puts.put;
  queue = puts.queue;
  among = λ x there. among x (puts.among x there);
  rest = λ x there. elim (rest x there) [ inl is_given ↦ puts.rest x is_given | inr spent ↦ inl spent ];
}
