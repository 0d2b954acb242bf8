use Rattle.arc_graph.proofs.RelaxLaws.{sums_fit}
use Rattle.arc_graph.proofs.laws.sums_leave_room_to_relax.Goals as goal

pub returns : goal.returns
returns c = sums_fit
