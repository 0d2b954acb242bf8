use Rattle.stored_cost.proofs.Marks.{marks_less, tells_wide}
use Rattle.stored_cost.proofs.part.U64Part.mark_less.Goals as goal

pub returns : goal.returns
returns c = marks_less 63 c.args.self c.args.x c.args.than _ (tells_wide c.args.x c.args.than c.requires.less_fits c.requires.than_fits)
