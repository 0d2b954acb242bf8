use Rattle.stored_cost.proofs.Marks.{marks_less, tells_narrow}
use Rattle.stored_cost.proofs.part.U32Part.mark_less.Goals as goal

pub returns : goal.returns
returns c = marks_less 31 c.args.self c.args.x c.args.than _ (tells_narrow c.args.x c.args.than c.requires.less_fits c.requires.than_fits)
