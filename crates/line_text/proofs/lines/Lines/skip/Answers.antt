use Rattle.std.proofs.Common.{refl}
use Rattle.line_text.proofs.FillsLemmas.{drop-part}
use Rattle.line_text.proofs.lines.Lines.skip.Goals as goal

pub returns : goal.returns
returns c = rw (← c.self.view_is, drop-part c.self.inside.buffer.items c.self.inside.held.start c.self.inside.held.end c.args.size) refl
