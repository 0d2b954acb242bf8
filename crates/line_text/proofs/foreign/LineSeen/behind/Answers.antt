use Rattle.std.proofs.Common.{◌≡◌, []}
use Rattle.line_text.proofs.foreign.LineSeen.behind.Goals as goal

pub returns-in-None : goal.returns-in-None
returns-in-None c front skipped =
    let nothing : front ≡ [] = rw c.in-None.is at skipped in
    rw nothing (c.with-in-None.ensures [] c.none.ensures)
