use Rattle.std.proofs.Common.{◌≡◌, ap, ◌∙◌, arith}
use Rattle.std.proofs.lemmas.List.{with_items_is}
use Rattle.line_text.specs.Pieces.{part_of}
use Rattle.line_text.proofs.lines.Lines.read_once.Goals as goal

pub returns-clause-reads : goal.returns-clause-reads
returns-clause-reads g c =
    let was : part_of c.as_mut_slice.result.now c.self.inside.held ≡ c.args.self.now.held =
    ap (λ bytes. part_of bytes c.self.inside.held) c.as_mut_slice.ensures.value ∙ ap (λ lines. lines.held) c.self.view_is in
    let now = with_items_is c.self.inside.buffer c.fill.new.buffer (omega (arith, c.as_mut_slice.ensures.len)) in
    rw (now, ← was) c.fill.ensures.reads
