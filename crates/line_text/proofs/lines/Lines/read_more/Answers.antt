use Rattle.std.proofs.Common.{◌≡◌, sym, ap, ◌∙◌}
use Rattle.line_text.specs.Pieces.{part_of}
use Rattle.line_text.proofs.RefillsLemmas.{refills_by, refills_none}
use Rattle.line_text.proofs.lines.Lines.read_more.Goals as goal

pub returns-then-self-clause-reads : goal.returns-then-self-clause-reads
returns-then-self-clause-reads g c =
    refills_none c.args.self.now _ (sym (ap (λ lines. lines.ended) c.self.view_is) ∙ c.if-self.true)

pub returns-clause-reads : goal.returns-clause-reads
returns-clause-reads g c =
    let held : part_of c.self-2.inside.buffer.items c.self-2.inside.held ≡ c.read_once-answer.new.self.held =
    ap (λ lines. lines.held) c.self-2.view_is in
    refills_by _ _ _ _ _ (sym (ap (λ lines. lines.ended) c.self.view_is) ∙ c.if-self.false) c.is_end-self-inside.ensures
    (rw held c.read_once-answer.ensures.reads)
