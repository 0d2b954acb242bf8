use Rattle.std.proofs.Common.{◌+◌, ◌++◌, ◌∷◌, [], Ok, Err, true, false, refl, sym, ap, subst, ◌∙◌}
use Rattle.std.proofs.lemmas.Option.{IfSome_then}
use Rattle.std.proofs.lemmas.Result.{err_from_is_err_and}
use Rattle.line_text.specs.Texts.{HasCome}
use Rattle.line_text.proofs.TextLemmas.{advanced, has_come-more, has_come-none, next_of}
use Rattle.gr_reader.proofs.StepsLemmas.{has_lines-more, reads_broken, reads_end, reads_refused}
use Rattle.gr_reader.proofs.read.read_records.Goals as goal

pub lines-init : goal.lines-init
lines-init g c =
    let start = g.S.Source.state c.args.source.now in
    record {
      texts = [];
      come = subst (λ lines. HasCome c.args.limits start start lines []) (sym c.in_ok-lines.ensures) (has_come-none c.args.limits start);
      has = (refl, refl);
    }

pub returns-in-Ok-false-clause-reads : goal.returns-in-Ok-false-clause-reads
returns-in-Ok-false-clause-reads g c =
    let advances = rw c.in-Ok-false.field-0-test at c.in-Ok-false.ensures.advances in
    let come = c.lines.invariant.come in
    reads_end g.G.Grammar.rules g.K.RecordSink.has_taken c.args.sink.now c.args.limits c.lines.sink c.lines.invariant.texts c.lines.begun c.lines.invariant.has
    _ c.next_line.new.self.text c.end.result _
    (ap (λ n. n + 1) (c.number.ensures.value ∙ (advanced come.goes_on advances).counts.0.number ∙ come.number))
    (next_of c.args.limits _ _ _ _ _ _ come (Ok false) advances) c.end.ensures

pub returns-in-Err-clause-reads : goal.returns-in-Err-clause-reads
returns-in-Err-clause-reads g c =
    let advances = c.in-Err.ensures.advances in
    let come = c.lines.invariant.come in
    rw (c.at_line.ensures, c.number-in-Err.ensures.value)
    (IfSome_then _ (next_of c.args.limits _ _ _ _ _ _ come (Err c.in-Err.fault) advances)
    (λ bytes next. reads_broken g.G.Grammar.rules g.K.RecordSink.has_taken c.args.sink.now c.args.limits c.lines.sink c.lines.invariant.texts c.lines.begun
    c.lines.invariant.has bytes c.next_line.new.self.text c.in-Err.fault _
    (ap (λ n. n + 1) ((advanced come.goes_on advances).counts.number ∙ come.number)) next))

pub returns-in_err-begun-clause-reads : goal.returns-in_err-begun-clause-reads
returns-in_err-begun-clause-reads g c =
    let advances = rw c.in-Ok-true.field-0-test at c.in-Ok-true.ensures.advances in
    let come = c.lines.invariant.come in
    let p = err_from_is_err_and c.from_residual-in_err-begun.result c.from_residual-in_err-begun.ensures.1 in
    rw (p.1, p.2)
    (IfSome_then _ (next_of c.args.limits _ _ _ _ _ _ come (Ok true) advances)
    (λ bytes next. reads_refused g.G.Grammar.rules g.K.RecordSink.has_taken c.args.sink.now c.args.limits c.lines.sink c.lines.invariant.texts c.lines.begun
    c.lines.invariant.has bytes c.next_line.new.self.text c.in_err-begun.field-0.0 c.number-in-lines.result
    (c.number-in-lines.ensures.value ∙ (advanced come.goes_on advances).counts.number ∙ ap (λ n. n + 1) come.number) next
    (rw c.text.ensures.value at c.in_err-begun.ensures)))

pub lines-preserved : goal.lines-preserved
lines-preserved g c =
    let advances = rw c.in-Ok-true.field-0-test at c.in-Ok-true.ensures.advances in
    let come = c.lines.invariant.come in
    record {
      texts = c.lines.invariant.texts ++ c.next_line.new.self.text ∷ [];
      come = has_come-more c.args.limits _ _ _ _ _ _ come advances c.in-Ok-true.ensures.in_limits c.in-Ok-true.ensures.keeps_fault
          (rw come.goes_on at c.in-Ok-true.ensures.source);
      has = has_lines-more g.G.Grammar.rules g.K.RecordSink.has_taken c.args.sink.now c.lines.sink c.take_line.new.sink c.lines.invariant.texts
          c.next_line.new.self.text c.number-in-lines.result c.lines.begun c.in_ok-begun.begun c.lines.invariant.has
          (rw c.text.ensures.value at c.in_ok-begun.ensures);
    }
