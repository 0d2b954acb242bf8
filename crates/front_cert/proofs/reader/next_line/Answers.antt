use Rattle.std.proofs.lemmas.Option.{IfSome_then}
use Rattle.line_text.proofs.TextLemmas.{advanced}
use Rattle.front_cert.proofs.ReadLemmas.{next_ok, next_err}
use Rattle.front_cert.proofs.reader.next_line.Goals as goal

pub returns-in-Ok-clause-tells : goal.returns-in-Ok-clause-tells
returns-in-Ok-clause-tells g c =
    let step = advanced c.requires.goes_on c.in-Ok.ensures.advances in
    IfSome_then _ step.lines (λ rest tells. next_ok c.args.network.now c.args.lines.now c.next_line.new.self rest _ c.requires.limits c.in-Ok.more step.counts tells)

pub returns-in-Err-clause-tells : goal.returns-in-Err-clause-tells
returns-in-Err-clause-tells g c =
    let step = advanced c.requires.goes_on c.in-Err.ensures.advances in
    rw (c.at_line.ensures, c.number.ensures.value)
    (IfSome_then _ step.lines (λ rest tells. next_err c.args.network.now c.args.lines.now c.next_line.new.self rest _ c.requires.limits c.in-Err.fault step.counts tells))
