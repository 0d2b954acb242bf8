use Rattle.std.proofs.Common.{ap, ◌-◌, ◌<◌, refl, arith}
use Rattle.session_core.proofs.ServesLemmas.{served_begun}
use Rattle.session_core.proofs.serve.serve_lines.Goals as goal

pub lines-init : goal.lines-init
lines-init g c = served_begun _ _ _ _ _ _ c.requires.lines c.requires.begun

pub lines-preserved : goal.lines-preserved
lines-preserved g c = c.in_default.ensures.serves _ _ _ c.lines.invariant

pub returns-in-Some : goal.returns-in-Some
returns-in-Some g c = c.in-Some.ensures.serves _ _ _ c.lines.invariant

pub lines-smaller : goal.lines-smaller
lines-smaller g c =
    let later = lines-preserved g c in
    let less : c.serve_line.new.lines.limits.total - c.serve_line.new.lines.passed < c.lines.lines.limits.total - c.lines.lines.passed =
    omega (arith, c.in_default.ensures.takes_some refl, later.within, ap (λ l. l.total) later.limits, ap (λ l. l.total) c.lines.invariant.limits) in
    less
