use Rattle.std.proofs.Common.{◌≡◌, ◌+◌, ◌≤◌, length, arith, subst}
use Rattle.std.proofs.lemmas.Result.{err_from_is_err_and}
use Rattle.session_core.proofs.WindowLemmas.{SentLines, lines_cut, more_lines}
use Rattle.session_core.proofs.answerer.Answerer.put_windows.Goals as goal

pub windows-preserved : goal.windows-preserved
windows-preserved g c = record {
  within = omega arith;
  room = omega (arith, c.windows.invariant.room, c.in_ok-put.ensures.room);
  lines = λ routes its.
      more_lines c.args.kind routes _ _ _ 0 c.windows.from _ (omega arith) (omega arith) (c.windows.invariant.lines routes its) _ (c.in_ok-put.ensures.lines routes its);
}

pub returns-in_err-put : goal.returns-in_err-put
returns-in_err-put g c = λ routes its.
    let p = err_from_is_err_and c.from_residual.result c.from_residual.ensures.1 in
    let count = length (g.F.FoundCosts.state c.args.found.now).costs in
    let there : c.windows.from + c.min.result ≤ count = omega (arith, c.count-count.ensures.value) in
    rw (p.1, p.2) (lines_cut c.args.kind routes _ _ _ 0 c.windows.from _ (omega arith) (omega arith) (c.windows.invariant.lines routes its)
    count there _ (c.in_err-put.ensures.lines routes its))

pub returns : goal.returns
returns g c = λ routes its.
    let all : c.windows.from ≡ length (g.F.FoundCosts.state c.args.found.now).costs =
    omega (arith, c.windows-test.false, c.windows.invariant.within, c.count-count.ensures.value) in
    subst (SentLines c.args.kind routes _ _ 0) all (c.windows.invariant.lines routes its)
