use Rattle.session_core.specs.Operators.OperatorRun.{begun}
use Rattle.session_core.proofs.operator.serve_operator.Goals as goal

pub serve-end-requires-clause-begun : goal.serve-end-requires-clause-begun
serve-end-requires-clause-begun g c = begun

pub returns : goal.returns
returns g c = (c.serve-end.new.handler, c.drop_pending.ensures, c.serve-end.ensures)
