use Rattle.session_core.proofs.RunLemmas.{goes_nowhere}
use Rattle.session_core.proofs.session.Session.serve.Goals as goal

pub serve-requires-clause-begun : goal.serve-requires-clause-begun
serve-requires-clause-begun g c = goes_nowhere _ _
