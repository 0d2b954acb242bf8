use Rattle.session_core.proofs.StayLemmas.{run_stays}
use Rattle.session_core.proofs.laws.session_runs_stay.Goals as goal

pub returns : goal.returns
returns c = run_stays
