use Rattle.session_requests.specs.Readings.{number_of}
use Rattle.session_requests.proofs.EachLemmas.{ReadsEach}
use Rattle.session_requests.proofs.fields.weight.Given as goal

abbrev pub invariant-loop-i : goal.invariant-loop-i
invariant-loop-i l = ReadsEach number_of l.criteria l.i l.text l.rest l.components
