-- One more line of the operator.
use Rattle.std.proofs.Common.{◌≡◌, ℕ, List, None, Result, refl, subst}
use Rattle.route_io.specs.Sinks.{SinkState, Sends}
use Rattle.route_io.specs.declared.fault.WriteFault.{WriteFault}
use Rattle.arc_graph.specs.History.{Operator}
use Rattle.epoch_store.specs.Origin.{Origin, criteria_of}
use Rattle.session_requests.specs.Requests.{AsksOfOperator}
use Rattle.session_requests.specs.declared.line.Line.{Line}
use Rattle.session_requests.specs.declared.operator.OperatorRequest.{OperatorRequest}
use Rattle.session_core.specs.Lines.{IsLine}
use Rattle.session_core.specs.Operators.{IsObeyed, ObeysLine, OperatorRun}
use Rattle.session_core.specs.Operators.OperatorRun.{then}
use Rattle.session_core.specs.Handlers.{TellsOne}
use Rattle.session_core.specs.Exchanges.{Exchange}

-- a line that was read with as many criteria as the store has, and had its effect, is told with its reply
pub tells : (o : Origin) (first old new : Operator) (exchanges : List Exchange) (raw text : List ℕ) (criteria : ℕ) (what : Line OperatorRequest)
    (to replied : SinkState) (result : Result (Unit {0}) WriteFault) → criteria ≡ criteria_of o → OperatorRun o first exchanges old
    → IsLine (AsksOfOperator criteria) raw what → ObeysLine o what old text new → Sends to replied text result
    → TellsOne (λ more. OperatorRun o first more new) exchanges raw to replied result
tells o first old new exchanges raw text criteria what to replied result same run is obeyed sent =
    let one : Exchange = record { line = raw; named = None; reply = text } in
    let P : ℕ → Type 0 = λ d. IsLine (AsksOfOperator d) raw what in
    let is_obeyed : IsObeyed o old one new = record {
      what = what;
      is = subst P same is;
      obeyed = obeyed;
      unnamed = refl;
    } in
    record { one = one; line = refl; led = then one run is_obeyed; sent = sent }
