-- What answering one line does, whoever answers it.
use Rattle.std.proofs.Common.{◌≡◌, ℕ, List, [], Option, Some, None, Result, Ok, Err, refl, sym}
use Rattle.std.specs.Result.{IsErrAnd}
use Rattle.std.specs.Io.KnownBytes.{Appends}
use Rattle.std.proofs.lemmas.List.{append-nil}
use Rattle.route_io.specs.Sinks.{SinkState, Sends}
use Rattle.route_io.specs.declared.fault.WriteFault.{WriteFault}
use Rattle.session_core.specs.declared.fault.ReplyFault.{ReplyFault}
use Rattle.session_core.specs.declared.fault.ReplyFault.TheVariants as fault
use Rattle.session_core.specs.declared.handler.Answered.{Answered}
use Rattle.session_core.specs.Handlers.{AnswersLine, TellsOne}
use Rattle.session_core.specs.Exchanges.{Exchange}

appends_none : (sent : Option (List ℕ)) → Appends sent sent []
appends_none None = tt
appends_none (Some xs) = sym (append-nil xs)

-- a sink that isn't called was sent nothing
pub sends_nothing : (to : SinkState) → Sends {T = Unit {0}} to to [] (Ok tt)
sends_nothing to = record { bytes = appends_none to.sent; cause = record { faults = refl; wants = refl } }

-- a line whose reply was cut is told with the whole reply
pub answers_cut : (Led : List Exchange → Type 0) (IsBye : List ℕ → Type 0) (exchanges : List Exchange) (raw : List ℕ) (to replied : SinkState)
    (cut : WriteFault) (result : Result Answered ReplyFault) → IsErrAnd result (λ e. e ≡ fault.Out cut)
    → TellsOne Led exchanges raw to replied (Err cut) → AnswersLine Led IsBye exchanges raw to replied result
answers_cut Led IsBye exchanges raw to replied cut (Ok answered) is tells = absurd is
answers_cut Led IsBye exchanges raw to replied cut (Err e) is tells = rw is tells
