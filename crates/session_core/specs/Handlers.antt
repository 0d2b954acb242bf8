-- What one line does to who answers it, and to the sink of its reply.
use Rattle.std.specs.Prelude.{◌≡◌, ◌∷◌, ◌++◌, [], List, ℕ, Result, Ok, Err}
use Rattle.std.specs.Borrow.{Bor, MutBor}
use Rattle.line_text.specs.declared.limits.Request.{Request as Kind}
use Rattle.route_io.specs.Sinks.{SinkState, Sends}
use Rattle.route_io.specs.declared.fault.WriteFault.{WriteFault}
use Rattle.session_core.specs.declared.fault.ReplyFault.{ReplyFault}
use Rattle.session_core.specs.declared.fault.ReplyFault.TheVariants as fault
use Rattle.session_core.specs.declared.handler.Answered.{Answered}
use Rattle.session_core.specs.declared.handler.Answered.TheVariants.{Replied, Bye}
use Rattle.session_core.specs.Lines.{IsText}
use Rattle.session_core.specs.Exchanges.{Exchange}

-- A line was added to those told, with its reply, which was sent with this result.
pub record TellsOne (Led : List Exchange → Type 0) (exchanges : List Exchange) (raw : List ℕ) (to replied : SinkState)
    (result : Result (Unit {0}) WriteFault) : Type 0 where
  pub one : Exchange
  pub line : one.line ≡ raw
  pub led : Led (exchanges ++ one ∷ [])
  pub sent : Sends to replied one.reply result

-- what answering a line does, where `Led` says what the lines told so far lead to from then on: it is told with its reply,
-- or it ends the session, or memory ran out before its reply, and then it isn't told
abbrev pub AnswersLine : (List Exchange → Type 0) → (List ℕ → Type 0) → List Exchange → List ℕ → SinkState → SinkState
    → Result Answered ReplyFault → Type 0
AnswersLine Led IsBye exchanges raw to replied (Ok Replied) = TellsOne Led exchanges raw to replied (Ok tt)
AnswersLine Led IsBye exchanges raw to replied (Ok Bye) = IsBye raw × Led exchanges × (replied ≡ to)
AnswersLine Led IsBye exchanges raw to replied (Err (fault.Out cut)) = TellsOne Led exchanges raw to replied (Err cut)
AnswersLine Led IsBye exchanges raw to replied (Err (fault.OutOfMemory want)) = Led exchanges × (replied ≡ to)

-- calls of this kind can be made, in each context that is ready
abbrev pub IsCallableIn : {C H K : Type 0} → (C → Type 0) → (Bor C → MutBor H → Kind → Bor (List ℕ) → MutBor K → Type 0) → Type 0
IsCallableIn {C} {H} {K} Ready Asks =
    (context : Bor C) (handler : MutBor H) (kind : Kind) (text : Bor (List ℕ)) (to : MutBor K) → Ready context.now
    → Asks context handler kind text to

-- Each call of this kind answers a line, where `Progresses` says how lines lead a handler on, `IsBye` which line ends the session,
-- and `state` what a sink shows.
abbrev pub AnswersEach : {C H K : Type 0} → (C → H → List Exchange → H → Type 0) → (C → List ℕ → Type 0) → (K → SinkState)
    → (Bor C → MutBor H → Kind → Bor (List ℕ) → MutBor K → Result Answered ReplyFault → MutBor H → MutBor K → Type 0) → Type 0
AnswersEach {C} {H} {K} Progresses IsBye state Gives =
    (context : Bor C) (handler : MutBor H) (kind : Kind) (text : Bor (List ℕ)) (to : MutBor K) (result : Result Answered ReplyFault)
    (after : MutBor H) (replied : MutBor K) → Gives context handler kind text to result after replied
    → (first : H) (exchanges : List Exchange) (raw : List ℕ) → IsText kind text.now raw → Progresses context.now first exchanges handler.now
    → AnswersLine (λ more. Progresses context.now first more after.now) (IsBye context.now) exchanges raw (state to.now) (state replied.now) result
