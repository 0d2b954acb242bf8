-- What an operator's lines do to its store, and what is replied to them.
use Rattle.std.specs.Prelude.{◌≡◌, ℕ, ◌⊎◌, List, [], ◌∷◌, ◌++◌, Option, Some, None, codes}
use Rattle.answer_writer.specs.Replies.{end_line}
use Rattle.arc_graph.specs.declared.change.Change.{Change}
use Rattle.arc_graph.specs.History.{Operator, with_none_pending, with_pending, with_published}
use Rattle.epoch_store.specs.Faults.{HasSetFault, HasShutFault, MayPublish, MaySet, MayShut}
use Rattle.epoch_store.specs.Origin.{Origin, criteria_of, last_number}
use Rattle.epoch_store.specs.declared.fault.SetFault.{SetFault}
use Rattle.epoch_store.specs.declared.fault.SetFault.TheVariants as set
use Rattle.epoch_store.specs.declared.fault.ShutFault.{ShutFault}
use Rattle.epoch_store.specs.declared.fault.ShutFault.TheVariants as shut
use Rattle.session_requests.specs.Requests.{AsksOfOperator}
use Rattle.session_requests.specs.declared.line.Line.{Line}
use Rattle.session_requests.specs.declared.line.Line.TheVariants as line
use Rattle.session_requests.specs.declared.operator.OperatorRequest.{OperatorRequest}
use Rattle.session_requests.specs.declared.operator.OperatorRequest.TheVariants as asks
use Rattle.session_core.specs.Lines.{IsLine}
use Rattle.session_core.specs.Sessions.{epoch_reply, line_refusal}
use Rattle.session_core.specs.Exchanges.{Exchange}

-- `ok`: the request was carried out
abbrev pub ok_reply : List ℕ
ok_reply = codes "ok" ++ end_line

-- `x last`: no epoch may follow
abbrev pub last_refusal : List ℕ
last_refusal = codes "x last" ++ end_line

-- `x arc`, `x zero` or `x full`: why an arc isn't given weights; want of memory has no reply
abbrev pub set_refusal : SetFault → Option (List ℕ)
set_refusal set.Arc = Some (codes "x arc" ++ end_line)
set_refusal set.Zero = Some (codes "x zero" ++ end_line)
set_refusal set.Full = Some (codes "x full" ++ end_line)
set_refusal (set.OutOfMemory want) = None

-- `x arc` or `x full`: why an arc isn't shut
abbrev pub shut_refusal : ShutFault → Option (List ℕ)
shut_refusal shut.Arc = Some (codes "x arc" ++ end_line)
shut_refusal shut.Full = Some (codes "x full" ++ end_line)
shut_refusal (shut.OutOfMemory want) = None

-- a change of one arc's state
abbrev pub change_of : ℕ → Option (List ℕ) → Change
change_of k state = record { arc = record { 0 = k }; weight = state }

-- what a request does to what is published and pending, with its reply: it is carried out, or refused and changes nothing
abbrev pub Obeys : Origin → OperatorRequest → Operator → List ℕ → Operator → Type 0
Obeys o (asks.Set k w) old text new =
    (MaySet o old k w × (new ≡ with_pending old (change_of k (Some w))) × (text ≡ ok_reply))
    ⊎ ((fault : SetFault) × HasSetFault o old k w fault × (set_refusal fault ≡ Some text) × (new ≡ old))
Obeys o (asks.Shut k) old text new =
    (MayShut o old k × (new ≡ with_pending old (change_of k None)) × (text ≡ ok_reply))
    ⊎ ((fault : ShutFault) × HasShutFault o old k fault × (shut_refusal fault ≡ Some text) × (new ≡ old))
Obeys o asks.Drop old text new = (new ≡ with_none_pending old) × (text ≡ ok_reply)
Obeys o asks.Publish old text new =
    (MayPublish o old × (new ≡ with_published old) × (text ≡ epoch_reply (last_number o new.published)))
    ⊎ ((¬ MayPublish o old) × (new ≡ old) × (text ≡ last_refusal))
Obeys o asks.Bye old text new = ⊥

-- what a line does, with its reply
abbrev pub ObeysLine : Origin → Line OperatorRequest → Operator → List ℕ → Operator → Type 0
ObeysLine o line.Blank old text new = (new ≡ old) × (text ≡ [])
ObeysLine o line.Other old text new = (new ≡ old) × (text ≡ line_refusal)
ObeysLine o (line.Request r) old text new = Obeys o r old text new

-- A line of the operator has its reply, and its effect.
pub record IsObeyed (o : Origin) (old : Operator) (t : Exchange) (new : Operator) : Type 0 where
  pub what : Line OperatorRequest
  pub is : IsLine (AsksOfOperator (criteria_of o)) t.line what
  pub obeyed : ObeysLine o what old t.reply new
  pub unnamed : t.named ≡ None

-- a line ends an operator's session
abbrev pub IsOperatorBye : Origin → List ℕ → Type 0
IsOperatorBye o raw = IsLine (AsksOfOperator (criteria_of o)) raw (line.Request asks.Bye)

-- lines of the operator with their replies, one after another, lead from what was published and pending to what is
pub data OperatorRun (o : Origin) (old : Operator) : List Exchange → Operator → Type 0 where
  -- there was no line
  begun : OperatorRun o old [] old
  -- one more line
  then : {exchanges : List Exchange} {mid new : Operator} (t : Exchange) → OperatorRun o old exchanges mid → IsObeyed o mid t new
      → OperatorRun o old (exchanges ++ t ∷ []) new
