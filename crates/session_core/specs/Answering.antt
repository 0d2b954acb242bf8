-- What a session does for one line: what it needs, what it sees, and what it sends.
use Rattle.std.specs.Prelude.{◌≡◌, ℕ, ◌<◌, ◌≤◌, ◌⊎◌, ⊤, true, false, List, [], ◌∷◌, ◌++◌, Result, Ok, Err}
use mathlib.Core.List.{IsPrefix}
use Rattle.road_network.specs.Limits.{max_budget}
use Rattle.arc_graph.specs.Graph.{Graph, Match}
use Rattle.arc_graph.specs.History.{History, ends_closed}
use Rattle.route_io.specs.Sinks.{SinkState, Sends}
use Rattle.route_io.specs.declared.fault.WriteFault.{WriteFault}
use Rattle.session_core.specs.declared.fault.ReplyFault.{ReplyFault}
use Rattle.session_core.specs.declared.fault.ReplyFault.TheVariants as fault
use Rattle.epoch_store.specs.Origin.{Origin, IsPublishedIn, last_number}
use Rattle.epoch_store.specs.Readers.{EpochReader}
use Rattle.session_requests.specs.declared.session.SessionRequest.{SessionRequest}
use Rattle.session_requests.specs.declared.session.SessionRequest.TheVariants as asks
use Rattle.session_core.specs.declared.handler.Answered.{Answered}
use Rattle.session_core.specs.declared.handler.Answered.TheVariants.{Replied}
use Rattle.session_core.specs.Sessions.{RepliesTo, Scene, Session}

-- a scene by its parts
abbrev pub scene_of : Graph → Origin → ℕ → Scene
scene_of graph o budget = record { graph = graph; origin = o; budget = budget }

-- Every query of a session over this scene can be searched.
pub record CanSearch (scene : Scene) : Type 0 where
  pub weights : Match scene.graph scene.origin.base
  pub budget : scene.budget ≤ max_budget

-- what was seen is as before, or goes on from there, and was published
abbrev pub SeesOn : Origin → History → History → Type 0
SeesOn o before after = (after ≡ before) ⊎ (IsPrefix before after × IsPublishedIn o after)

-- it looked at the epochs since, unless it knew before that no further one will come
abbrev pub LooksAnew : EpochReader → EpochReader → Type 0
LooksAnew before after = ends_closed before.seen ≡ false → before.looks < after.looks

-- more epochs may come as before, and no look was undone
abbrev pub Waits : EpochReader → EpochReader → Type 0
Waits before after = ends_closed before.seen ≡ false → (ends_closed after.seen ≡ false) × (before.looks ≤ after.looks)

-- the longest that a wait sleeps between two looks, in nanoseconds: 20 milliseconds
abbrev pub longest_nap : ℕ
longest_nap = 20000000

-- the epoch of a wait has come, or no more are to come
abbrev pub HasCome : Origin → History → ℕ → Type 0
HasCome o h e = (e ≤ last_number o h) ⊎ (ends_closed h ≡ true)

-- what a request waits for has come; all but a wait wait for nothing
abbrev pub MayReply : Origin → History → SessionRequest → Type 0
MayReply o h (asks.Wait e) = HasCome o h e
MayReply o h other = ⊤

-- A text of this kind was sent with this result.
pub record SendsOneOf (IsText : List ℕ → Type 0) (old new : SinkState) (result : Result (Unit {0}) WriteFault) : Type 0 where
  pub text : List ℕ
  pub is : IsText text
  pub sent : Sends old new text result

-- what a call does that sends a text of this kind, unless memory runs out before its first byte
abbrev pub RepliesOneOf : (List ℕ → Type 0) → SinkState → SinkState → Result (Unit {0}) ReplyFault → Type 0
RepliesOneOf IsText old new (Ok sent) = SendsOneOf IsText old new (Ok tt)
RepliesOneOf IsText old new (Err (fault.Out cut)) = SendsOneOf IsText old new (Err cut)
RepliesOneOf IsText old new (Err (fault.OutOfMemory want)) = new ≡ old

-- A request had its reply, with this result, at the last epoch that was seen then, and the number was added.
pub record RepliesLast (scene : Scene) (r : SessionRequest) (old new : Session) (to replied : SinkState)
    (result : Result (Unit {0}) WriteFault) : Type 0 where
  pub seen : SeesOn scene.origin old.seen new.seen
  pub named : new.named ≡ old.named ++ last_number scene.origin new.seen ∷ []
  pub sent : SendsOneOf (RepliesTo scene new.seen (last_number scene.origin new.seen) r) to replied result

-- No reply was begun, and no number was added.
pub record RepliesNothing (o : Origin) (old new : Session) (to replied : SinkState) : Type 0 where
  pub seen : SeesOn o old.seen new.seen
  pub named : new.named ≡ old.named
  pub unsent : replied ≡ to

-- what answering a request does
abbrev pub AnswersRequest : Scene → SessionRequest → Session → Session → SinkState → SinkState → Result (Unit {0}) ReplyFault
    → Type 0
AnswersRequest scene r old new to replied (Ok sent) = RepliesLast scene r old new to replied (Ok tt)
AnswersRequest scene r old new to replied (Err (fault.Out cut)) = RepliesLast scene r old new to replied (Err cut)
AnswersRequest scene r old new to replied (Err (fault.OutOfMemory want)) = RepliesNothing scene.origin old new to replied

-- the answer of a line that isn't the last, by that of its reply
abbrev pub answer_by : Result (Unit {0}) ReplyFault → Result Answered ReplyFault
answer_by (Ok sent) = Ok Replied
answer_by (Err why) = Err why
