-- What sending a reply does to a sink.
use Rattle.std.specs.Prelude.{◌≡◌, ℕ, List, Result, Ok, Err}
use Rattle.route_io.specs.Sinks.{SinkState, Sends}
use Rattle.route_io.specs.declared.fault.WriteFault.{WriteFault}
use Rattle.session_core.specs.declared.reply.Reply.{Reply}
use Rattle.session_core.specs.declared.fault.ReplyFault.{ReplyFault}
use Rattle.session_core.specs.declared.fault.ReplyFault.TheVariants as fault

-- A reply of this kind was sent, or at a fault a part of it from the front.
pub record SendsReply (IsReply : Reply → List ℕ → Type 0) (old new : SinkState) (reply : Reply)
    (result : Result (Unit {0}) WriteFault) : Type 0 where
  pub text : List ℕ
  pub is : IsReply reply text
  pub sent : Sends old new text result

-- the reply is of this kind, and has this text
abbrev pub IsReplyOf : Reply → List ℕ → Reply → List ℕ → Type 0
IsReplyOf kind whole reply text = (reply ≡ kind) × (text ≡ whole)

-- what a call does that sends a reply and answers which, unless memory runs out before its first byte
abbrev pub Replied : (Reply → List ℕ → Type 0) → SinkState → SinkState → Result Reply ReplyFault → Type 0
Replied IsReply old new (Ok reply) = SendsReply IsReply old new reply (Ok tt)
Replied IsReply old new (Err (fault.Out cut)) = (reply : Reply) × SendsReply IsReply old new reply (Err cut)
Replied IsReply old new (Err (fault.OutOfMemory want)) = new ≡ old
