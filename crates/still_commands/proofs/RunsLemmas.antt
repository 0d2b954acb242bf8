-- What a run did, by what its calls did.
use Rattle.std.proofs.Common.{◌≡◌, ℕ, ◌<◌, List, [], false, Ok, Err, length, take, refl, sym, append-nil, Option, Some, None}
use Rattle.std.specs.Prelude.{◌==◌}
use Rattle.std.specs.Io.KnownBytes.{Appends}
use Rattle.route_io.specs.declared.fault.WriteFault.{WriteFault}
use Rattle.route_io.specs.declared.fault.WriteFault.TheVariants as write
use Rattle.route_io.specs.Sinks.{SinkState, Sends}
use Rattle.route_io.specs.Sources.{SourceState, ReadsFiles}
use Rattle.route_io.proofs.ReadsLemmas.{ReadsFiles-then}
use Rattle.session_core.specs.declared.reply.Reply.{Reply}
use Rattle.session_core.specs.declared.reply.Reply.TheVariants.{Answer, Refusal}
use Rattle.still_commands.specs.declared.stop.Stop.TheVariants as stop
use Rattle.still_commands.specs.Outcome.{Outcome, done, refused, no_memory, failed_file, status_of, out_has_wanted}
use Rattle.still_commands.specs.Output.{TookNote, RunsCommand, EndsOrCut, uncut, failed, wanted, IsCut}
use Rattle.still_commands.specs.Stops.{IsReply, Replies, outcome_of, reply_outcome}

-- nothing was sent
appends_nothing : (sent : Option (List ℕ)) → Appends sent sent []
appends_nothing None = tt
appends_nothing (Some bytes) = sym (append-nil bytes)

-- nothing was read
pub stays : (folder : SourceState) → ReadsFiles folder folder None
stays folder = record { cause = refl; files = refl; named = tt }

-- an outcome is neither a failure nor a want of memory of the sink
pub record LeavesOut (outcome : Outcome) : Type 0 where
  pub no_fault : (status_of outcome == 4) ≡ false
  pub no_want : out_has_wanted outcome ≡ false

-- a run ends so with nothing sent
pub nothing_sent : (Ending : Outcome → List ℕ → Type 0) (outcome : Outcome) (folder after : SourceState) (out : SinkState) → LeavesOut outcome
    → Ending outcome [] → ReadsFiles folder after (failed_file outcome) → RunsCommand Ending folder after out out outcome
nothing_sent Ending outcome folder after out leaves whole reads = record {
  text = [];
  took = appends_nothing out.sent;
  ends = uncut whole;
  reads = reads;
  writes = rw (leaves.no_fault, leaves.no_want) (record { faults = refl; wants = refl });
}

module _ (end : Outcome) (reply : List ℕ) (out replied : SinkState) where
  pub sent_whole : LeavesOut end → failed_file end ≡ None → Sends {T = Unit {0}} out replied reply (Ok tt) → Replies (IsReply end reply) out replied end
  sent_whole leaves none_failed sends = λ folder. record {
    text = reply;
    took = sends.bytes;
    ends = uncut (refl, refl);
    reads = rw none_failed (stays folder);
    writes = rw (leaves.no_fault, leaves.no_want) sends.cause;
  }

  -- a part of a reply
  part_of : (n : ℕ) → n < length reply → IsCut (IsReply end reply) (take n reply)
  part_of n short = record { outcome = end; whole = reply; ends = (refl, refl); size = n; short = short; part = refl }

  -- the sink failed or wanted memory, and took a part of it
  pub sent_part : (fault : WriteFault) → Sends {T = Unit {0}} out replied reply (Err fault)
      → Replies (IsReply end reply) out replied (outcome_of (stop.Out fault))
  sent_part write.Failed sends = λ folder. record {
    text = take sends.bytes.0 reply;
    took = sends.bytes.2;
    ends = failed (part_of sends.bytes.0 sends.bytes.1);
    reads = stays folder;
    writes = sends.cause;
  }
  sent_part (write.OutOfMemory want) sends = λ folder. record {
    text = take sends.bytes.0 reply;
    took = sends.bytes.2;
    ends = wanted (part_of sends.bytes.0 sends.bytes.1);
    reads = stays folder;
    writes = sends.cause;
  }

-- a reply was sent, and the run ends
pub sent_done : (reply : List ℕ) (out replied : SinkState) → Sends {T = Unit {0}} out replied reply (Ok tt) → Replies (IsReply done reply) out replied done
sent_done reply out replied sends = sent_whole done reply out replied (record { no_fault = refl; no_want = refl }) refl sends

-- a reply of either kind was sent whole
pub sent_reply : (kind : Reply) (reply : List ℕ) (out replied : SinkState) → Sends {T = Unit {0}} out replied reply (Ok tt)
    → Replies (IsReply (reply_outcome kind) reply) out replied (reply_outcome kind)
sent_reply Answer reply out replied sends = sent_done reply out replied sends
sent_reply Refusal reply out replied sends = sent_whole refused reply out replied (record { no_fault = refl; no_want = refl }) refl sends

-- what ends a run of one kind ends a run of another
module _ (Ending Other : Outcome → List ℕ → Type 0) (each : (outcome : Outcome) (text : List ℕ) → Ending outcome text → Other outcome text) where
  cut_as : (text : List ℕ) → IsCut Ending text → IsCut Other text
  cut_as text cut = record {
    outcome = cut.outcome;
    whole = cut.whole;
    ends = each cut.outcome cut.whole cut.ends;
    size = cut.size;
    short = cut.short;
    part = cut.part;
  }

  ends_as : {outcome : Outcome} {text : List ℕ} → EndsOrCut Ending outcome text → EndsOrCut Other outcome text
  ends_as (uncut whole) = uncut (each _ _ whole)
  ends_as (failed cut) = failed (cut_as _ cut)
  ends_as (wanted cut) = wanted (cut_as _ cut)

  -- it goes on where files were read before
  pub runs_then : (folder mid after : SourceState) (out replied : SinkState) (outcome : Outcome) → ReadsFiles folder mid None
      → RunsCommand Ending mid after out replied outcome → RunsCommand Other folder after out replied outcome
  runs_then folder mid after out replied outcome read runs = record {
    text = runs.text;
    took = runs.took;
    ends = ends_as runs.ends;
    reads = ReadsFiles-then folder mid after (failed_file outcome) read runs.reads;
    writes = runs.writes;
  }

-- a reply that was made is sent
pub replies_so : (Ending : Outcome → List ℕ → Type 0) (end : Outcome) (reply : List ℕ) (out replied : SinkState) (outcome : Outcome) → Ending end reply
    → Replies (IsReply end reply) out replied outcome → Replies Ending out replied outcome
replies_so Ending end reply out replied outcome whole sends = λ folder.
    runs_then (IsReply end reply) Ending (λ o text is. rw (is.0, is.1) whole) folder folder folder out replied outcome (stays folder) (sends folder)

-- memory runs out before a reply is sent
pub starves : (Ending : Outcome → List ℕ → Type 0) (out : SinkState) → Ending no_memory [] → Replies Ending out out no_memory
starves Ending out whole = λ folder. nothing_sent Ending no_memory folder folder out (record { no_fault = refl; no_want = refl }) whole (stays folder)

-- a sink that isn't called was sent nothing
pub sends_nothing : (out : SinkState) → Sends {T = Unit {0}} out out [] (Ok tt)
sends_nothing out = record { bytes = appends_nothing out.sent; cause = record { faults = refl; wants = refl } }

-- and took an empty note
pub takes_nothing : (err : SinkState) → TookNote err err []
takes_nothing err = (Ok tt, sends_nothing err)
