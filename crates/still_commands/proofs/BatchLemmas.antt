-- The replies to the pairs of a batch, one by one, and the run that reads them.
use Rattle.std.proofs.Common.{◌≡◌, ℕ, ◌+◌, ◌<◌, ◌≤◌, List, [], ◌∷◌, ◌++◌, Bool, true, false, None, Ok, Err, length, take, get_or}
use Rattle.std.proofs.Common.{refl, sym, ap, subst, ◌∙◌, append-nil, nat_lt}
use Rattle.std.specs.Prelude.{◌==◌}
use Rattle.std.specs.List.{concat}
use Rattle.std.proofs.lemmas.Bool.{ltb-true, ltb-false}
use Rattle.std.proofs.lemmas.List.{take_all, take_more}
use Rattle.std.proofs.lemmas.List.Folds.{concat-append}
use Rattle.std.proofs.lemmas.Slice.Zip.{all_zipped_more}
use Rattle.query_reader.specs.declared.pairs.Pair.{Pair}
use Rattle.road_network.specs.Network.{Network}
use Rattle.route_io.specs.declared.fault.WriteFault.{WriteFault}
use Rattle.route_io.specs.Sinks.{SinkState}
use Rattle.route_io.specs.Sources.{SourceState, ReadsFiles}
use Rattle.route_io.proofs.SendsLemmas.{Sent, Sends-then}
use Rattle.road_network.specs.declared.query.AnswerKind.TheVariants.{Walks}
use Rattle.command_words.specs.declared.limits.SearchLimits.{SearchLimits}
use Rattle.command_words.specs.declared.commands.BatchWords.{BatchWords}
use Rattle.command_words.specs.declared.commands.StillCommand.TheVariants.{Batch}
use Rattle.session_core.specs.declared.reply.Reply.{Reply}
use Rattle.session_core.specs.declared.fault.ReplyFault.{ReplyFault}
use Rattle.session_core.specs.declared.fault.ReplyFault.TheVariants as fault
use Rattle.session_core.specs.Queries.{RepliesToQuery}
use Rattle.session_core.specs.declared.mode.SearchMode.{SearchMode}
use Rattle.session_core.specs.Sending.{Replied, SendsReply}
use Rattle.still_commands.specs.declared.stop.Stop.TheVariants as stop
use Rattle.still_commands.specs.Batch.{BatchReplies, PairsEnd, PairsReplies, PairsStop, RepliesTo, RepliesToEach, SaysPairs, StarvesAtPair}
use Rattle.still_commands.specs.Batch.{mode_of, pairs_read, pairs_stop, query_between}
use Rattle.still_commands.specs.Outcome.{Outcome, done, no_memory, failed_file}
use Rattle.still_commands.specs.FilesRead.{ReadAs}
use Rattle.still_commands.specs.Output.{RunsCommand, StillEnds}
use Rattle.still_commands.specs.Stops.{Replies, outcome_of, stop_at}
use Rattle.still_commands.proofs.FilesReadLemmas.{ends_over, reading_leaves_out}
use Rattle.still_commands.proofs.RunsLemmas.{nothing_sent, replies_so, runs_then, sends_nothing, sent_done, sent_part, sent_whole}

-- the reply is of this kind, to the pair's query
abbrev pub IsToPair : SearchMode → SearchLimits → Network → Pair → Reply → List ℕ → Type 0
IsToPair mode limits net pair = RepliesToQuery net mode 0 Walks (query_between limits pair)

-- The first so many pairs have their replies.
pub record HasReplied (mode : SearchMode) (limits : SearchLimits) (net : Network) (pairs : List Pair) (count : ℕ) (out replied : SinkState) : Type 0 where
  pub text : List ℕ
  pub replies : RepliesToEach mode limits net (take count pairs) text
  pub sent : Sent out replied text

module _ (mode : SearchMode) (limits : SearchLimits) (net : Network) (pairs : List Pair) where
  -- no pair has its reply yet
  pub none_replied : (out : SinkState) → HasReplied mode limits net pairs 0 out out
  none_replied out = record {
    text = [];
    replies = record { replies = []; each = tt; whole = refl };
    sent = sends_nothing out;
  }

  module _ (i : ℕ) (d pair : Pair) (inside : i < length pairs) (next : pair ≡ get_or pairs i d) (out mid replied : SinkState)
      (so_far : HasReplied mode limits net pairs i out mid) where
    one_pair_more : take (i + 1) pairs ≡ take i pairs ++ pair ∷ []
    one_pair_more = take_more pairs i d inside ∙ ap (λ p. take i pairs ++ p ∷ []) (sym next)

    -- one reply more, to the next pair
    each_more : (reply : Reply) (text : List ℕ) → IsToPair mode limits net pair reply text
        → RepliesToEach mode limits net (take (i + 1) pairs) (so_far.text ++ text)
    each_more reply text ends = rw one_pair_more (record {
      replies = so_far.replies.replies ++ text ∷ [];
      each = all_zipped_more (RepliesTo mode limits net) (take i pairs) so_far.replies.replies pair text so_far.replies.each
          (reply, ends);
      whole = ap (λ t. t ++ text) so_far.replies.whole ∙ sym (concat-append so_far.replies.replies (text ∷ [])
          ∙ ap (λ t. concat so_far.replies.replies ++ t) (append-nil text));
    })

    -- the next pair has its reply
    pub one_more_replied : (reply : Reply) → SendsReply (IsToPair mode limits net pair) mid replied reply (Ok tt)
        → HasReplied mode limits net pairs (i + 1) out replied
    one_more_replied reply sends = record {
      text = so_far.text ++ sends.text;
      replies = each_more reply sends.text sends.is;
      sent = Sends-then out mid replied so_far.text sends.text (Ok tt) so_far.sent sends.sent;
    }

    -- the sink took a part of the next pair's reply, which may be the last
    cut_behind : (reply : Reply) (fault : WriteFault) → SendsReply (IsToPair mode limits net pair) mid replied reply (Err fault)
        → (more : Bool) → nat_lt (i + 1) (length pairs) ≡ more → Replies (PairsReplies mode limits net pairs) out replied (outcome_of (stop.Out fault))
    cut_behind reply fault sends true is =
        let whole = so_far.text ++ sends.text in
        let more : i + 1 < length pairs = ltb-true (i + 1) (length pairs) is in
        let starves : StarvesAtPair mode limits net pairs whole = record { before = i + 1; more = more; replied = each_more reply sends.text sends.is } in
        replies_so (PairsReplies mode limits net pairs) no_memory whole out replied (outcome_of (stop.Out fault)) starves
        (sent_part no_memory whole out replied fault (Sends-then out mid replied so_far.text sends.text (Err fault) so_far.sent sends.sent))
    cut_behind reply fault sends false is =
        let whole = so_far.text ++ sends.text in
        let past : length pairs ≤ i + 1 = ltb-false (i + 1) (length pairs) is in
        let all = subst (λ l. RepliesToEach mode limits net l whole) (take_all (i + 1) pairs past) (each_more reply sends.text sends.is) in
        replies_so (PairsReplies mode limits net pairs) done whole out replied (outcome_of (stop.Out fault)) all
        (sent_part done whole out replied fault (Sends-then out mid replied so_far.text sends.text (Err fault) so_far.sent sends.sent))

    -- the next pair's reply ends the run
    pub ends_at_pair : (why : ReplyFault) → Replied (IsToPair mode limits net pair) mid replied (Err why)
        → Replies (PairsReplies mode limits net pairs) out replied (outcome_of (stop_at why))
    ends_at_pair (fault.Out cut) sends = cut_behind sends.0 cut sends.1 (nat_lt (i + 1) (length pairs)) refl
    ends_at_pair (fault.OutOfMemory want) same =
        let starves : StarvesAtPair mode limits net pairs so_far.text = record { before = i; more = inside; replied = so_far.replies } in
        rw same (replies_so (PairsReplies mode limits net pairs) no_memory so_far.text out mid no_memory starves
        (sent_whole no_memory so_far.text out mid (record { no_fault = refl; no_want = refl }) refl so_far.sent))

  -- all pairs have their replies
  pub all_replied : (i : ℕ) (out replied : SinkState) → length pairs ≤ i → HasReplied mode limits net pairs i out replied
      → Replies (PairsReplies mode limits net pairs) out replied done
  all_replied i out replied past has =
      let all = subst (λ l. RepliesToEach mode limits net l has.text) (take_all i pairs past) has.replies in
      replies_so (PairsReplies mode limits net pairs) done has.text out replied done all (sent_done has.text out replied has.sent)

-- the network was read, and the run goes on to the file of pairs
module _ (asked : BatchWords) (folder mid after : SourceState) (net : Network) (read : ReadAs folder.files asked.files net)
    (reads : ReadsFiles folder mid None) where
  goes_on_to_pairs : (out replied : SinkState) (outcome : Outcome)
      → RunsCommand (PairsEnd (PairsReplies (mode_of asked.goal) asked.limits net) mid.files asked.pairs) mid after out replied outcome
      → RunsCommand (StillEnds folder.files (Batch asked)) folder after out replied outcome
  goes_on_to_pairs out replied outcome runs =
      ends_over (BatchReplies folder.files asked) asked.files folder after net mid out replied outcome read reads
      (subst (λ files. RunsCommand (PairsEnd (PairsReplies (mode_of asked.goal) asked.limits net) files asked.pairs) mid after out replied outcome) reads.files runs)

  -- that file ends the run
  pub ends_at_pairs : {outcome : Outcome} (out : SinkState) → PairsStop mid.files asked.pairs outcome → ReadsFiles mid after (failed_file outcome)
      → RunsCommand (StillEnds folder.files (Batch asked)) folder after out out outcome
  ends_at_pairs {outcome} out why more = goes_on_to_pairs out out outcome
      (nothing_sent (PairsEnd (PairsReplies (mode_of asked.goal) asked.limits net) mid.files asked.pairs) outcome mid after out
      (reading_leaves_out (λ line kind. record { no_fault = refl; no_want = refl }) why) (pairs_stop why) more)

  -- it says pairs, and the run only replies
  pub ends_over_pairs : (pairs : List Pair) (out replied : SinkState) (outcome : Outcome) → SaysPairs mid.files asked.pairs pairs
      → ReadsFiles mid after None → Replies (PairsReplies (mode_of asked.goal) asked.limits net pairs) out replied outcome
      → RunsCommand (StillEnds folder.files (Batch asked)) folder after out replied outcome
  ends_over_pairs pairs out replied outcome says more replies = goes_on_to_pairs out replied outcome
      (runs_then (PairsReplies (mode_of asked.goal) asked.limits net pairs) (PairsEnd (PairsReplies (mode_of asked.goal) asked.limits net) mid.files asked.pairs)
      (λ o text then. pairs_read pairs says then) mid after after out replied outcome more (replies after))
