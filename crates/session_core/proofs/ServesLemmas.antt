-- A link is served line by line.
use Rattle.std.proofs.Common.{◌≡◌, ℕ, ◌+◌, ◌<◌, ◌≤◌, ◌&&◌, Bool, true, false, List, [], ◌∷◌, ◌++◌, Option, Some, None, IfSome, IsSomeAnd, Result, Ok, Err, length, take, refl, sym, ap, subst, ◌∙◌, arith, append-nil, length-append, ⊎_elim, inl, inr}
use Rattle.std.proofs.KnownBytes.{Appends-trans, Appends-nil}
use Rattle.std.proofs.lemmas.Grind.{flat_map-append}
use Rattle.std.proofs.lemmas.List.{map-append}
use Rattle.std.proofs.lemmas.List.Elements.{All-append, All-cons, All-nil}
use Rattle.std.specs.Io.KnownBytes.{prepend_known}
use mathlib.Core.List.{IsPrefix}
use Rattle.route_io.specs.Sinks.{SinkState, Sends}
use Rattle.route_io.specs.Sources.{SourceState, ReadsFrom}
use Rattle.route_io.specs.declared.fault.WriteFault.{WriteFault as Cut}
use Rattle.route_io.specs.declared.fault.WriteFault.TheVariants as write
use Rattle.route_io.proofs.ReadsLemmas.{ReadsFrom-then}
use Rattle.route_io.proofs.SendsLemmas.{Sends-then}
use Rattle.line_text.specs.Foreign.{is_foreign}
use Rattle.line_text.specs.Lines.{first_lf, raw_line, lines_of}
use Rattle.line_text.specs.Reading.{Lines, begun, line_failed, rest_of}
use Rattle.line_text.specs.Requests.{RequestCounts, Requests, TellsRequest}
use Rattle.line_text.specs.declared.limits.LineFault.{LineFault}
use Rattle.line_text.specs.declared.limits.LineFault.TheVariants as line
use Rattle.line_text.specs.declared.limits.Request.{Request}
use Rattle.line_text.specs.declared.limits.Request.TheVariants.{Whole, Long}
use Rattle.line_text.proofs.AdvancesLemmas.{rest_told}
use Rattle.line_text.proofs.LineLemmas.{first_lf-le, length-raw_line}
use Rattle.epoch_store.proofs.PrefixLemmas.{prefix_trans}
use Rattle.session_core.specs.declared.fault.ReplyFault.{ReplyFault}
use Rattle.session_core.specs.declared.fault.ReplyFault.TheVariants as reply
use Rattle.session_core.specs.declared.end.SessionEnd.{SessionEnd}
use Rattle.session_core.specs.declared.end.SessionEnd.TheVariants.{Ended, ReadFault, WriteFault, TooLong, OutOfMemory}
use Rattle.session_core.specs.declared.handler.Answered.{Answered}
use Rattle.session_core.specs.declared.handler.Answered.TheVariants.{Replied, Bye}
use Rattle.session_core.specs.Lines.{IsText, ended_lines, max_request}
use Rattle.session_core.specs.declared.context.LinkPolicy.{LinkPolicy}
use Rattle.session_core.specs.Links.{AreFirst, Begins, CutsLast, EndsLink, IsAll, RepliesToNoForeign, SendsReplies, Serves, TakesLines, is_read_fault, is_write_fault}
use Rattle.session_core.specs.Handlers.{AnswersLine, TellsOne}
use Rattle.session_core.specs.Serving.{AreAll, PassesLines, Served, ServesOne, end_by_answer, end_by_input}
use Rattle.session_core.specs.Exchanges.{Exchange, lines_exchanged, text_exchanged}
use Rattle.session_core.proofs.FeedLemmas.{answer_past, ends_at, first_text, is_left, takes_all, takes_line, takes_up_to}

-- what a source has left stays told
left_behind : (before after : Option (List ℕ)) (P : List ℕ → List ℕ → Type 0) (left : List ℕ) → before ≡ Some left
    → IfSome before (λ left. IsSomeAnd after (P left)) → (more : List ℕ) × (after ≡ Some more)
left_behind None after P left e all = absurd cc
left_behind (Some left) None P some e all = absurd all
left_behind (Some left) (Some more) P some e all = (more, refl)

-- each request takes a byte at least
pub takes_some : (old new : Lines) (request : Request) → RequestCounts old new (Ok (Some request)) → old.passed < new.passed
takes_some old new Whole whole = whole.counts.more
takes_some old new Long counts = omega (arith, counts.more)

-- ---- one more line is told

lines_more : (exchanges : List Exchange) (one : Exchange) (raw : List ℕ) → one.line ≡ raw → lines_exchanged (exchanges ++ one ∷ []) ≡ lines_exchanged exchanges ++ raw ∷ []
lines_more exchanges one raw e = map-append (λ t. t.line) exchanges (one ∷ []) ∙ ap (λ line. lines_exchanged exchanges ++ line ∷ []) e

text_more : (exchanges : List Exchange) (one : Exchange) → text_exchanged (exchanges ++ one ∷ []) ≡ text_exchanged exchanges ++ one.reply
text_more exchanges one =
    flat_map-append (λ (t : Exchange). t.reply) exchanges (one ∷ []) ∙ ap (λ text. text_exchanged exchanges ++ text) (append-nil one.reply)

-- fewer lines are the first ones too
first_without : (total : ℕ) (taken : List ℕ) (left : Option (List ℕ)) (lines more : List (List ℕ)) → AreFirst total taken left (lines ++ more)
    → AreFirst total taken left lines
first_without total taken left lines more first =
    ⊎_elim (λ (p : IsPrefix (lines ++ more) (ended_lines taken)). inl (prefix_trans lines (lines ++ more) (ended_lines taken) (more, refl) p))
    (λ (q : IsAll total taken left × IsPrefix (lines ++ more) (lines_of taken)).
    inr (q.0, prefix_trans lines (lines ++ more) (lines_of taken) (more, refl) q.1)) first

-- what the test of a guarded link tells
guards : (guarded foreign : Bool) → (guarded && foreign) ≡ true → (guarded ≡ true) × (foreign ≡ true)
guards true foreign e = (refl, e)
guards false foreign e = absurd cc

unguarded : (guarded foreign : Bool) → guarded ≡ true → (guarded && foreign) ≡ false → foreign ≡ false
unguarded true foreign is unseen = unseen
unguarded false foreign is unseen = absurd cc

module _ {State : Type 0} (Progresses : State → List Exchange → State → Type 0) (policy : LinkPolicy) where
  served_none : (old : State) (from : SourceState) (to : SinkState) → Progresses old [] old
      → Served Progresses policy old old from from to to (begun (record { line = max_request; total = policy.bytes }))
  served_none old from to runs = record {
    exchanges = [];
    runs = runs;
    limits = refl;
    keeps_none = refl;
    knows_end = λ e. absurd cc;
    within = omega arith;
    each = omega arith;
    no_foreign = λ guarded. All-nil _;
    passes = by from.left;
    sent = record { bytes = Appends-nil to.sent; cause = record { faults = refl; wants = refl } };
    reads = record { cause = refl; files = refl; selected = refl };
  } where
    by : (left : Option (List ℕ)) → IfSome left (λ text. PassesLines policy.bytes text (begun (record { line = max_request; total = policy.bytes })) left [])
    by None = tt
    by (Some text) = record {
      passed = [];
      rest = text;
      parts = refl;
      behind = refl;
      size = refl;
      are = inl (record { all = λ more. refl; ended = λ more. refl });
    }

  -- before the first line
  pub served_begun : (old : State) (from : SourceState) (to : SinkState) (reader : Lines) → reader ≡ begun (record { line = max_request; total = policy.bytes })
      → Progresses old [] old → Served Progresses policy old old from from to to reader
  served_begun old from to reader is runs = rw is (served_none old from to runs)

module _ {State : Type 0} (Progresses : State → List Exchange → State → Type 0) (IsBye : List ℕ → Type 0) (policy : LinkPolicy) where
  abbrev total : ℕ
  total = policy.bytes

  abbrev Ends : List ℕ → Type 0
  Ends = EndsLink policy IsBye

  -- where the lines are first ones of what was taken, and an end says so of those told
  takes_by : (reader : Lines) (left : Option (List ℕ)) (lines exchanges : List (List ℕ)) (end : SessionEnd) → reader.passed + length reader.held ≤ total
      → ((taken : List ℕ) → AreFirst total taken left lines → Begins Ends total taken left end exchanges) → (given : Option (List ℕ))
      → IfSome given (λ text. PassesLines total text reader left lines) → IfSome given (λ _. TakesLines Ends total given left end exchanges)
  takes_by reader left lines exchanges end within begun None passes = tt
  takes_by reader left lines exchanges end within begun (Some text) passes =
      let up_to = takes_up_to total text reader left lines passes within in
      record { taken = up_to.taken; takes = up_to.takes; within = up_to.within; begun = begun up_to.taken up_to.first }

  module _ (old mid : State) (from before : SourceState) (to sunk : SinkState) (reader : Lines) (served : Served Progresses policy old mid from before to sunk reader)
    where
      is_total : reader.limits.total ≡ total
      is_total = ap (λ limits. limits.total) served.limits

      module _ (next : Lines) (after : SourceState) where
        -- what the source has left is told, and the request is that of the rest
        request_exchange : (result : Result (Option Request) LineFault) → Requests reader next before after result → (text : List ℕ)
            → (passes : PassesLines total text reader before.left (lines_exchanged served.exchanges))
            → TellsRequest reader next passes.rest (prepend_known next.held after.left) result
        request_exchange result requests text passes =
            let was = is_left reader.held passes.rest before.left passes.behind in
            let now = left_behind before.left after.left _ was.more was.is requests.loses_none in
            subst (λ rest. TellsRequest reader next passes.rest rest result) (rest_told next after now.0 (requests.ends.knows_end served.knows_end) now.1)
            (subst (λ left. IfSome left (λ rest. TellsRequest reader next rest (rest_of next after) result))
            (rest_told reader before was.more served.knows_end was.is ∙ passes.behind) requests.request)

        within_next : (result : Result (Option Request) LineFault) → Requests reader next before after result → next.passed + length next.held ≤ total
        within_next result requests = omega (arith, requests.none_past, served.within, is_total)

        -- ---- the next line, and what becomes of it

        module _ (asked : Request) (requests : Requests reader next before after (Ok (Some asked))) where
          more_passed : reader.passed < next.passed
          more_passed = takes_some reader next asked requests.counts

          is_line : reader.limits.line ≡ max_request
          is_line = ap (λ limits. limits.line) served.limits

          -- over every source there is a line that has this text
          some_line : (raw : List ℕ) × IsText asked next.text raw × (next.foreign ≡ is_foreign raw)
          some_line = by asked requests.counts where
            by : (r : Request) → RequestCounts reader next (Ok (Some r)) → (raw : List ℕ) × IsText r next.text raw × (next.foreign ≡ is_foreign raw)
            by Whole whole = (whole.raw, (omega (arith, whole.short, is_line), whole.text), whole.foreign)
            by Long counts = (counts.raw, omega (arith, counts.long, is_line), counts.foreign)

          -- The line has this text, and it was passed behind the others.
          record IsNext (raw : List ℕ) : Type 0 where
            is : IsText asked next.text raw
            foreign : next.foreign ≡ is_foreign raw
            passes : IfSome from.left (λ text. PassesLines total text next after.left (lines_exchanged served.exchanges ++ raw ∷ []))

          is_next : (raw : List ℕ) (left : Option (List ℕ)) → from.left ≡ left → IsText asked next.text raw → next.foreign ≡ is_foreign raw
              → IfSome left (λ text. PassesLines total text next after.left (lines_exchanged served.exchanges ++ raw ∷ [])) → IsNext raw
          is_next raw left e is foreign passes = record {
            is = is;
            foreign = foreign;
            passes = subst (λ given. IfSome given (λ text. PassesLines total text next after.left (lines_exchanged served.exchanges ++ raw ∷ []))) (sym e) passes;
          }

          -- what a handler does with the line
          module _ (raw : List ℕ) (line : IsNext raw) (new : State) (replied : SinkState) (source : ReadsFrom before after false) (keeps : next.fault ≡ None)
            where
              within : next.passed + length next.held ≤ total
              within = within_next (Ok (Some asked)) requests

              abbrev lines : List (List ℕ)
              lines = lines_exchanged served.exchanges ++ raw ∷ []

              module _ (cut : Result (Unit {0}) Cut) (tells : TellsOne (λ more. Progresses old more new) served.exchanges raw sunk replied cut) where
                abbrev one_exchange : List Exchange
                one_exchange = served.exchanges ++ tells.one ∷ []

                each_one : length one_exchange ≤ next.passed
                each_one = omega (arith, length-append served.exchanges (tells.one ∷ []), served.each, more_passed)

                no_foreign_one : (policy.guarded && next.foreign) ≡ false → RepliesToNoForeign policy one_exchange
                no_foreign_one passes guarded =
                    All-append (λ t. is_foreign t.line ≡ false) served.exchanges (tells.one ∷ []) (served.no_foreign guarded)
                    (All-cons (λ t. is_foreign t.line ≡ false) tells.one [] (ap is_foreign tells.line ∙ sym line.foreign
                    ∙ unguarded policy.guarded next.foreign guarded passes) (All-nil _))

                sent_one : Sends to replied (text_exchanged served.exchanges ++ tells.one.reply) cut
                sent_one = Sends-then to sunk replied (text_exchanged served.exchanges) tells.one.reply cut served.sent tells.sent

                passes_one : IfSome from.left (λ text. PassesLines total text next after.left (lines_exchanged one_exchange))
                passes_one =
                    subst (λ exchanges. IfSome from.left (λ text. PassesLines total text next after.left exchanges))
                    (sym (lines_more served.exchanges tells.one raw tells.line)) line.passes

                begun_one : (end : SessionEnd) → ((taken : List ℕ) → AreFirst total taken after.left (lines_exchanged one_exchange)
                    → Begins Ends total taken after.left end (lines_exchanged one_exchange))
                    → IfSome from.left (λ _. TakesLines Ends total from.left after.left end (lines_exchanged one_exchange))
                begun_one end begun = takes_by next after.left (lines_exchanged one_exchange) (lines_exchanged one_exchange) end within begun from.left passes_one

              -- the line has its whole reply
              goes_on : (policy.guarded && next.foreign) ≡ false → TellsOne (λ more. Progresses old more new) served.exchanges raw sunk replied (Ok tt)
                  → Served Progresses policy old new from after to replied next
              goes_on unseen tells = record {
                exchanges = served.exchanges ++ tells.one ∷ [];
                runs = tells.led;
                limits = requests.limits ∙ served.limits;
                keeps_none = keeps;
                knows_end = requests.ends.knows_end served.knows_end;
                within = within;
                each = each_one (Ok tt) tells;
                no_foreign = no_foreign_one (Ok tt) tells unseen;
                passes = passes_one (Ok tt) tells;
                sent = rw (text_more served.exchanges tells.one) (sent_one (Ok tt) tells);
                reads = ReadsFrom-then from before after false served.reads source;
              }

              -- a fault cut the reply to the line
              cuts_last : (cut : Cut) (tells : TellsOne (λ more. Progresses old more new) served.exchanges raw sunk replied (Err cut))
                  → CutsLast to replied (one_exchange (Err cut) tells)
              cuts_last cut tells = record {
                front = served.exchanges;
                last = tells.one;
                parts = refl;
                size = tells.sent.bytes.0;
                short = tells.sent.bytes.1;
                sent = Appends-trans to.sent sunk.sent replied.sent (text_exchanged served.exchanges) (take tells.sent.bytes.0 tells.one.reply)
                    served.sent.bytes tells.sent.bytes.2;
              }

              ends_cut : (policy.guarded && next.foreign) ≡ false → (cut : Cut) → TellsOne (λ more. Progresses old more new) served.exchanges raw sunk replied (Err cut)
                  → ServesOne Progresses IsBye policy old new from after to replied next (end_by_answer (Err (reply.Out cut)))
              ends_cut unseen write.Failed tells = record {
                exchanges = one_exchange (Err write.Failed) tells;
                runs = tells.led;
                each = omega (arith, each_one (Err write.Failed) tells, within);
                no_foreign = no_foreign_one (Err write.Failed) tells unseen;
                lines = begun_one (Err write.Failed) tells WriteFault (λ taken first. first);
                wanted = false;
                wants = λ e. absurd cc;
                sent = cuts_last write.Failed tells;
                reads = ReadsFrom-then from before after false served.reads source;
                writes = (sent_one (Err write.Failed) tells).cause;
              }
              ends_cut unseen (write.OutOfMemory want) tells = record {
                exchanges = one_exchange (Err (write.OutOfMemory want)) tells;
                runs = tells.led;
                each = omega (arith, each_one (Err (write.OutOfMemory want)) tells, within);
                no_foreign = no_foreign_one (Err (write.OutOfMemory want)) tells unseen;
                lines = begun_one (Err (write.OutOfMemory want)) tells (OutOfMemory want) (λ taken first. first);
                wanted = true;
                wants = λ e. refl;
                sent = cuts_last (write.OutOfMemory want) tells;
                reads = ReadsFrom-then from before after false served.reads source;
                writes = (sent_one (Err (write.OutOfMemory want)) tells).cause;
              }

              -- the line isn't told, and nothing was sent
              ends_silently : (end : SessionEnd) → ((taken : List ℕ) → AreFirst total taken after.left lines
                  → Begins Ends total taken after.left end (lines_exchanged served.exchanges)) → Progresses old served.exchanges new → replied ≡ sunk
                  → is_read_fault end ≡ false → is_write_fault end ≡ false → SendsReplies end false to sunk served.exchanges
                  → Serves Progresses IsBye policy old new from after to replied end
              ends_silently end begun runs same no_read no_write sent = record {
                exchanges = served.exchanges;
                runs = runs;
                each = omega (arith, served.each, more_passed, within);
                no_foreign = served.no_foreign;
                lines = takes_by next after.left lines (lines_exchanged served.exchanges) end within begun from.left line.passes;
                wanted = false;
                wants = λ e. absurd cc;
                sent = rw same sent;
                reads = rw no_read (ReadsFrom-then from before after false served.reads source);
                writes = rw (same, no_write) served.sent.cause;
              }

              -- as the line was answered
              serves_one : (policy.guarded && next.foreign) ≡ false → (answer : Result Answered ReplyFault)
                  → AnswersLine (λ more. Progresses old more new) IsBye served.exchanges raw sunk replied answer
                  → ServesOne Progresses IsBye policy old new from after to replied next (end_by_answer answer)
              serves_one unseen (Ok Replied) answers = goes_on unseen answers
              serves_one unseen (Ok Bye) answers =
                  ends_silently Ended (λ taken first. inl (record { bye = raw; is_bye = inl answers.0; first = first })) answers.1 answers.2
                  refl refl served.sent.bytes
              serves_one unseen (Err (reply.Out cut)) answers = ends_cut unseen cut answers
              serves_one unseen (Err (reply.OutOfMemory want)) answers =
                  ends_silently (OutOfMemory want) (λ taken first. first_without total taken after.left (lines_exchanged served.exchanges) (raw ∷ []) first) answers.0 answers.1
                  refl refl served.sent.bytes

          -- the line that was passed, where the source tells it
          next_line : (raw : List ℕ) × IsNext raw
          next_line = by from.left refl served.passes where
            by : (left : Option (List ℕ)) → from.left ≡ left → IfSome left (λ text. PassesLines total text reader before.left (lines_exchanged served.exchanges))
                → (raw : List ℕ) × IsNext raw
            by None told passes = (some_line.0, is_next some_line.0 None told some_line.1 some_line.2 tt)
            by (Some text) told passes =
                let takes = request_exchange (Ok (Some asked)) requests text passes in
                let is = first_text reader next passes.rest (prepend_known next.held after.left) asked is_line takes in
                let line = takes_line total text reader before.left (lines_exchanged served.exchanges) passes next after.left asked is_total takes in
                (raw_line passes.rest, is_next (raw_line passes.rest) (Some text) told is takes.foreign line)

          -- the next line was answered
          pub serves_next : (new : State) (replied : SinkState) (answer : Result Answered ReplyFault) → ReadsFrom before after false → next.fault ≡ None
              → (policy.guarded && next.foreign) ≡ false
              → ((exchanges : List Exchange) (raw : List ℕ) → IsText asked next.text raw → Progresses old exchanges mid
              → AnswersLine (λ more. Progresses old more new) IsBye exchanges raw sunk replied answer)
              → ServesOne Progresses IsBye policy old new from after to replied next (end_by_answer answer)
          serves_next new replied answer source keeps unseen answers =
              serves_one next_line.0 next_line.1 new replied source keeps unseen answer
              (answers served.exchanges next_line.0 next_line.1.is served.runs)

          -- the next line is of another protocol, and the link is guarded
          pub serves_foreign : ReadsFrom before after false → next.fault ≡ None → (policy.guarded && next.foreign) ≡ true
              → Serves Progresses IsBye policy old mid from after to sunk Ended
          serves_foreign source keeps seen =
              let both = guards policy.guarded next.foreign seen in
              ends_silently next_line.0 next_line.1 mid sunk source keeps Ended
              (λ taken first. inl (record { bye = next_line.0; is_bye = inr (both.0, sym next_line.1.foreign ∙ both.1); first = first })) served.runs refl
              refl refl served.sent.bytes

        -- ---- there is no next line

        -- all that was told stays, and nothing was sent
        ends_input : (end : SessionEnd) → IfSome from.left (λ _. TakesLines Ends total from.left after.left end (lines_exchanged served.exchanges))
            → ReadsFrom before after (is_read_fault end) → is_write_fault end ≡ false → SendsReplies end false to sunk served.exchanges
            → Serves Progresses IsBye policy old mid from after to sunk end
        ends_input end lines source no_write sent = record {
          exchanges = served.exchanges;
          runs = served.runs;
          each = omega (arith, served.each, served.within);
          no_foreign = served.no_foreign;
          lines = lines;
          wanted = false;
          wants = λ e. absurd cc;
          sent = sent;
          reads = ReadsFrom-then from before after (is_read_fault end) served.reads source;
          writes = rw no_write served.sent.cause;
        }

        -- the input has ended
        pub serves_all : Requests reader next before after (Ok None) → ReadsFrom before after false → Serves Progresses IsBye policy old mid from after to sunk Ended
        serves_all requests source = ends_input Ended (by from.left served.passes) source refl served.sent.bytes where
          by : (left : Option (List ℕ)) → IfSome left (λ text. PassesLines total text reader before.left (lines_exchanged served.exchanges))
              → IfSome left (λ _. TakesLines Ends total left after.left Ended (lines_exchanged served.exchanges))
          by None passes = tt
          by (Some text) passes =
              let within : reader.passed < total =
              omega (arith, requests.counts.within, requests.counts.counts.passed, ap (λ l. l.total) requests.limits, is_total) in
              let all = takes_all total text reader before.left (lines_exchanged served.exchanges) passes next after.left requests.counts.nothing within
              (request_exchange (Ok None) requests text passes) in
              record { taken = passes.passed; takes = all.takes; within = omega (arith, all.is_all.within); begun = inr (all.is_all, all.all) }

        -- a read failed
        serves_failed : Requests reader next before after (Err line.Read) → ReadsFrom before after true
            → Serves Progresses IsBye policy old mid from after to sunk ReadFault
        serves_failed requests source = ends_input ReadFault (by from.left served.passes) source refl served.sent.bytes where
          by : (left : Option (List ℕ)) → IfSome left (λ text. PassesLines total text reader before.left (lines_exchanged served.exchanges))
              → IfSome left (λ _. TakesLines Ends total left after.left ReadFault (lines_exchanged served.exchanges))
          by None passes = tt
          by (Some text) passes =
              let fails = requests.counts in
              let at = ends_at total text reader before.left (lines_exchanged served.exchanges) passes next after.left fails.counts.passed fails.part
              (request_exchange (Err line.Read) requests text passes) in
              let within : length at.taken < total = omega (arith, at.size, fails.within, ap (λ l. l.total) requests.limits, is_total) in
              record {
                taken = at.taken;
                takes = at.takes;
                within = omega arith;
                begun = (
                  within,
                  ⊎_elim (λ ended. ended) (λ (all : AreAll total reader passes.passed passes.rest (lines_exchanged served.exchanges)).
                      let both : true ≡ false = sym all.ended ∙ requests.ends.fails_before refl in absurd cc) at.are,
                );
              }

        -- as many bytes as the total were taken
        serves_total : Requests reader next before after (Err line.Total) → ReadsFrom before after false
            → Serves Progresses IsBye policy old mid from after to sunk TooLong
        serves_total requests source = ends_input TooLong (by from.left served.passes) source refl served.sent.bytes where
          by : (left : Option (List ℕ)) → IfSome left (λ text. PassesLines total text reader before.left (lines_exchanged served.exchanges))
              → IfSome left (λ _. TakesLines Ends total left after.left TooLong (lines_exchanged served.exchanges))
          by None passes = tt
          by (Some text) passes =
              let reaches = requests.counts in
              let within = within_next (Err line.Total) requests in
              let all_taken : total ≤ next.passed + first_lf next.held = omega (arith, reaches.taken, ap (λ l. l.total) requests.limits, is_total) in
              let exchanges = request_exchange (Err line.Total) requests text passes in
              let at = ends_at total text reader before.left (lines_exchanged served.exchanges) passes next after.left reaches.counts.passed
              (omega (arith, first_lf-le next.held)) exchanges.part in
              let size : length at.taken ≡ total = omega (arith, at.size, first_lf-le next.held) in
              record {
                taken = at.taken;
                takes = at.takes;
                within = omega arith;
                begun = (
                  size,
                  ⊎_elim (λ ended. ended) (λ (all : AreAll total reader passes.passed passes.rest (lines_exchanged served.exchanges)).
                      absurd (omega (
                        arith,
                        passes.size,
                        all.within,
                        answer_past reader.limits reader.passed passes.rest line.Total exchanges.answer,
                        is_total,
                        length-raw_line passes.rest,
                        first_lf-le passes.rest,
                        ap length all.nothing,
                      ))) at.are,
                );
              }

        -- a fault ended the lines
        pub serves_fault : (fault : LineFault) → Requests reader next before after (Err fault)
            → ReadsFrom before after (line_failed {T = Option Request} None (Err fault))
            → Serves Progresses IsBye policy old mid from after to sunk (end_by_input fault)
        serves_fault line.Read requests source = serves_failed requests source
        serves_fault line.Total requests source = serves_total requests source
        serves_fault line.TooLong requests source = absurd requests.counts
