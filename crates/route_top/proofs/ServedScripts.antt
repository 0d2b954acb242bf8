-- What lanes that served scripts have replied, where none of them wanted memory.
use Rattle.std.proofs.Common.{◌≡◌, ◌∙◌, ℕ, ◌^◌, ◌≤◌, Bool, true, false, cond, if◌then◌else◌, List, [], ◌∷◌, ◌++◌, Option, Some, length, take, drop, filter, map, inl, inr, refl, sym, ap, subst, arith, append_assoc, length-append, append-nil}
use Rattle.std.specs.List.{AllZip, onto_first}
use Rattle.std.specs.Prelude.{All}
use mathlib.Core.List.{IsPrefix}
use Rattle.line_text.specs.Lines.{is_lf, lines_of}
use Rattle.route_io.specs.Forms.{SureSink, sure_sink_state, sure_source_state}
use Rattle.session_core.specs.declared.end.SessionEnd.{SessionEnd}
use Rattle.session_core.specs.declared.end.SessionEnd.TheVariants.{Ended, ReadFault, WriteFault, TooLong, OutOfMemory}
use Rattle.session_core.specs.Lines.{ended_lines}
use Rattle.session_core.specs.Links.{EndsLink, Serves, TakesLines, is_starved}
use Rattle.session_core.specs.declared.context.LinkPolicy.{LinkPolicy}
use Rattle.session_core.specs.Exchanges.{Exchange, lines_exchanged, text_exchanged}
use Rattle.std.proofs.lemmas.List.{drop_all, length-map, take_all}
use Rattle.std.proofs.lemmas.List.Elements.{All-cons, All-head, All-nil, All-tail}
use Rattle.arc_graph.specs.Graph.{Graph, Match, Weights, network}
use Rattle.arc_graph.specs.History.{History, closed_history}
use Rattle.road_network.specs.Network.{Network}
use Rattle.session_core.specs.Operators.{IsOperatorBye, OperatorRun}
use Rattle.session_core.specs.Sessions.{IsSessionBye, Scene, SessionGoes}
use Rattle.link_doors.specs.Links.{LinkState}
use Rattle.route_lanes.specs.Lanes.{IsSessionLane, Lane, LaneReport, RunsLanes}
use Rattle.command_words.specs.declared.commands.LanesWords.{LanesWords}
use Rattle.route_top.specs.Lanes.{AreLinesOf, IsSessionExchange, RepliesToScripts, lanes_reply, max_script}

-- ---- the lines that an LF ends in the front of a text are the first ones of the text

-- So many of the front's lines are there, and they are the first ones of the whole.
record BeginsLines (ended : ℕ) (front whole : List (List ℕ)) : Type 0 where
  begins : IsPrefix (take ended front) whole
  count : ended ≤ length front

begins_step : (ends : Bool) (byte : ℕ) (ended : List ℕ) (front whole : List (List ℕ)) → BeginsLines (length ended) front whole
    → BeginsLines (length (cond ends (byte ∷ ended) ended)) (if ends then [] ∷ front else onto_first byte front)
    (if ends then [] ∷ whole else onto_first byte whole)
begins_step true byte ended front whole b = record { begins = (b.begins.0, ap (λ lines. [] ∷ lines) b.begins.1); count = omega (arith, b.count) }
begins_step false byte [] front whole b = record { begins = (onto_first byte whole, refl); count = omega arith }
begins_step false byte (e ∷ ended) [] whole b = absurd (omega (arith, b.count))
begins_step false byte (e ∷ ended) (line ∷ front) whole b =
    record { begins = (b.begins.0, ap (onto_first byte) b.begins.1); count = omega (arith, b.count) }

begins_lines : (taken rest : List ℕ) → BeginsLines (length (filter is_lf taken)) (lines_of taken) (lines_of (taken ++ rest))
begins_lines [] rest = record { begins = (lines_of rest, refl); count = omega arith }
begins_lines (byte ∷ taken) rest =
    begins_step (is_lf byte) byte (filter is_lf taken) (lines_of taken) (lines_of (taken ++ rest)) (begins_lines taken rest)

-- the first ones of the lines that an LF ends are the first ones of all
first_of_all : (lines : List (List ℕ)) (taken rest : List ℕ) → IsPrefix lines (ended_lines taken) → IsPrefix lines (lines_of (taken ++ rest))
first_of_all lines taken rest first =
    let all = (begins_lines taken rest).begins in
    (first.0 ++ all.0, sym (append_assoc lines first.0 all.0) ∙ ap (λ front. front ++ all.0) first.1 ∙ all.1)

-- ---- one lane, over a link that never fails

-- more bytes are taken at most than a script has
abbrev pub most_taken : ℕ
most_taken = 2 ^ 40

-- how a script is served: a line of another protocol is one like any other
abbrev pub script_policy : LinkPolicy
script_policy = record { bytes = most_taken; guarded = false }

module _ (IsBye : List ℕ → Type 0) (script rest : List ℕ) (lines : List (List ℕ)) where
  lines_at_end : (taken : List ℕ) → script ≡ taken ++ rest → rest ≡ [] → lines_of taken ≡ lines_of script
  lines_at_end taken whole none = ap lines_of (sym (whole ∙ ap (λ more. taken ++ more) none ∙ append-nil taken))

  -- the lines of a lane that ended are those of its script
  lines_are : TakesLines IsBye most_taken (Some script) (Some rest) Ended lines → AreLinesOf script IsBye lines
  lines_are takes = elim takes.begun [
    | inl bye ↦ elim bye.first [
      | inl first ↦ inr (
        bye.bye,
        bye.is_bye,
        subst (λ text. IsPrefix (lines ++ bye.bye ∷ []) (lines_of text)) (sym takes.takes)
            (first_of_all (lines ++ bye.bye ∷ []) takes.taken rest first),
      )
      | inr last ↦ inr (bye.bye, bye.is_bye, subst (λ all. IsPrefix (lines ++ bye.bye ∷ []) all) (lines_at_end takes.taken takes.takes last.0.at_end) last.1)
    ]
    | inr all ↦ inl (all.1 ∙ lines_at_end takes.taken takes.takes all.0.at_end)
  ]

-- where the link of a script isn't guarded, a line that ends it ends a session
unguarded : (IsBye : List ℕ → Type 0) (script : List ℕ) (lines : List (List ℕ)) → AreLinesOf script (EndsLink script_policy IsBye) lines
    → AreLinesOf script IsBye lines
unguarded IsBye script lines (inl all) = inl all
unguarded IsBye script lines (inr (bye, inl is, begins)) = inr (bye, is, begins)
unguarded IsBye script lines (inr (bye, inr (off, foreign), begins)) = let wrong : false ≡ true = off in absurd cc

-- What a lane that wanted no memory has replied to its script.
pub record HasReplied {State : Type 0} (Progresses : State → List Exchange → State → Type 0) (IsBye : List ℕ → Type 0) (old new : State)
    (script sent : List ℕ) : Type 0 where
  pub exchanges : List Exchange
  pub runs : Progresses old exchanges new
  pub lines : AreLinesOf script IsBye (lines_exchanged exchanges)
  pub sent_is : sent ≡ text_exchanged exchanges

module _ {State : Type 0} (Progresses : State → List Exchange → State → Type 0) (IsBye : List ℕ → Type 0) (old new : State)
    (script rest : List ℕ) (to replied : SureSink) (short : length script ≤ max_script) (unsent : to ≡ record { sent = []; wants = 0 }) where
  pub has_replied : (end : SessionEnd) → is_starved end ≡ false
      → Serves Progresses IsBye script_policy old new (sure_source_state script) (sure_source_state rest) (sure_sink_state to) (sure_sink_state replied) end
      → HasReplied Progresses IsBye old new script replied.sent
  has_replied Ended no_want serves = record {
    exchanges = serves.exchanges;
    runs = serves.runs;
    lines = unguarded IsBye script (lines_exchanged serves.exchanges)
        (lines_are (EndsLink script_policy IsBye) script rest (lines_exchanged serves.exchanges) serves.lines);
    sent_is = serves.sent ∙ ap (λ sink. sink.sent ++ text_exchanged serves.exchanges) unsent;
  }
  has_replied ReadFault no_want serves = absurd (omega (arith, serves.reads.cause.1))
  has_replied WriteFault no_want serves = absurd (omega (arith, serves.writes.faults.1))
  has_replied TooLong no_want serves =
      let takes = serves.lines in
      absurd (omega (arith, short, takes.begun.0, ap length takes.takes, length-append takes.taken rest))
  has_replied (OutOfMemory want) no_want serves = let wrong : true ≡ false = no_want in absurd cc

-- what holds of what a list is mapped to
pub all_of_map : {A B : Type 0} (P : B → Type 0) (f : A → B) (xs : List A) → All P (map f xs) → All (λ x. P (f x)) xs
all_of_map P f [] each = All-nil (λ x. P (f x))
all_of_map P f (x ∷ xs) each =
    All-cons (λ y. P (f y)) x xs (All-head P (f x) (map f xs) each) (all_of_map P f xs (All-tail P (f x) (map f xs) each))

-- ---- all lanes, over links that show themselves by what they have left and were sent

-- what was sent before anything was
abbrev pub unsent_sink : SureSink
unsent_sink = record { sent = []; wants = 0 }

module _ {L : Type 0} (script_of : L → List ℕ) (sink_of : L → SureSink) where
  abbrev pub state_of : L → LinkState
  state_of link = record { from = sure_source_state (script_of link); to = sure_sink_state (sink_of link) }

  -- the links lead from a lane's link before to the one afterwards
  served_by : {State : Type 0} (Progresses : State → List Exchange → State → Type 0) (IsBye : List ℕ → Type 0) (old new : State) (lane : Lane) (link after : L)
      → state_of link ≡ lane.before → state_of after ≡ lane.after → length (script_of link) ≤ max_script → sink_of link ≡ unsent_sink
      → is_starved lane.report.end ≡ false
      → Serves Progresses IsBye script_policy old new lane.before.from lane.after.from lane.before.to lane.after.to lane.report.end
      → HasReplied Progresses IsBye old new (script_of link) (sink_of after).sent
  served_by Progresses IsBye old new lane link after before_is after_is short unsent no_want serves =
      let Between : LinkState → LinkState → Type 0 = λ b a. Serves Progresses IsBye script_policy old new b.from a.from b.to a.to lane.report.end in
      let between : Between (state_of link) (state_of after) =
      subst (λ b. Between b (state_of after)) (sym before_is) (subst (λ a. Between lane.before a) (sym after_is) serves) in
      has_replied Progresses IsBye old new (script_of link) (script_of after) (sink_of link) (sink_of after) short unsent lane.report.end no_want between

  -- Sessions have replied to their scripts.
  pub record SessionsExchange (scene : Scene) (whole : History) (scripts sent : List (List ℕ)) : Type 0 where
    pub exchanges : List (List Exchange)
    pub each : AllZip (IsSessionExchange scene whole) scripts exchanges
    pub sent_is : sent ≡ map text_exchanged exchanges

  module _ (scene : Scene) (whole : History) where
    pub sessions_exchange : (lanes : List Lane) (olds news : List L) → map state_of olds ≡ map (λ lane. lane.before) lanes
        → map state_of news ≡ map (λ lane. lane.after) lanes → All (λ link. length (script_of link) ≤ max_script) olds
        → All (λ link. sink_of link ≡ unsent_sink) olds → All (λ lane. is_starved lane.report.end ≡ false) lanes
        → All (IsSessionLane scene script_policy whole) lanes
        → SessionsExchange scene whole (map script_of olds) (map (λ link. (sink_of link).sent) news)
    sessions_exchange [] [] [] e f short unsent no_want each = record { exchanges = []; each = tt; sent_is = refl }
    sessions_exchange [] [] (new ∷ news) e f short unsent no_want each = absurd cc
    sessions_exchange [] (old ∷ olds) news e f short unsent no_want each = absurd cc
    sessions_exchange (lane ∷ lanes) [] news e f short unsent no_want each = absurd cc
    sessions_exchange (lane ∷ lanes) (old ∷ olds) [] e f short unsent no_want each = absurd cc
    sessions_exchange (lane ∷ lanes) (old ∷ olds) (new ∷ news) e f short unsent no_want each =
        let is_short : L → Type 0 = λ link. length (script_of link) ≤ max_script in
        let is_unsent : L → Type 0 = λ link. sink_of link ≡ unsent_sink in
        let wants_none : Lane → Type 0 = λ l. is_starved l.report.end ≡ false in
        let first = served_by (SessionGoes scene) (IsSessionBye scene) (record { seen = []; named = [] })
        (record { seen = whole; named = lane.report.numbers }) lane old new (cc e) (cc f) (All-head is_short old olds short)
        (All-head is_unsent old olds unsent) (All-head wants_none lane lanes no_want) (All-head (IsSessionLane scene script_policy whole) lane lanes each).serves in
        let rest = sessions_exchange lanes olds news (cc e) (cc f) (All-tail is_short old olds short) (All-tail is_unsent old olds unsent)
        (All-tail wants_none lane lanes no_want) (All-tail (IsSessionLane scene script_policy whole) lane lanes each) in
        record {
          exchanges = first.exchanges ∷ rest.exchanges;
          each = (record { run = first.runs.run; lines = first.lines }, rest.each);
          sent_is = ap (λ sent. sent ∷ map (λ link. (sink_of link).sent) news) first.sent_is ∙ ap (λ sent. text_exchanged first.exchanges ∷ sent) rest.sent_is;
        }

  abbrev weights_by : ℕ → List (Option (List ℕ)) → Weights
  weights_by criteria states = record { criteria = criteria; states = states }

  -- all lanes have replied to their scripts
  pub scripts_exchanged : (asked : LanesWords) (g : Graph) (w : Weights) → Match g w → (olds news : List L) (reports : List LaneReport)
      → RunsLanes g w asked.epoch asked.limits.budget script_policy (map state_of olds) (map state_of news) reports
      → All (λ link. length (script_of link) ≤ max_script) olds → All (λ link. sink_of link ≡ unsent_sink) olds
      → All (λ report. is_starved report.end ≡ false) reports → (net : Network) → net ≡ network g w
      → RepliesToScripts asked net (map script_of olds) (lanes_reply 0 (map (λ link. (sink_of link).sent) news))
  scripts_exchanged asked g w matched [] news reports runs short unsent no_want net is = let none = runs.links_before in absurd cc
  scripts_exchanged asked g w matched (old ∷ olds) [] reports runs short unsent no_want net is = let none = runs.links_after in absurd cc
  scripts_exchanged asked g w matched (old ∷ olds) (new ∷ news) reports runs short unsent no_want net is =
      let is_short : L → Type 0 = λ link. length (script_of link) ≤ max_script in
      let is_unsent : L → Type 0 = λ link. sink_of link ≡ unsent_sink in
      let Wantless : LaneReport → Type 0 = λ report. is_starved report.end ≡ false in
      let lanes = runs.operator ∷ runs.sessions in
      let none_wants : All (λ (lane : Lane). Wantless lane.report) lanes =
      all_of_map Wantless (λ lane. lane.report) lanes (subst (All Wantless) runs.reported no_want) in
      let first = served_by (OperatorRun runs.origin) (IsOperatorBye runs.origin) (record { published = []; pending = [] }) runs.left runs.operator old new
      (cc (runs.links_before)) (cc (runs.links_after)) (All-head is_short old olds short) (All-head is_unsent old olds unsent)
      (All-head (λ lane. Wantless lane.report) runs.operator runs.sessions none_wants) runs.operator_lane.serves in
      let rest = sessions_exchange (record { graph = g; origin = runs.origin; budget = asked.limits.budget }) (closed_history runs.left) runs.sessions olds news
      (cc (runs.links_before)) (cc (runs.links_after)) (All-tail is_short old olds short) (All-tail is_unsent old olds unsent)
      (All-tail (λ lane. Wantless lane.report) runs.operator runs.sessions none_wants) runs.session_lanes in
      rw is (record {
        origin = runs.origin;
        first_is = runs.first_is;
        base_is = runs.base_is ∙ ap (λ n. weights_by n w.states) matched.criteria;
        operator_script = script_of old;
        session_scripts = map script_of olds;
        scripts_are = refl;
        left = runs.left;
        operator = first.exchanges;
        operator_exchange = record { run = first.runs; lines = first.lines };
        sessions = rest.exchanges;
        sessions_exchange = rest.each;
        text_is = ap (lanes_reply 0) (ap (λ sent. sent ∷ map (λ link. (sink_of link).sent) news) first.sent_is
            ∙ ap (λ sent. text_exchanged first.exchanges ∷ sent) rest.sent_is);
      })

  -- a slice that was lent out of a list, and is as long as it, is the list afterwards
  pub lent_back : (n : ℕ) (news items : List L) → n ≡ length items → length news ≡ length items → take n (news ++ drop (length news) items) ≡ news
  lent_back n news items all long =
      ap (λ rest. take n (news ++ rest)) (drop_all (length news) items (omega arith)) ∙ ap (take n) (append-nil news) ∙ take_all n news (omega arith)

  -- the same, where the links were lent out of a list, and the reports out of another
  pub links_exchanged : (asked : LanesWords) (g : Graph) (w : Weights) → Match g w → (items olds news after : List L) (n : ℕ)
      (reports kept : List LaneReport) → olds ≡ items → n ≡ length items → after ≡ take n (news ++ drop (length news) items) → kept ≡ reports
      → RunsLanes g w asked.epoch asked.limits.budget script_policy (map state_of olds) (map state_of news) reports
      → All (λ link. length (script_of link) ≤ max_script) items → All (λ link. sink_of link ≡ unsent_sink) items
      → All (λ report. is_starved report.end ≡ false) kept
      → RepliesToScripts asked (network g w) (map script_of items) (lanes_reply 0 (map (λ link. (sink_of link).sent) after))
  links_exchanged asked g w matched items olds news after n reports kept same count back same_reports runs short unsent no_want =
      let Exchange : List L → Type 0 = λ links. RepliesToScripts asked (network g w) (map script_of items) (lanes_reply 0 (map (λ link. (sink_of link).sent) links)) in
      let lanes = runs.operator ∷ runs.sessions in
      let long : length news ≡ length items = omega (
        arith,
        ap length same,
        ap length runs.links_before,
        ap length runs.links_after,
        length-map olds state_of,
        length-map news state_of,
        length-map lanes (λ lane. lane.before),
        length-map lanes (λ lane. lane.after),
      ) in
      let over = subst (λ links. RunsLanes g w asked.epoch asked.limits.budget script_policy (map state_of links) (map state_of news) reports) same runs in
      let none_wants = subst (All (λ (report : LaneReport). is_starved report.end ≡ false)) same_reports no_want in
      subst Exchange (sym (back ∙ lent_back n news items count long))
      (scripts_exchanged asked g w matched items news reports over short unsent none_wants (network g w) refl)
