-- How a server ends, by what became of its town and its doors.
use Rattle.std.proofs.Common.{◌≡◌, ◌≢◌, ℕ, ◌+◌, List, [], ◌∷◌, length, map, Bool, true, false, inl, inr, refl, ap, ap₂, sym, subst, ◌∙◌, arith, Ok, Err}
use Rattle.std.specs.Prelude.{◌||◌, Option, cond, is_some, ltb, Result}
use Rattle.std.specs.List.{All, count_by, range_with_len}
use Rattle.std.proofs.lemmas.List.{length-map}
use Rattle.std.proofs.lemmas.List.Elements.{All-head, All-tail}
use Rattle.route_io.specs.Causes.{IsCounted, Rose}
use Rattle.route_io.specs.Files.{FileMap}
use Rattle.route_io.specs.Sinks.{SinkState, Sends}
use Rattle.route_io.specs.declared.fault.WriteFault.{WriteFault}
use Rattle.route_io.specs.declared.fault.WriteFault.TheVariants as write
use Rattle.link_doors.specs.Doors.{DoorState}
use Rattle.link_doors.specs.Towns.{AreNumbered, IsNewDoor, Listens, TownState, any_failed}
use Rattle.link_doors.specs.declared.town.TownFault.{TownFault}
use Rattle.link_doors.specs.declared.town.TownFault.TheVariants as town
use Rattle.arc_graph.specs.Graph.{Graph, Match, Weights, network}
use Rattle.out_of_memory.specs.declared.OutOfMemory.{OutOfMemory}
use Rattle.road_network.specs.Network.{Network}
use Rattle.command_words.specs.Words.{Asks, Fails, asked}
use Rattle.command_words.specs.declared.commands.Command.{Command}
use Rattle.command_words.specs.declared.commands.ServeWords.{ServeWords}
use Rattle.command_words.specs.declared.fault.WordsFault.{WordsFault}
use Rattle.command_words.specs.declared.fault.WordsFault.TheVariants as reading
use Rattle.route_lanes.proofs.VisitLemmas.{count_first}
use Rattle.route_lanes.specs.Serving.{DoorLane, IsDoorLane, ServesLanes}
use Rattle.route_lanes.specs.declared.serve.Served.{Served}
use Rattle.still_commands.specs.FilesRead.{FilesStop, at_file, disagree, failed, faulty, starved, unjoined}
use Rattle.still_commands.specs.declared.stop.Stop.TheVariants as stop
use Rattle.still_commands.specs.Outcome.{Outcome, done, no_memory, status_of, town_failed}
use Rattle.still_commands.specs.Stops.{Replies, outcome_of, stop_of_town}
use Rattle.still_commands.proofs.RunsLemmas.{nothing_sent, replies_so, sent_part, sent_whole, starves, stays}
use Rattle.route_top.specs.Lanes.{graph_of, weights_of}
use Rattle.route_top.specs.Serve.{ServeReplies, ServesDoors, ServesTown, EndsTown, TownByWords, asks, left_alone, listened, serve_policy, ready_reply, refused, served, served_by, served_outcome, serves, unasked, unheard, unread, unready}

-- ---- what is sent

module _ (asked : ServeWords) (out replied : SinkState) where
  -- all was said, and the run ends in one of these ways
  said_whole : Sends {T = Unit {0}} out replied (ready_reply asked.lanes) (Ok tt) → (wanted broke : Bool)
      → Replies (ServeReplies asked) out replied (served_by wanted broke)
  said_whole sent true other = replies_so (ServeReplies asked) no_memory (ready_reply asked.lanes) out replied no_memory (inr refl)
      (sent_whole no_memory (ready_reply asked.lanes) out replied (record { no_fault = refl; no_want = refl }) refl sent)
  said_whole sent false true = replies_so (ServeReplies asked) town_failed (ready_reply asked.lanes) out replied town_failed (inr refl)
      (sent_whole town_failed (ready_reply asked.lanes) out replied (record { no_fault = refl; no_want = refl }) refl sent)
  said_whole sent false false = replies_so (ServeReplies asked) done (ready_reply asked.lanes) out replied done refl
      (sent_whole done (ready_reply asked.lanes) out replied (record { no_fault = refl; no_want = refl }) refl sent)

  said_by : Sends {T = Unit {0}} out replied (ready_reply asked.lanes) (Ok tt) → (result : Result Served OutOfMemory)
      → Replies (ServeReplies asked) out replied (served_outcome result)
  said_by sent (Ok tally) = said_whole sent (is_some tally.want) (ltb 0 tally.failed)
  said_by sent (Err fault) = said_whole sent true true

  doors_reply : {net : Network} {doors after : List DoorState} {outcome : Outcome} → ServesDoors asked net doors after out replied outcome
      → Replies (ServeReplies asked) out replied outcome
  doors_reply (unready write.Failed sent same) = replies_so (ServeReplies asked) done (ready_reply asked.lanes) out replied _ refl
      (sent_part done (ready_reply asked.lanes) out replied write.Failed sent)
  doors_reply (unready (write.OutOfMemory want) sent same) = replies_so (ServeReplies asked) done (ready_reply asked.lanes) out replied _ refl
      (sent_part done (ready_reply asked.lanes) out replied (write.OutOfMemory want) sent)
  doors_reply (served result sent lanes) = said_by sent result

-- what a server sends, by what became of its town
pub town_replies : (asked : ServeWords) (net : Network) (old new : TownState) (out replied : SinkState) (outcome : Outcome)
    → ServesTown asked net old new out replied outcome → Replies (ServeReplies asked) out replied outcome
town_replies asked net old new out replied outcome (unheard same nothing) =
    subst (λ (sink : SinkState). Replies (ServeReplies asked) out sink no_memory) (sym nothing) (starves (ServeReplies asked) out (inl refl))
town_replies asked net old new out replied outcome (refused faults rose becomes nothing) =
    subst (λ (sink : SinkState). Replies (ServeReplies asked) out sink town_failed) (sym nothing)
    (λ folder. nothing_sent (ServeReplies asked) town_failed folder folder out (record { no_fault = refl; no_want = refl }) (inl refl) (stays folder))
town_replies asked net old new out replied outcome (listened mid doors after hands does back) = doors_reply asked out replied does

-- a town that doesn't listen ends the run
pub not_listened : (asked : ServeWords) (net : Network) (old new : TownState) (out : SinkState) (fault : TownFault) (lanes links : ℕ)
    → Listens old new lanes links (Err fault) → ServesTown asked net old new out out (outcome_of (stop_of_town fault))
not_listened asked net old new out town.Failed lanes links is = refused is.0 is.1 is.2 refl
not_listened asked net old new out (town.OutOfMemory want) lanes links is = unheard is refl

-- doors that weren't asked for a link, since it couldn't be said that links may come in
pub not_ready : (asked : ServeWords) (net : Network) (doors : List DoorState) (out replied : SinkState) (fault : WriteFault)
    → Sends {T = Unit {0}} out replied (ready_reply asked.lanes) (Err fault) → ServesDoors asked net doors doors out replied (outcome_of (stop.Out fault))
not_ready asked net doors out replied write.Failed sent = unready write.Failed sent refl
not_ready asked net doors out replied (write.OutOfMemory want) sent = unready (write.OutOfMemory want) sent refl

-- doors that were served over a graph and weights of its arcs were so over the network of both
pub serves_over : (asked : ServeWords) (g : Graph) (w : Weights) → Match g w → (doors after : List DoorState) (out replied : SinkState)
    (result : Result Served OutOfMemory) → Sends {T = Unit {0}} out replied (ready_reply asked.lanes) (Ok tt)
    → ServesLanes g w asked.epoch asked.limits.budget serve_policy doors after result
    → ServesDoors asked (network g w) doors after out replied (served_outcome result)
serves_over asked g w matched doors after out replied result sent lanes =
    let by : ℕ → Weights = λ n. record { criteria = n; states = w.states } in
    let whole : w ≡ weights_of (network g w) = ap by matched.criteria in
    served result sent (subst (λ v. ServesLanes g v asked.epoch asked.limits.budget serve_policy doors after result) whole lanes)

-- ---- the places of doors

same_places : (lanes : List DoorLane) → All IsDoorLane lanes
    → map (λ (door : DoorState). door.place) (map (λ lane. lane.after) lanes) ≡ map (λ (door : DoorState). door.place) (map (λ lane. lane.before) lanes)
same_places [] all = refl
same_places (lane ∷ lanes) all =
    let is = All-head IsDoorLane lane lanes all in
    let place : lane.after.place ≡ lane.before.place = ap (λ (door : DoorState). door.place) is.links in
    ap₂ ◌∷◌ place (same_places lanes (All-tail IsDoorLane lane lanes all))

module _ (asked : ServeWords) (net : Network) (doors after : List DoorState) (out replied : SinkState) where
  places_stay : {outcome : Outcome} → ServesDoors asked net doors after out replied outcome
      → map (λ (door : DoorState). door.place) after ≡ map (λ (door : DoorState). door.place) doors
  places_stay (unready fault sent same) = ap (map (λ (door : DoorState). door.place)) same
  places_stay (served result sent lanes) =
      ap (map (λ (door : DoorState). door.place)) lanes.doors_after ∙ same_places (lanes.operator ∷ lanes.sessions) lanes.in_order
      ∙ sym (ap (map (λ (door : DoorState). door.place)) lanes.doors_before)

  -- there are as many doors afterwards
  pub as_many_doors : {outcome : Outcome} → ServesDoors asked net doors after out replied outcome → length after ≡ length doors
  as_many_doors does =
      sym (length-map after (λ (door : DoorState). door.place)) ∙ ap length (places_stay does) ∙ length-map doors (λ (door : DoorState). door.place)

  -- each at its place
  pub still_numbered : {outcome : Outcome} → ServesDoors asked net doors after out replied outcome → AreNumbered doors → AreNumbered after
  still_numbered does numbered = places_stay does ∙ numbered ∙ ap (range_with_len 0) (sym (as_many_doors does))

-- ---- the count of a town

-- no new door has failed
none_failed : (links : ℕ) (doors : List DoorState) → All (IsNewDoor links) doors → any_failed doors ≡ false
none_failed links [] all = refl
none_failed links (door ∷ doors) all =
    let no_faults = (All-head (IsNewDoor links) door doors all).no_faults in
    let rest = none_failed links doors (All-tail (IsNewDoor links) door doors all) in
    ap₂ ◌||◌ (ap (λ (n : ℕ). ltb 0 n) no_faults) rest

-- whether a door failed, by its count
failed_by : (failed : Bool) (before after : ℕ) → before ≡ 0 → IsCounted failed before after → ltb 0 after ≡ failed
failed_by true before after zero rose = let up = rose.1 in let e : ltb 0 after ≡ true = grind (arith, zero, up) in e
failed_by false before after zero stands = ap (λ (n : ℕ). ltb 0 n) (stands ∙ zero)

-- whether the first failed or any of so many
either : (failed : Bool) (n : ℕ) → (failed || ltb 0 n) ≡ ltb 0 (cond failed 1 0 + n)
either true n =
    let more : ltb 0 (1 + n) ≡ true = grind arith in
    sym more
either false n =
    let same : n ≡ 0 + n = omega arith in
    ap (λ (k : ℕ). ltb 0 k) same

-- whether any of these lanes failed
any_by : (lanes : List DoorLane) (links : ℕ) → All IsDoorLane lanes → All (IsNewDoor links) (map (λ lane. lane.before) lanes)
    → any_failed (map (λ lane. lane.after) lanes) ≡ ltb 0 (count_by (λ lane. lane.failed) lanes)
any_by [] links all fresh = refl
any_by (lane ∷ lanes) links all fresh =
    let before = map (λ (l : DoorLane). l.before) lanes in
    let is = All-head IsDoorLane lane lanes all in
    let new = All-head (IsNewDoor links) lane.before before fresh in
    let rest = any_by lanes links (All-tail IsDoorLane lane lanes all) (All-tail (IsNewDoor links) lane.before before fresh) in
    let one = failed_by lane.failed lane.before.faults lane.after.faults new.no_faults is.cause in
    ap₂ ◌||◌ one rest ∙ either lane.failed (count_by (λ (l : DoorLane). l.failed) lanes)
    ∙ ap (λ (n : ℕ). ltb 0 n) (sym (count_first (λ (l : DoorLane). l.failed) lane lanes))

-- a count that rose and didn't in one: it did
counted : (failed : Bool) (before after : ℕ) → IsCounted failed before after → (failed ≡ true → Rose before after) × (failed ≡ false → after ≡ before)
counted true before after rose = (λ yes. rose, λ no. cc)
counted false before after stands = (λ yes. cc, λ no. stands)

-- whether a door failed, by how the run ends
ten_by : (wanted broke : Bool) → status_of (served_by wanted broke) ≡ 10 → broke ≡ true
ten_by true other ten = cc
ten_by false true ten = refl
ten_by false false ten = cc

zero_by : (wanted broke : Bool) → status_of (served_by wanted broke) ≢ 10 → status_of (served_by wanted broke) ≢ 9 → broke ≡ false
zero_by true other not_ten not_nine = absurd (not_nine refl)
zero_by false true not_ten not_nine = absurd (not_ten refl)
zero_by false false not_ten not_nine = refl

module _ (asked : ServeWords) (net : Network) (links : ℕ) (doors after : List DoorState) (fresh : All (IsNewDoor links) doors) (out replied : SinkState) where
  -- the failed doors of lanes that were served
  any_served : (tally : Served) → ServesLanes (graph_of net) (weights_of net) asked.epoch asked.limits.budget serve_policy doors after (Ok tally)
      → any_failed after ≡ ltb 0 tally.failed
  any_served tally lanes =
      let all = lanes.operator ∷ lanes.sessions in
      let new = subst (All (IsNewDoor links)) lanes.doors_before fresh in
      ap any_failed lanes.doors_after ∙ any_by all links lanes.in_order new ∙ ap (λ (n : ℕ). ltb 0 n) (sym lanes.finishes.failed)

  -- a run that ends by the town has a failed door
  failed_door : {outcome : Outcome} → ServesDoors asked net doors after out replied outcome → status_of outcome ≡ 10 → any_failed after ≡ true
  failed_door (unready write.Failed sent same) ten = cc
  failed_door (unready (write.OutOfMemory want) sent same) ten = cc
  failed_door (served (Ok tally) sent lanes) ten = any_served tally lanes ∙ ten_by (is_some tally.want) (ltb 0 tally.failed) ten
  failed_door (served (Err fault) sent lanes) ten = cc

  -- one that ends otherwise has none, unless memory ran out
  no_failed_door : {outcome : Outcome} → ServesDoors asked net doors after out replied outcome → status_of outcome ≢ 10 → status_of outcome ≢ 9
      → any_failed after ≡ false
  no_failed_door (unready fault sent same) not_ten not_nine = ap any_failed same ∙ none_failed links doors fresh
  no_failed_door (served (Ok tally) sent lanes) not_ten not_nine =
      any_served tally lanes ∙ zero_by (is_some tally.want) (ltb 0 tally.failed) not_ten not_nine
  no_failed_door (served (Err fault) sent lanes) not_ten not_nine = absurd (not_nine refl)

module _ (asked : ServeWords) (net : Network) (old new : TownState) (out replied : SinkState) where
  town_rose : {outcome : Outcome} → ServesTown asked net old new out replied outcome → status_of outcome ≡ 10 → Rose old.faults new.faults
  town_rose (unheard same nothing) ten = cc
  town_rose (refused faults rose becomes nothing) ten = subst (λ (n : ℕ). Rose old.faults n) (sym (ap (λ (t : TownState). t.faults) becomes)) rose
  town_rose (listened mid doors after hands does back) ten =
      let broke = failed_door asked net asked.links doors after hands.fresh out replied does ten in
      let rose = (counted (any_failed after) mid.faults new.faults back.cause).0 broke in
      subst (λ (n : ℕ). Rose n new.faults) (ap (λ (t : TownState). t.faults) hands.town) rose

  town_still : {outcome : Outcome} → ServesTown asked net old new out replied outcome → status_of outcome ≢ 10 → status_of outcome ≢ 9
      → new.faults ≡ old.faults
  town_still (unheard same nothing) not_ten not_nine = ap (λ (t : TownState). t.faults) same
  town_still (refused faults rose becomes nothing) not_ten not_nine = absurd (not_ten refl)
  town_still (listened mid doors after hands does back) not_ten not_nine =
      let none = no_failed_door asked net asked.links doors after hands.fresh out replied does not_ten not_nine in
      (counted (any_failed after) mid.faults new.faults back.cause).1 none ∙ ap (λ (t : TownState). t.faults) hands.town

-- files that end a run don't end it by the town
stop_not_ten : {files : Option FileMap} {names : List (List ℕ)} {outcome : Outcome} → FilesStop files names outcome → status_of outcome ≢ 10
stop_not_ten (at_file name comes failed) = λ ten. cc
stop_not_ten (at_file name comes (faulty is)) = λ ten. cc
stop_not_ten (at_file name comes starved) = λ ten. cc
stop_not_ten (disagree all) = λ ten. cc
stop_not_ten unjoined = λ ten. cc

module _ (IsAsked : Command → Type 0) (files : Option FileMap) (old new : TownState) (out replied : SinkState) where
  rose_by_words : {outcome : Outcome} → TownByWords IsAsked files old new out replied outcome → status_of outcome ≡ 10 → Rose old.faults new.faults
  rose_by_words (left_alone other never same) ten = absurd (never ten)
  rose_by_words (unread same unsaid) ten = cc
  rose_by_words (serves asked is (unasked stop same unsaid)) ten = absurd (stop_not_ten stop ten)
  rose_by_words (serves asked is (asks net read town)) ten = town_rose asked net old new out replied town ten

  still_by_words : {outcome : Outcome} → TownByWords IsAsked files old new out replied outcome → status_of outcome ≢ 10 → status_of outcome ≢ 9
      → new.faults ≡ old.faults
  still_by_words (left_alone other never same) not_ten not_nine = ap (λ (t : TownState). t.faults) same
  still_by_words (unread same unsaid) not_ten not_nine = ap (λ (t : TownState). t.faults) same
  still_by_words (serves asked is (unasked stop same unsaid)) not_ten not_nine = ap (λ (t : TownState). t.faults) same
  still_by_words (serves asked is (asks net read town)) not_ten not_nine = town_still asked net old new out replied town not_ten not_nine

  -- what a run did to the town and what the status says of it
  pub town_ends : {outcome : Outcome} (status : ℕ) → TownByWords IsAsked files old new out replied outcome → status ≡ status_of outcome
      → EndsTown IsAsked files old new out replied status
  town_ends {outcome} status town is = record {
    outcome = outcome;
    by_words = town;
    status_is = is;
    failed = λ ten. rose_by_words town (sym is ∙ ten);
    stands = λ not_ten not_nine. still_by_words town (λ ten. not_ten (is ∙ ten)) (λ nine. not_nine (is ∙ nine));
  }

-- what a run did to the town by the command that its words ask for, or where none was read
module _ (words : List (List ℕ)) (files : Option FileMap) (old new : TownState) (out replied : SinkState) where
  pub town_by : {outcome : Outcome} (command : Command) → Asks words command → TownByWords (λ c. c ≡ command) files old new out replied outcome
      → TownByWords (Asks words) files old new out replied outcome
  town_by command said (left_alone none never same) = left_alone (λ s also. none s (cc)) never same
  town_by command said (unread same unsaid) = unread same unsaid
  town_by command said (serves s is town) = serves s (subst (Asks words) (sym is) said) town

  pub town_unread : (fault : WordsFault) → Fails fault (asked words) → new ≡ old → replied ≡ out
      → TownByWords (Asks words) files old new out replied (outcome_of (stop.Words fault))
  town_unread reading.Refused none same unsaid = left_alone (λ s also. cc) (λ ten. cc) same
  town_unread (reading.OutOfMemory want) none same unsaid = unread same unsaid
