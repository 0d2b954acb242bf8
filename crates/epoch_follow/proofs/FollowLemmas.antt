-- What a follower comes to by its leader's feeds.
use Rattle.std.proofs.Common.{◌≡◌, ℕ, false, Option, ◌+◌, ◌-◌, ◌<◌, ◌≤◌, ◌^◌, List, [], ◌∷◌, ◌++◌, ◌⊎◌, inl, inr, length, map, take, drop, refl, sym, ap, subst, ◌∙◌, arith, append_assoc, append-nil, length-append, length-drop, take-append-drop}
use Rattle.std.specs.Prelude.{All, Contains}
use Rattle.std.specs.List.{flat_map, slice_range}
use Rattle.std.proofs.lemmas.List.{length-take}
use Rattle.std.proofs.lemmas.List.Elements.{All-append, All-cons, All-head, All-map, All-nil, All-tail, All-weaker, Contains-append_left, Contains-append_right}
use mathlib.Core.List.{IsPrefix}
use Rattle.list_laws.proofs.Members.{cases_push, in_first, in_none}
use Rattle.arc_graph.specs.declared.change.Change.{Change}
use Rattle.arc_graph.specs.Graph.{Graph, IsGraph}
use Rattle.arc_graph.specs.History.{History, IsChange, IsPublished, ends_closed, sets, sets_of}
use Rattle.line_text.specs.Lines.{lines_ended, lines_of}
use Rattle.line_text.proofs.WrittenLineLemmas.{IsLineText, lines_of-line}
use Rattle.epoch_follow.specs.declared.feed_end.FeedEnd.{FeedEnd}
use Rattle.epoch_follow.specs.declared.feed_end.FeedEnd.TheVariants.{Whole, Cut, Bad, Gap, Long, Read, OutOfMemory}
use Rattle.epoch_follow.specs.Followers.{ComesFrom, ComesWhole, Delivery, Follows, IsCaughtUp, begun as none_yet, then}
use Rattle.epoch_follow.specs.Runs.{FeedRun, Place, State, Step, begun, end_at, feed_run, last_epoch, run_lines, step_of, with_message}
use Rattle.epoch_follow.specs.Runs.Place.{First, Between, Within}
use Rattle.epoch_follow.specs.Runs.Step.{GoesOn, Ends}
use Rattle.epoch_follow.specs.Takes.{RunsTo, TakesBytes, TakesFeed, feed_starved, is_read}
use Rattle.epoch_follow.specs.Text.{FeedHead, feed_text, head_of, messages}
use Rattle.epoch_follow.proofs.BrokenLemmas.{BreaksOff, breaks_off, cut, fewer, more, nothing}
use Rattle.epoch_follow.proofs.LeaderLemmas.{Carries, all_changes, all_of, carries_others, epoch_counts, few_changes, message_keeps, sets_grow}
use Rattle.epoch_follow.proofs.OnWayLemmas.{AtEnd, any_step, by_step, run_grows}
use Rattle.epoch_follow.proofs.RefusalLemmas.{never_long}
use Rattle.epoch_follow.proofs.RunLemmas.{behind, run_ends, run_goes}
use Rattle.epoch_store.proofs.PrefixLemmas.{prefix_self}
use Rattle.epoch_follow.proofs.TrueLineLemmas.{Fares, IsOn, fares_on, fares_within_limits}
use Rattle.epoch_follow.proofs.WrittenLemmas.{IsHead, begin_written, change_says, change_words, end_words, end_written, ended, head_is, head_words, head_written, message_words, messages_are, messages_words}

module _ (head : FeedHead) (total : ℕ) (old new : History) (bytes : List ℕ) where
  -- what a feed led to is the history of its run, or of the run of its first lines
  pub led_by : (after : Option (List ℕ)) (end : FeedEnd) → TakesFeed head total old bytes after end new → (P : History → Type 0)
      → P (feed_run head total old bytes).history
      → ((count : ℕ) → P (run_lines head total (length bytes) (begun old) (take count (lines_of bytes))).history) → P new
  led_by after end takes P whole first = by end takes.reads takes.runs where
    by : (e : FeedEnd) → TakesBytes head total old bytes takes.taken after e new → RunsTo head total old bytes e new → P new
    by Read reads runs = subst P reads.history (first (lines_ended takes.taken))
    by (OutOfMemory want) (inl starves) runs = subst P starves.stops.leads.history (first (lines_ended starves.stops.front))
    by (OutOfMemory want) (inr none) runs = subst P (sym none.1) (first 0)
    by Whole reads runs = subst (λ r. P r.history) runs whole
    by Cut reads runs = subst (λ r. P r.history) runs whole
    by (Bad n) reads runs = subst (λ r. P r.history) runs whole
    by (Gap n) reads runs = subst (λ r. P r.history) runs whole
    by Long reads runs = subst (λ r. P r.history) runs whole

  pub run_known : (end : FeedEnd) → feed_starved end ≡ false → is_read end ≡ false → RunsTo head total old bytes end new
      → feed_run head total old bytes ≡ record { history = new; end = end }
  run_known Read remembered read runs = absurd cc
  run_known (OutOfMemory want) remembered read runs = absurd cc
  run_known Whole remembered read runs = runs
  run_known Cut remembered read runs = runs
  run_known (Bad n) remembered read runs = runs
  run_known (Gap n) remembered read runs = runs
  run_known Long remembered read runs = runs

module _ (head : FeedHead) (leader : History) (is : IsHead head) (published : IsPublished head.arcs head.criteria head.first leader) where
  -- ---- lines that break off

  -- a whole message keeps a follower to its leader, whether the line that ends it is true or not
  at_end : (j : ℕ) (Near : Type 0) (h : History) (place : Place) (lines : List (List ℕ)) → IsPrefix h leader → IsOn head leader j Near h place lines
      → AtEnd head (λ h. IsPrefix h leader) h place
  at_end j Near h First lines begins on = tt
  at_end j Near h Between lines begins on = tt
  at_end j Near h (Within m) lines begins on = λ all.
      let none : length on.cs ≡ 0 = omega (arith, all, on.due, length-append m.changes on.cs) in
      whole on.cs on.css none on.carries where
        whole : (cs : List Change) (css : List (List Change)) → length cs ≡ 0 → Carries head leader j m.epoch ((m.changes ++ cs) ∷ css)
            → IsPrefix (with_message head h m) leader
        whole [] css none carries = message_keeps head leader j m.epoch (m.changes ++ []) css carries published h m refl (sym (append-nil m.changes)) begins
        whole (c ∷ cs) css none carries = absurd (omega (arith, none))

  run_keeps : (j total size : ℕ) (Near : Type 0) (state : State) {true_lines lines : List (List ℕ)} → BreaksOff true_lines lines
      → IsPrefix state.history leader → IsOn head leader j Near state.history state.place true_lines
      → IsPrefix (run_lines head total size state lines).history leader
  run_keeps j total size Near state nothing begins on = begins
  run_keeps j total size Near state {true_lines} (cut line) begins on =
      by_step head total size (λ h. IsPrefix h leader) state line [] begins
      (any_step head total size (λ h. IsPrefix h leader) state line begins (at_end j Near state.history state.place true_lines begins on))
      (λ h place e keeps. keeps)
  run_keeps j total size Near state (more {whole} {lines} line broken) begins on =
      let fares = fares_within_limits head leader j Near total size state line whole
      (fares_on head leader j Near is published (state.number + 1) state.history begins line whole state.place on) in
      by_fares (step_of head total size state line) refl fares (λ h place keeps goes_on. run_keeps j total size Near (behind head total size state line h place) broken keeps goes_on) where
        by_fares : (s : Step) → step_of head total size state line ≡ s → Fares head leader j Near whole s
            → ((h : History) (place : Place) → IsPrefix h leader → IsOn head leader j Near h place whole
            → IsPrefix (run_lines head total size (behind head total size state line h place) lines).history leader)
            → IsPrefix (run_lines head total size state (line ∷ lines)).history leader
        by_fares (Ends end) e fares onward = rw (run_ends head total size state line lines end e) begins
        by_fares (GoesOn h place) e fares onward = rw (run_goes head total size state line lines h place e) (onward h place fares.0 fares.1)

  -- ---- all lines

  -- a run came to its end, or was too long
  abbrev pub Arrives : ℕ → FeedRun → Type 0
  Arrives j run = (run.end ≡ Long) ⊎ ((run.end ≡ Whole) × (j ≤ sets run.history))

  arrived : (j : ℕ) (state : State) (place : Place) → IsOn head leader j (Unit {0}) state.history place [] → (end_at place ≡ Whole) × (j ≤ sets state.history)
  arrived j state First on = absurd (let e = on.to_come in cc)
  arrived j state Between on = by_sets on.css on.carries on.to_come where
    by_sets : (css : List (List Change)) → Carries head leader j on.epoch css → [] ≡ messages_words on.epoch css → (Whole ≡ Whole) × (j ≤ sets state.history)
    by_sets [] carries e = (refl, omega (arith, carries.last, carries.number, on.near tt))
    by_sets (cs ∷ css) carries e = absurd cc
  arrived j state (Within m) on = absurd (by_changes on.cs on.to_come) where
    by_changes : (cs : List Change) → [] ≡ map change_words cs ++ (end_words m.epoch ∷ messages_words (m.epoch + 1) on.css) → ⊥
    by_changes [] e = absurd cc
    by_changes (c ∷ cs) e = absurd cc

  run_arrives : (j total size : ℕ) (state : State) (lines : List (List ℕ)) → IsPrefix state.history leader
      → IsOn head leader j (Unit {0}) state.history state.place lines → Arrives j (run_lines head total size state lines)
  run_arrives j total size state [] begins on = inr (arrived j state state.place on)
  run_arrives j total size state (line ∷ lines) begins on =
      let fares = fares_within_limits head leader j (Unit {0}) total size state line lines
      (fares_on head leader j (Unit {0}) is published (state.number + 1) state.history begins line lines state.place on) in
      by_fares (step_of head total size state line) refl fares (λ h place keeps goes_on. run_arrives j total size (behind head total size state line h place) lines keeps goes_on) where
        by_fares : (s : Step) → step_of head total size state line ≡ s → Fares head leader j (Unit {0}) lines s
            → ((h : History) (place : Place) → IsPrefix h leader → IsOn head leader j (Unit {0}) h place lines
            → Arrives j (run_lines head total size (behind head total size state line h place) lines))
            → Arrives j (run_lines head total size state (line ∷ lines))
        by_fares (Ends end) e (inl long) onward = rw (run_ends head total size state line lines end e) (inl long)
        by_fares (Ends end) e (inr far) onward = absurd (far tt)
        by_fares (GoesOn h place) e fares onward = rw (run_goes head total size state line lines h place e) (onward h place fares.0 fares.1)

  -- ---- the text of a feed

  changes_text : (cs : List Change) → All (IsChange head.arcs head.criteria) cs → All IsLineText (map change_words cs)
  changes_text cs all = All-map IsLineText change_words cs (All-weaker (IsChange head.arcs head.criteria) (λ c. IsLineText (change_words c))
      (λ c ok. (change_says head is c ok).text) cs all)

  messages_text : (j epoch : ℕ) (css : List (List Change)) → Carries head leader j epoch css → All IsLineText (messages_words epoch css)
  messages_text j epoch [] carries = All-nil IsLineText
  messages_text j epoch (cs ∷ css) carries =
      let counts = epoch_counts head leader j epoch cs css carries published in
      let few = few_changes head leader j epoch cs css carries published in
      let fits : epoch < 2 ^ 32 = omega (arith, counts.1) in
      let lines = All-append IsLineText (map change_words cs) (end_words epoch ∷ []) (changes_text cs (all_changes head leader j epoch cs css carries published))
      (All-cons IsLineText (end_words epoch) [] (end_written epoch fits).text (All-nil IsLineText)) in
      All-append IsLineText (message_words epoch cs) (messages_words (epoch + 1) css)
      (All-cons IsLineText _ (map change_words cs ++ end_words epoch ∷ []) (begin_written epoch (length cs) counts few).text lines)
      (messages_text j (epoch + 1) css (carries_others head leader j epoch cs css carries published))

  module _ (i j : ℕ) (counted : 1 ≤ i) (ordered : i ≤ j + 1) (there : j ≤ sets leader) where
    -- the sets of the feed
    abbrev sent : List (List Change)
    sent = slice_range (sets_of leader) (i - 1) j

    abbrev feed_words : List (List ℕ)
    feed_words = head_words head ∷ messages_words (head.first + i) sent

    text_is : feed_text head leader i j ≡ flat_map ended feed_words
    text_is = ap (λ t. t ++ messages (head.first + i) sent) (head_is head) ∙ ap (λ t. ended (head_words head) ++ t) (messages_are (head.first + i) sent)

    carries : Carries head leader j (head.first + i) sent
    carries =
        let css = sets_of leader in
        let front = take (i - 1) css in
        let rest = drop (i - 1) css in
        let size : length front ≡ i - 1 = omega (arith, length-take (i - 1) css, ordered, there, counted) in
        let count : length sent ≡ j - (i - 1) = omega (arith, length-take (j - (i - 1)) rest, length-drop (i - 1) css, there) in
        record {
          front = front;
          back = drop (j - (i - 1)) rest;
          parts = sym (ap (λ r. front ++ r) (take-append-drop (j - (i - 1)) rest) ∙ take-append-drop (i - 1) css);
          number = omega (arith, size, counted);
          last = omega (arith, size, count, ordered, counted);
        }

    all_text : All IsLineText feed_words
    all_text = All-cons IsLineText (head_words head) (messages_words (head.first + i) sent) (head_written head is).text (messages_text j (head.first + i) sent carries)

    on_first : (Near : Type 0) (h : History) → (Near → head.first + i ≤ last_epoch head h + 1) → IsOn head leader j Near h First feed_words
    on_first Near h near = record { epoch = head.first + i; css = sent; carries = carries; near = near; to_come = refl }

    -- so many lines of what came of it
    lines_keep : (total : ℕ) (old : History) (bytes : List ℕ) → IsPrefix old leader
        → (lines : List (List ℕ)) → BreaksOff feed_words lines → IsPrefix (run_lines head total (length bytes) (begun old) lines).history leader
    lines_keep total old bytes begins lines broken =
        run_keeps j total (length bytes) ⊥ (begun old) broken begins (on_first ⊥ old (λ never. absurd never))

    came : (bytes : List ℕ) → IsPrefix bytes (feed_text head leader i j) → BreaksOff feed_words (lines_of bytes)
    came bytes front = breaks_off feed_words bytes all_text (subst (IsPrefix bytes) text_is front)

    pub run_follows : (total : ℕ) (old : History) (bytes : List ℕ) → IsPrefix bytes (feed_text head leader i j) → IsPrefix old leader
        → IsPrefix (feed_run head total old bytes).history leader
    run_follows total old bytes front begins = lines_keep total old bytes begins (lines_of bytes) (came bytes front)

    pub feed_keeps : (total : ℕ) (old new : History) (bytes : List ℕ) (after : Option (List ℕ)) (end : FeedEnd) → IsPrefix bytes (feed_text head leader i j)
        → IsPrefix old leader → TakesFeed head total old bytes after end new → IsPrefix new leader
    feed_keeps total old new bytes after end front begins takes =
        led_by head total old new bytes after end takes (λ h. IsPrefix h leader) (run_follows total old bytes front begins)
        (λ count. lines_keep total old bytes begins (take count (lines_of bytes)) (fewer count (came bytes front)))

  -- ---- a whole feed

  lines_whole : (lines : List (List ℕ)) → All IsLineText lines → lines_of (flat_map ended lines) ≡ lines
  lines_whole [] all = refl
  lines_whole (line ∷ lines) all =
      ap lines_of (append_assoc line (10 ∷ []) (flat_map ended lines)) ∙ lines_of-line line (flat_map ended lines) (All-head IsLineText line lines all)
      ∙ ap (λ ls. line ∷ ls) (lines_whole lines (All-tail IsLineText line lines all))

  -- the run of a feed that came whole comes to its end, or is too long
  pub run_comes : (j total : ℕ) (old : History) (bytes : List ℕ) → j ≤ sets leader → bytes ≡ feed_text head leader 1 j → IsPrefix old leader
      → Arrives j (feed_run head total old bytes)
  run_comes j total old bytes there is_text begins =
      let ordered : 1 ≤ j + 1 = omega arith in
      let one : 1 ≤ 1 = omega arith in
      let whole : lines_of bytes ≡ feed_words 1 j one ordered there =
      ap lines_of (is_text ∙ text_is 1 j one ordered there) ∙ lines_whole (feed_words 1 j one ordered there) (all_text 1 j one ordered there) in
      let on = on_first 1 j one ordered there (Unit {0}) old (λ _. omega arith) in
      let arrives = run_arrives j total (length bytes) (begun old) (feed_words 1 j one ordered there) begins on in
      subst (Arrives j) (sym (ap (run_lines head total (length bytes) (begun old)) whole)) arrives

  -- a whole feed of all sets brings all of a history that isn't closed
  pub feed_brings_all : (total : ℕ) (old : History) → length (feed_text head leader 1 (sets leader)) ≤ total → IsPrefix old leader
      → ends_closed leader ≡ false → (feed_run head total old (feed_text head leader 1 (sets leader))).history ≡ leader
  feed_brings_all total old short begins unclosed =
      let text = feed_text head leader 1 (sets leader) in
      by (run_comes (sets leader) total old text (omega arith) refl begins) where
        by : Arrives (sets leader) (feed_run head total old (feed_text head leader 1 (sets leader)))
            → (feed_run head total old (feed_text head leader 1 (sets leader))).history ≡ leader
        by (inl long) = absurd (never_long head total old (feed_text head leader 1 (sets leader)) short long)
        by (inr came) = all_of (feed_run head total old (feed_text head leader 1 (sets leader))).history leader
            (run_follows 1 (sets leader) (omega arith) (omega arith) (omega arith) total old (feed_text head leader 1 (sets leader))
            (prefix_self (feed_text head leader 1 (sets leader))) begins)
            came.1 unclosed

  -- a feed that came whole was taken whole
  pub feed_arrives : (j : ℕ) (d : Delivery) (old new : History) → ComesWhole head leader j d → IsPrefix old leader
      → TakesFeed head d.total old d.bytes d.after d.end new → IsCaughtUp j d new
  feed_arrives j d old new comes begins takes =
      let known = run_known head d.total old new d.bytes d.end comes.remembered comes.read takes.runs in
      by_arrival (subst (Arrives j) known (run_comes j d.total old d.bytes comes.there comes.whole begins)) where
        by_arrival : Arrives j (record { history = new; end = d.end }) → IsCaughtUp j d new
        by_arrival (inl long) = absurd (comes.short long)
        by_arrival (inr came) = record { end = came.0; sets = came.1 }

-- a feed adds to the history
pub takes_grows : (head : FeedHead) (total : ℕ) (old new : History) (bytes : List ℕ) (after : Option (List ℕ)) (end : FeedEnd)
    → TakesFeed head total old bytes after end new → IsPrefix old new
takes_grows head total old new bytes after end takes =
    led_by head total old new bytes after end takes (IsPrefix old) (run_grows head total (length bytes) (begun old) (lines_of bytes))
    (λ count. run_grows head total (length bytes) (begun old) (take count (lines_of bytes)))

module _ (g : Graph) (first : ℕ) (leader old : History) (graph : IsGraph g) (published : IsPublished (length g.ends) g.criteria first leader)
    (begins : IsPrefix old leader) where
  abbrev head : FeedHead
  head = head_of g first

  is : IsHead head
  is = record { arcs = omega (arith, graph.arcs); criteria = graph.four; first = omega (arith, published.number) }

  -- each of these feeds is the leader's
  abbrev AllCome : List Delivery → Type 0
  AllCome ds = (d : Delivery) → Contains ds d → ComesFrom head leader d.bytes

  others_come : (ds : List Delivery) (d : Delivery) → AllCome (ds ++ d ∷ []) → AllCome ds
  others_come ds d come x there = come x (Contains-append_left ds (d ∷ []) x there)

  last_comes : (ds : List Delivery) (d : Delivery) → AllCome (ds ++ d ∷ []) → ComesFrom head leader d.bytes
  last_comes ds d come = come d (Contains-append_right ds (d ∷ []) d (in_first d []))

  -- the follower keeps to its leader
  pub keeps : {ds : List Delivery} {new : History} → AllCome ds → Follows head old ds new → IsPrefix new leader
  keeps come none_yet = begins
  keeps come (then {ds} {mid} {new} d follows takes) =
      let from = last_comes ds d come in
      feed_keeps head leader is published from.from from.to from.counted from.ordered from.there d.total mid new d.bytes d.after d.end from.front
      (keeps (others_come ds d come) follows) takes

  -- and has all that came whole
  pub catches_up : {ds : List Delivery} {new : History} (j : ℕ) (d : Delivery) → AllCome ds → Follows head old ds new → Contains ds d
      → ComesWhole head leader j d → IsCaughtUp j d new
  catches_up j d come none_yet there whole = absurd (in_none d there)
  catches_up j d come (then {ds} {mid} {new} last follows takes) there whole =
      elim (cases_push ds last d there) [
        | inl before ↦
            let caught = catches_up j d (others_come ds last come) follows before whole in
            let more = sets_grow mid new (takes_grows head last.total mid new last.bytes last.after last.end takes) in
            record { end = caught.end; sets = omega (arith, caught.sets, more) }
        | inr same ↦
            feed_arrives head leader is published j d mid new whole (keeps (others_come ds last come) follows)
            (subst (λ (x : Delivery). TakesFeed head x.total mid x.bytes x.after x.end new) (sym same) takes)
      ]
