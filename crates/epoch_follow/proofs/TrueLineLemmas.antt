-- A follower at a line of its leader's feed.
use Rattle.std.proofs.Common.{◌≡◌, ℕ, ◌+◌, ◌<◌, ◌≤◌, ◌^◌, Bool, true, false, List, [], ◌∷◌, ◌++◌, Some, None, ◌⊎◌, inl, inr, length, map, refl, sym, ap, subst, ◌∙◌, arith, append_assoc, append-nil, length-append}
use Rattle.std.specs.Prelude.{if◌then◌else◌, nat_lt}
use Rattle.std.proofs.lemmas.Bool.{lt-ltb}
use Rattle.std.proofs.lemmas.Bool.Decides.{nat_tests}
use Rattle.std.proofs.lemmas.List.Elements.{Contains-append_right}
use mathlib.Core.List.{IsPrefix}
use Rattle.list_laws.proofs.Members.{each_in, in_first}
use Rattle.arc_graph.specs.declared.change.Change.{Change}
use Rattle.arc_graph.specs.History.{History, IsChange, IsPublished}
use Rattle.line_text.specs.Fields.{fields_of}
use Rattle.line_text.specs.Lines.{without_cr}
use Rattle.line_text.specs.Marks.{fault_of_marks, line_fault, total_mark}
use Rattle.line_text.specs.declared.limits.LineFault.TheVariants as fault
use Rattle.epoch_follow.specs.declared.feed_end.FeedEnd.TheVariants.{Gap, Long}
use Rattle.epoch_follow.specs.Runs.{Message, Place, State, Step, begin_from, behind_begin, behind_change, behind_end, behind_first, behind_line, change_from, feed_limits, is_end, is_head, last_epoch, size_in, step_of, unless_broken, with_message}
use Rattle.epoch_follow.specs.Runs.Place.{First, Between, Within}
use Rattle.epoch_follow.specs.Runs.Step.{GoesOn, Ends}
use Rattle.epoch_follow.specs.Text.{FeedHead}
use Rattle.epoch_follow.proofs.LeaderLemmas.{Carries, all_changes, carries_others, epoch_counts, few_changes, message_keeps, message_reaches}
use Rattle.epoch_follow.proofs.WrittenLemmas.{IsHead, begin_says, begin_words, begin_written, change_says, change_words, end_says, end_words, end_written, head_says, head_words, head_written, messages_words}

-- a line that isn't too long breaks the total or nothing
pub short_fault : (total passed raw size : ℕ) → raw ≤ 1024
    → (line_fault (feed_limits total) passed raw size ≡ None) ⊎ (line_fault (feed_limits total) passed raw size ≡ Some fault.Total)
short_fault total passed raw size short = by_test (nat_lt total (passed + size)) refl where
  line : nat_lt 1024 raw ≡ false
  line = grind (arith, nat_tests)

  fault_is : line_fault (feed_limits total) passed raw size ≡ fault_of_marks None (total_mark (feed_limits total) passed size)
  fault_is = ap (λ b. fault_of_marks (if b then Some (passed + 1024 + 1) else None) (total_mark (feed_limits total) passed size)) line

  by_test : (test : Bool) → nat_lt total (passed + size) ≡ test
      → (line_fault (feed_limits total) passed raw size ≡ None) ⊎ (line_fault (feed_limits total) passed raw size ≡ Some fault.Total)
  by_test true e = inr (fault_is ∙ ap (λ b. fault_of_marks None (if b then Some (total + 1) else None)) e)
  by_test false e = inl (fault_is ∙ ap (λ b. fault_of_marks None (if b then Some (total + 1) else None)) e)

-- Where `Near` holds, no epoch is left out between the follower's history and what comes next.
module _ (head : FeedHead) (leader : History) (j : ℕ) (Near : Type 0) where
  -- The feed begins.
  pub record OnFirst (h : History) (lines : List (List ℕ)) : Type 0 where
    pub epoch : ℕ
    pub css : List (List Change)
    pub carries : Carries head leader j epoch css
    pub near : Near → epoch ≤ last_epoch head h + 1
    pub to_come : lines ≡ head_words head ∷ messages_words epoch css

  -- Messages are to come, or none.
  pub record OnBetween (h : History) (lines : List (List ℕ)) : Type 0 where
    pub epoch : ℕ
    pub css : List (List Change)
    pub carries : Carries head leader j epoch css
    pub near : Near → epoch ≤ last_epoch head h + 1
    pub to_come : lines ≡ messages_words epoch css

  -- Some changes of a message have come, and others are to come.
  pub record OnWithin (m : Message) (h : History) (lines : List (List ℕ)) : Type 0 where
    pub cs : List Change
    pub css : List (List Change)
    pub carries : Carries head leader j m.epoch ((m.changes ++ cs) ∷ css)
    pub due : m.due ≡ length (m.changes ++ cs)
    pub near : Near → m.epoch ≤ last_epoch head h + 1
    pub to_come : lines ≡ map change_words cs ++ (end_words m.epoch ∷ messages_words (m.epoch + 1) css)

  -- at this place these lines of the leader's feed are to come
  abbrev pub IsOn : History → Place → List (List ℕ) → Type 0
  IsOn h First lines = OnFirst h lines
  IsOn h Between lines = OnBetween h lines
  IsOn h (Within m) lines = OnWithin m h lines

  -- a step leads to the next line, or the feed is too long or leaves an epoch out
  abbrev pub Fares : List (List ℕ) → Step → Type 0
  Fares lines (GoesOn h place) = IsPrefix h leader × IsOn h place lines
  Fares lines (Ends end) = (end ≡ Long) ⊎ (Near → ⊥)

  -- What the next line of the feed does.
  pub record FaresOn (n : ℕ) (h : History) (place : Place) (line : List ℕ) (lines : List (List ℕ)) : Type 0 where
    pub short : length line ≤ 1024
    pub fares : Fares lines (behind_line head n h place (fields_of (without_cr line)))

  module _ (is : IsHead head) (published : IsPublished head.arcs head.criteria head.first leader) (n : ℕ) (h : History) (begins : IsPrefix h leader)
      (line : List ℕ) (lines : List (List ℕ)) where
    fares_first : OnFirst h (line ∷ lines) → FaresOn n h First line lines
    fares_first on =
        let this : line ≡ head_words head = let e = on.to_come in cc in
        let others : lines ≡ messages_words on.epoch on.css = let e = on.to_come in cc in
        let step : behind_line head n h First (fields_of (without_cr line)) ≡ GoesOn h Between =
        ap (λ l. behind_first n h (is_head head (fields_of (without_cr l)))) this ∙ ap (behind_first n h) (head_says head is) in
        record {
          short = subst (λ l. length l ≤ 1024) (sym this) (head_written head is).short;
          fares = subst (Fares lines) (sym step)
              (begins, record { epoch = on.epoch; css = on.css; carries = on.carries; near = on.near; to_come = others });
        }

    fares_begin : (epoch : ℕ) (css : List (List Change)) → Carries head leader j epoch css → (Near → epoch ≤ last_epoch head h + 1)
        → line ∷ lines ≡ messages_words epoch css → FaresOn n h Between line lines
    fares_begin epoch [] carries near to_come = absurd cc
    fares_begin epoch (cs ∷ css) carries near to_come =
        let counts = epoch_counts head leader j epoch cs css carries published in
        let few = few_changes head leader j epoch cs css carries published in
        let this : line ≡ begin_words epoch (length cs) = cc in
        let others : lines ≡ (map change_words cs ++ end_words epoch ∷ []) ++ messages_words (epoch + 1) css = cc in
        let behind : lines ≡ map change_words cs ++ (end_words epoch ∷ messages_words (epoch + 1) css) =
        others ∙ append_assoc (map change_words cs) (end_words epoch ∷ []) (messages_words (epoch + 1) css) in
        let step : behind_line head n h Between (fields_of (without_cr line)) ≡ behind_begin head n h (Some (epoch, length cs)) =
        ap (λ l. behind_begin head n h (begin_from (fields_of (without_cr l)))) this ∙ ap (behind_begin head n h) (begin_says epoch (length cs) counts few) in
        record {
          short = subst (λ l. length l ≤ 1024) (sym this) (begin_written epoch (length cs) counts few).short;
          fares = subst (Fares lines) (sym step) (by_test behind (nat_lt (last_epoch head h + 1) epoch) refl);
        } where
          by_test : lines ≡ map change_words cs ++ (end_words epoch ∷ messages_words (epoch + 1) css) → (test : Bool)
              → nat_lt (last_epoch head h + 1) epoch ≡ test
              → Fares lines (if test then Ends (Gap n) else GoesOn h (Within (record { epoch = epoch; due = length cs; changes = [] })))
          by_test behind true e = inr (λ is_near. let below = near is_near in absurd (let no : nat_lt (last_epoch head h + 1) epoch ≡ false = grind (arith, nat_tests) in cc))
          by_test behind false e = (begins, record { cs = cs; css = css; carries = carries; due = refl; near = near; to_come = behind })

    fares_change : (m : Message) (c : Change) (cs : List Change) (css : List (List Change)) → Carries head leader j m.epoch ((m.changes ++ c ∷ cs) ∷ css)
        → m.due ≡ length (m.changes ++ c ∷ cs) → (Near → m.epoch ≤ last_epoch head h + 1)
        → line ∷ lines ≡ change_words c ∷ (map change_words cs ++ (end_words m.epoch ∷ messages_words (m.epoch + 1) css)) → FaresOn n h (Within m) line lines
    fares_change m c cs css carries due near to_come =
        let all = all_changes head leader j m.epoch (m.changes ++ c ∷ cs) css carries published in
        let ok = each_in (IsChange head.arcs head.criteria) (m.changes ++ c ∷ cs) all c (Contains-append_right m.changes (c ∷ cs) c (in_first c cs)) in
        let says = change_says head is c ok in
        let this : line ≡ change_words c = cc in
        let others : lines ≡ map change_words cs ++ (end_words m.epoch ∷ messages_words (m.epoch + 1) css) = cc in
        let joined : m.changes ++ c ∷ cs ≡ (m.changes ++ c ∷ []) ++ cs = sym (append_assoc m.changes (c ∷ []) cs) in
        let below : length m.changes < m.due = omega (arith, due, length-append m.changes (c ∷ cs)) in
        let step : behind_line head n h (Within m) (fields_of (without_cr line)) ≡ behind_change n h m (Some c) =
        ap (λ b. if b then behind_change n h m (change_from head (fields_of (without_cr line))) else behind_end head n h m (is_end m.epoch (fields_of (without_cr line))))
        (lt-ltb (length m.changes) m.due below)
        ∙ ap (λ l. behind_change n h m (change_from head (fields_of (without_cr l)))) this ∙ ap (behind_change n h m) says.says in
        record {
          short = subst (λ l. length l ≤ 1024) (sym this) says.short;
          fares = subst (Fares lines) (sym step) (
            begins,
            record {
              cs = cs;
              css = css;
              carries = subst (λ set. Carries head leader j m.epoch (set ∷ css)) joined carries;
              due = due ∙ ap length joined;
              near = near;
              to_come = others;
            },
          );
        }

    fares_end : (m : Message) (css : List (List Change)) → Carries head leader j m.epoch ((m.changes ++ []) ∷ css) → m.due ≡ length (m.changes ++ [])
        → (Near → m.epoch ≤ last_epoch head h + 1) → line ∷ lines ≡ end_words m.epoch ∷ messages_words (m.epoch + 1) css → FaresOn n h (Within m) line lines
    fares_end m css carries due near to_come =
        let counts = epoch_counts head leader j m.epoch (m.changes ++ []) css carries published in
        let fits : m.epoch < 2 ^ 32 = omega (arith, counts.1) in
        let this : line ≡ end_words m.epoch = cc in
        let others : lines ≡ messages_words (m.epoch + 1) css = cc in
        let full : nat_lt (length m.changes) m.due ≡ false = let count = due ∙ ap length (append-nil m.changes) in grind (arith, nat_tests) in
        let step : behind_line head n h (Within m) (fields_of (without_cr line)) ≡ GoesOn (with_message head h m) Between =
        ap (λ b. if b then behind_change n h m (change_from head (fields_of (without_cr line))) else behind_end head n h m (is_end m.epoch (fields_of (without_cr line)))) full
        ∙ ap (λ l. behind_end head n h m (is_end m.epoch (fields_of (without_cr l)))) this ∙ ap (behind_end head n h m) (end_says m.epoch fits) in
        record {
          short = subst (λ l. length l ≤ 1024) (sym this) (end_written m.epoch fits).short;
          fares = subst (Fares lines) (sym step) (
            message_keeps head leader j m.epoch (m.changes ++ []) css carries published h m refl (sym (append-nil m.changes)) begins,
            record {
              epoch = m.epoch + 1;
              css = css;
              carries = carries_others head leader j m.epoch (m.changes ++ []) css carries published;
              near = λ is_near. let came = message_reaches head leader j m.epoch (m.changes ++ []) css carries published h m refl (near is_near) in omega (arith, came);
              to_come = others;
            },
          );
        }

    fares_within : (m : Message) (cs : List Change) (css : List (List Change)) → Carries head leader j m.epoch ((m.changes ++ cs) ∷ css)
        → m.due ≡ length (m.changes ++ cs) → (Near → m.epoch ≤ last_epoch head h + 1)
        → line ∷ lines ≡ map change_words cs ++ (end_words m.epoch ∷ messages_words (m.epoch + 1) css) → FaresOn n h (Within m) line lines
    fares_within m [] css carries due near to_come = fares_end m css carries due near to_come
    fares_within m (c ∷ cs) css carries due near to_come = fares_change m c cs css carries due near to_come

    -- the next line of the feed
    pub fares_on : (place : Place) → IsOn h place (line ∷ lines) → FaresOn n h place line lines
    fares_on First on = fares_first on
    fares_on Between on = fares_begin on.epoch on.css on.carries on.near on.to_come
    fares_on (Within m) on = fares_within m on.cs on.css on.carries on.due on.near on.to_come

  -- the same with the limits of the feed
  pub fares_within_limits : (total size : ℕ) (state : State) (line : List ℕ) (lines : List (List ℕ))
      → FaresOn (state.number + 1) state.history state.place line lines → Fares lines (step_of head total size state line)
  fares_within_limits total size state line lines on =
      elim (short_fault total state.passed (length line) (size_in size state.passed line) on.short) [
        | inl none ↦ subst (λ f. Fares lines (unless_broken (state.number + 1) f (behind_line head (state.number + 1) state.history state.place (fields_of (without_cr line)))))
            (sym none) on.fares
        | inr past ↦ subst (λ f. Fares lines (unless_broken (state.number + 1) f (behind_line head (state.number + 1) state.history state.place (fields_of (without_cr line)))))
            (sym past) (inl refl)
      ]
