-- A follower's history as the beginning of its leader's.
use Rattle.std.proofs.Common.{◌≡◌, ℕ, ◌+◌, ◌≤◌, ◌==◌, Bool, true, false, List, [], ◌∷◌, ◌++◌, Some, length, refl, sym, ap, subst, ◌∙◌, arith, append_assoc, append-nil, length-append, ◌≢◌}
use Rattle.std.specs.Prelude.{if◌then◌else◌, slice_get, All, Contains}
use Rattle.std.proofs.lemmas.Bool.Decides.{nat_tests}
use mathlib.Core.List.{IsPrefix}
use Rattle.list_laws.proofs.Members.{each_in, in_first}
use Rattle.std.proofs.lemmas.List.Elements.{Contains-append_right}
use Rattle.arc_graph.specs.declared.change.Change.{Change}
use Rattle.arc_graph.specs.History.{History, HistoryEntry, IsChange, IsHistory, IsPublished, ends_closed, max_pending, sets, sets_of}
use Rattle.arc_graph.specs.History.HistoryEntry.{Changes, Closed}
use Rattle.arc_graph.proofs.HistoryLemmas.{count_with_set, sets_of_both}
use Rattle.road_network.specs.Limits.{max_epoch}
use Rattle.epoch_store.proofs.PrefixLemmas.{prefix_same, prefix_self, prefix_shorter}
use Rattle.epoch_follow.specs.Runs.{Message, last_epoch, with_message}
use Rattle.epoch_follow.specs.Text.{FeedHead}

-- the sets of a beginning are no more
pub sets_grow : (h g : History) → IsPrefix h g → sets h ≤ sets g
sets_grow h g begins =
    let both = ap length (sets_of_both h begins.0) in
    subst (λ (later : History). sets h ≤ sets later) begins.1 (omega (arith, both, length-append (sets_of h) (sets_of begins.0)))

-- lists of one length at the front are equal, and so is what follows
parts_same : {A : Type 0} (a b c d : List A) → length a ≡ length c → a ++ b ≡ c ++ d → b ≡ d
parts_same [] b [] d same e = e
parts_same [] b (y ∷ c) d same e = absurd (omega (arith, same))
parts_same (x ∷ a) b [] d same e = absurd (omega (arith, same))
parts_same (x ∷ a) b (y ∷ c) d same e = parts_same a b c d (omega (arith, same)) cc

-- what stands behind Closed in a well-formed history is nothing
nothing_behind : (arcs criteria : ℕ) (h rest : History) → IsHistory arcs criteria (h ++ Closed ∷ rest) → sets_of rest ≡ []
nothing_behind arcs criteria h [] is = refl
nothing_behind arcs criteria h (e ∷ rest) is =
    let count = is.closed_last (length h) (at_seam h Closed (e ∷ rest)) in
    absurd (omega (arith, count, length-append h (Closed ∷ e ∷ rest))) where
      at_seam : (h : History) (e : HistoryEntry) (rest : History) → slice_get (h ++ e ∷ rest) (length h) ≡ Some e
      at_seam [] e rest = refl
      at_seam (x ∷ h) e rest = at_seam h e rest

-- where the next set is this one, the history goes on with it
next_entry : (arcs criteria : ℕ) (h rest : History) (cs : List Change) (back : List (List Change)) → IsHistory arcs criteria (h ++ rest)
    → sets_of rest ≡ cs ∷ back → IsPrefix (h ++ Changes cs ∷ []) (h ++ rest)
next_entry arcs criteria h [] cs back is e = absurd cc
next_entry arcs criteria h (Closed ∷ rest) cs back is e =
    let none = nothing_behind arcs criteria h rest is in
    let wrong : [] ≡ cs ∷ back = sym none ∙ e in
    absurd cc
next_entry arcs criteria h (Changes ds ∷ rest) cs back is e =
    let same : ds ≡ cs = cc in
    (rest, append_assoc h (Changes cs ∷ []) rest ∙ ap (λ s. h ++ Changes s ∷ rest) (sym same))

pub next_set : (arcs criteria : ℕ) (leader h : History) (front : List (List Change)) (cs : List Change) (back : List (List Change)) → IsHistory arcs criteria leader
    → IsPrefix h leader → sets_of leader ≡ front ++ cs ∷ back → length front ≡ sets h → IsPrefix (h ++ Changes cs ∷ []) leader
next_set arcs criteria leader h front cs back is begins parts count =
    let rest = begins.0 in
    let behind : sets_of rest ≡ cs ∷ back = parts_same (sets_of h) (sets_of rest) front (cs ∷ back) (sym count)
    (sym (sets_of_both h rest) ∙ ap sets_of begins.1 ∙ parts) in
    let grown = next_entry arcs criteria h rest cs back (subst (IsHistory arcs criteria) (sym begins.1) is) behind in
    subst (IsPrefix (h ++ Changes cs ∷ [])) begins.1 grown

-- ---- the sets of a feed

-- The leader has these sets, of which the first makes this epoch, and the last is number j.
pub record Carries (head : FeedHead) (leader : History) (j epoch : ℕ) (css : List (List Change)) : Type 0 where
  pub front : List (List Change)
  pub back : List (List Change)
  pub parts : sets_of leader ≡ front ++ (css ++ back)
  pub number : epoch ≡ head.first + length front + 1
  pub last : length front + length css ≡ j

module _ (head : FeedHead) (leader : History) (j epoch : ℕ) (cs : List Change) (css : List (List Change)) (carries : Carries head leader j epoch (cs ∷ css))
    (published : IsPublished head.arcs head.criteria head.first leader) where
  -- the sets behind the first one
  pub carries_others : Carries head leader j (epoch + 1) css
  carries_others = record {
    front = carries.front ++ cs ∷ [];
    back = carries.back;
    parts = carries.parts ∙ sym (append_assoc carries.front (cs ∷ []) (css ++ carries.back));
    number = omega (arith, carries.number, length-append carries.front (cs ∷ []));
    last = omega (arith, carries.last, length-append carries.front (cs ∷ []));
  }

  there : Contains (sets_of leader) cs
  there = rw carries.parts (Contains-append_right carries.front (cs ∷ (css ++ carries.back)) cs (in_first cs (css ++ carries.back)))

  -- the epoch is one that a store may have
  pub epoch_counts : (1 ≤ epoch) × (epoch ≤ max_epoch)
  epoch_counts =
      let count = ap length carries.parts in
      (omega (arith, carries.number), omega (arith, carries.number, count, length-append carries.front (cs ∷ (css ++ carries.back)), published.number))

  -- its changes aren't too many
  pub few_changes : length cs ≤ max_pending
  few_changes = each_in (λ cs. length cs ≤ max_pending) (sets_of leader) published.sizes cs there

  -- and are of arcs that there are
  pub all_changes : All (IsChange head.arcs head.criteria) cs
  all_changes = each_in (All (IsChange head.arcs head.criteria)) (sets_of leader) published.history.changes cs there

  -- with its message a follower keeps to its leader
  pub message_keeps : (h : History) (m : Message) → m.epoch ≡ epoch → m.changes ≡ cs → IsPrefix h leader → IsPrefix (with_message head h m) leader
  message_keeps h m same_epoch same_changes begins = by_test (m.epoch == last_epoch head h + 1) refl where
    by_test : (test : Bool) → (m.epoch == last_epoch head h + 1) ≡ test → IsPrefix (if test then h ++ Changes m.changes ∷ [] else h) leader
    by_test false e = begins
    by_test true e =
        let next : m.epoch ≡ last_epoch head h + 1 = grind (arith, nat_tests) in
        rw same_changes (next_set head.arcs head.criteria leader h carries.front cs (css ++ carries.back) published.history begins carries.parts
        (omega (arith, next, same_epoch, carries.number)))

  -- and has come to its epoch at least, where none was left out
  pub message_reaches : (h : History) (m : Message) → m.epoch ≡ epoch → epoch ≤ last_epoch head h + 1 → epoch ≤ last_epoch head (with_message head h m)
  message_reaches h m same_epoch near = by_test (m.epoch == last_epoch head h + 1) refl where
    by_test : (test : Bool) → (m.epoch == last_epoch head h + 1) ≡ test → epoch ≤ last_epoch head (if test then h ++ Changes m.changes ∷ [] else h)
    by_test false e =
        let other : m.epoch ≢ last_epoch head h + 1 = λ same. absurd (let yes : (m.epoch == last_epoch head h + 1) ≡ true = grind (arith, nat_tests) in cc) in
        omega (arith, other, same_epoch, near)
    by_test true e = omega (arith, count_with_set h m.changes, near)

-- a message adds a set or nothing
pub message_grows : (head : FeedHead) (h : History) (m : Message) → IsPrefix h (with_message head h m)
message_grows head h m = by_test (m.epoch == last_epoch head h + 1) where
  by_test : (test : Bool) → IsPrefix h (if test then h ++ Changes m.changes ∷ [] else h)
  by_test false = prefix_self h
  by_test true = (Changes m.changes ∷ [], refl)

-- ---- the whole history

-- a history has its end at the end
ends_last : (h : History) (e : HistoryEntry) (more : History) → ends_closed (h ++ e ∷ more) ≡ ends_closed (e ∷ more)
ends_last [] e more = refl
ends_last (x ∷ []) e more = refl
ends_last (x ∷ y ∷ h) e more = ends_last (y ∷ h) e more

-- no set and no end is nothing
nothing_more : (h : History) → sets h ≡ 0 → ends_closed h ≡ false → h ≡ []
nothing_more [] none unclosed = refl
nothing_more (Changes cs ∷ h) none unclosed = absurd (omega (arith, none))
nothing_more (Closed ∷ []) none unclosed = absurd cc
nothing_more (Closed ∷ e ∷ h) none unclosed = let rest : e ∷ h ≡ [] = nothing_more (e ∷ h) none unclosed in absurd cc

-- a part from the front with all sets of a history that isn't closed is all of it
pub all_of : (h whole : History) → IsPrefix h whole → sets whole ≤ sets h → ends_closed whole ≡ false → h ≡ whole
all_of h whole begins count unclosed = by begins.0 begins.1 where
  by : (more : History) → h ++ more ≡ whole → h ≡ whole
  by [] e = sym (append-nil h) ∙ e
  by (x ∷ more) e =
      let size : sets h + sets (x ∷ more) ≡ sets whole =
      sym (length-append (sets_of h) (sets_of (x ∷ more))) ∙ ap length (sym (sets_of_both h (x ∷ more))) ∙ ap sets e in
      let none : sets (x ∷ more) ≡ 0 = omega (arith, size, count) in
      let still = sym (ends_last h x more) ∙ ap ends_closed e ∙ unclosed in
      let nothing : x ∷ more ≡ [] = nothing_more (x ∷ more) none still in absurd cc

-- two histories of which each is a part of the other
pub one_history : (h whole : History) → IsPrefix h whole → IsPrefix whole h → h ≡ whole
one_history h whole there back =
    prefix_same h whole whole there (prefix_self whole) (omega (arith, prefix_shorter h whole there, prefix_shorter whole h back))
