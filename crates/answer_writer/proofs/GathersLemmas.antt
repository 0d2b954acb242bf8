-- Texts that are gathered on a page one after another.
use Rattle.std.proofs.Common.{◌≡◌, ℕ, ◌+◌, ◌-◌, ◌<◌, ◌≤◌, List, [], ◌∷◌, ◌++◌, Result, Ok, Err, length, take, drop, get_or, sym, ap, subst, arith, ◌∙◌}
use Rattle.std.specs.List.{between, flat_map}
use Rattle.std.proofs.lemmas.List.{append_assoc, append-nil, take_all, take_more, take-append-drop, length-append}
use Rattle.std.proofs.lemmas.List.Edits.{get_or-between, length-between}
use Rattle.std.proofs.lemmas.Grind.{flat_map-append}
use Rattle.route_io.specs.declared.fault.WriteFault.{WriteFault}
use Rattle.route_io.specs.Sinks.{OffersWhole, SinkState, Sends}
use Rattle.route_io.proofs.SendsLemmas.{Sends-then, Sends-cut}
use Rattle.answer_writer.specs.Pages.{Cuts, Gathers, Holds, IsOneWrite}

module _ (old mid new : SinkState) (before between a b : List ℕ) (first : Holds old mid (before ++ a) between) where
  -- a text, and then another
  pub Holds-then : (after : List ℕ) → Holds mid new (between ++ b) after → Holds old new (before ++ (a ++ b)) after
  Holds-then after second = record {
    front = first.front ++ second.front;
    whole = sym (append_assoc before a b) ∙ ap (λ t. t ++ b) first.whole ∙ append_assoc first.front between b
        ∙ ap (λ t. first.front ++ t) second.whole ∙ sym (append_assoc first.front second.front after);
    sent = Sends-then old mid new first.front second.front (Ok tt) first.sent second.sent;
    waits = λ short.
        let at_first = first.waits (omega (arith, short, size, length-append (before ++ a) b)) in
        let behind : between ++ b ≡ before ++ (a ++ b) = ap (λ t. t ++ b) at_first.1 ∙ append_assoc before a b in
        let then = second.waits (rw behind short) in
        (then.0 ∙ at_first.0, then.1 ∙ behind);
  }
    where
      size : length ((before ++ a) ++ b) ≡ length (before ++ (a ++ b))
      size = ap length (append_assoc before a b)

  -- of which the other was cut by a fault
  pub Holds-cut : (fault : WriteFault) → Cuts mid new (between ++ b) fault → Cuts old new (before ++ (a ++ b)) fault
  Holds-cut fault second =
      let whole : first.front ++ (between ++ b) ≡ before ++ (a ++ b) =
      sym (append_assoc first.front between b) ∙ ap (λ t. t ++ b) (sym first.whole) ∙ append_assoc before a b in
      subst (λ t. Cuts old new t fault) whole (record {
        long = omega (arith, second.long, length-append first.front (between ++ b));
        sends = Sends-then old mid new first.front (between ++ b) (Err fault) first.sent second.sends;
      })

-- a fault cut a text, and so any longer one
pub Gathers-cut : (old new : SinkState) (before a b : List ℕ) (fault : WriteFault) → Cuts old new (before ++ a) fault
    → Cuts old new (before ++ (a ++ b)) fault
Gathers-cut old new before a b fault cut =
    subst (λ t. Cuts old new t fault) (append_assoc before a b) (record {
      long = omega (arith, cut.long, length-append (before ++ a) b);
      sends = Sends-cut old new (before ++ a) b fault cut.sends;
    })

-- what the page held was sent, and then the text itself
pub Gathers-sent : (old mid new : SinkState) (before text : List ℕ) (result : Result (Unit {0}) WriteFault) → 4096 < length (before ++ text)
    → Sends {T = Unit {0}} old mid before (Ok tt) → Sends mid new text result → Gathers old new before [] text result
Gathers-sent old mid new before text (Ok done) long first second = record {
  front = before ++ text;
  whole = sym (append-nil (before ++ text));
  sent = Sends-then old mid new before text (Ok tt) first second;
  waits = λ short. absurd (omega (arith, long, short));
}
Gathers-sent old mid new before text (Err fault) long first second = record {
  long = long;
  sends = Sends-then old mid new before text (Err fault) first second;
}

-- a text, and then another, whole or in part
pub Gathers-then : (old mid new : SinkState) (before between after a b : List ℕ) (result : Result (Unit {0}) WriteFault)
    → Holds old mid (before ++ a) between → Gathers mid new between after b result → Gathers old new before after (a ++ b) result
Gathers-then old mid new before between after a b (Ok done) first second = Holds-then old mid new before between a b first after second
Gathers-then old mid new before between after a b (Err fault) first second = Holds-cut old mid new before between a b first fault second

-- what the page held is sent at last
pub Sends-held : (old mid new : SinkState) (text held : List ℕ) (result : Result (Unit {0}) WriteFault) → Holds old mid text held
    → Sends mid new held result → Sends old new text result
Sends-held old mid new text held result first last =
    subst (λ t. Sends old new t result) (sym first.whole) (Sends-then old mid new first.front held result first.sent last)

-- by one write, where it isn't longer than a page
pub one_write_held : (old mid new : SinkState) (text held : List ℕ) → Holds old mid text held → OffersWhole mid new held → IsOneWrite old new text
one_write_held old mid new text held first last short =
    let waited = first.waits short in
    subst (λ t. OffersWhole old new t) waited.1 (subst (λ s. OffersWhole s new held) waited.0 last)

-- what was cut is longer
pub one_write_cut : (old new : SinkState) (text : List ℕ) (fault : WriteFault) → Cuts old new text fault → IsOneWrite old new text
one_write_cut old new text fault cut short = absurd (omega (arith, cut.long, short))

-- ---- the texts of a list's items, one by one

module _ {X : Type 0} (text : X → List ℕ) (items : List X) (old new : SinkState) (before : List ℕ) where
  -- the texts of the first so many items were gathered
  abbrev pub HoldsFirst : ℕ → List ℕ → Type 0
  HoldsFirst count after = Holds old new (before ++ flat_map text (take count items)) after

  -- all were gathered
  pub all_held : (i : ℕ) (after : List ℕ) → length items ≤ i → HoldsFirst i after → Holds old new (before ++ flat_map text items) after
  all_held i after past held = subst (λ l. Holds old new (before ++ flat_map text l) after) (take_all i items past) held

module _ {X : Type 0} (text : X → List ℕ) (items : List X) (i : ℕ) (d item : X) (inside : i < length items) (next : item ≡ get_or items i d)
    (old mid new : SinkState) (before between : List ℕ) (held : HoldsFirst text items old mid before i between) where
  one_more : flat_map text (take i items) ++ text item ≡ flat_map text (take (i + 1) items)
  one_more =
      ap (λ x. flat_map text (take i items) ++ text x) next
      ∙ sym (ap (flat_map text) (take_more items i d inside) ∙ flat_map-append text (take i items) (get_or items i d ∷ [])
      ∙ ap (λ l. flat_map text (take i items) ++ l) (append-nil (text (get_or items i d))))

  -- one more was gathered
  pub more_held : (after : List ℕ) → Holds mid new (between ++ text item) after → HoldsFirst text items old new before (i + 1) after
  more_held after whole = subst (λ t. Holds old new (before ++ t) after) one_more (Holds-then old mid new before between _ (text item) held after whole)

  -- one more was cut by a fault
  pub cut_at : (fault : WriteFault) → Cuts mid new (between ++ text item) fault → Cuts old new (before ++ flat_map text items) fault
  cut_at fault part =
      let rest = flat_map text (drop (i + 1) items) in
      let whole : (flat_map text (take i items) ++ text item) ++ rest ≡ flat_map text items =
      ap (λ l. l ++ rest) one_more ∙ sym (flat_map-append text (take (i + 1) items) (drop (i + 1) items))
      ∙ ap (flat_map text) (take-append-drop (i + 1) items) in
      subst (λ l. Cuts old new (before ++ l) fault) whole
      (Gathers-cut old new before _ rest fault (Holds-cut old mid new before between _ (text item) held fault part))

-- ---- the texts of the items at some places of a list

module _ {X : Type 0} (text : X → List ℕ) (items : List X) (from to i : ℕ) (there : to ≤ length items) where
  -- the texts of the items from the first of the places on and before i were gathered
  abbrev pub HoldsUpTo : SinkState → SinkState → List ℕ → List ℕ → Type 0
  HoldsUpTo old new before after = HoldsFirst text (between from to items) old new before (i - from) after

  -- all were gathered
  pub part_held : (old new : SinkState) (before after : List ℕ) → to ≤ i → HoldsUpTo old new before after
      → Holds old new (before ++ flat_map text (between from to items)) after
  part_held old new before after past held =
      all_held text (between from to items) old new before (i - from) after (omega (arith, length-between items from to there)) held

  module _ (d item : X) (begun : from ≤ i) (more : i < to) (next : item ≡ get_or items i d) (old mid new : SinkState) (before held : List ℕ)
      (first : HoldsUpTo old mid before held) where
    inside : i - from < length (between from to items)
    inside = omega (arith, length-between items from to there)

    read : item ≡ get_or (between from to items) (i - from) d
    read =
        let place : from + (i - from) ≡ i = omega arith in
        next ∙ sym (get_or-between items from to (i - from) d (omega arith) ∙ ap (λ k. get_or items k d) place)

    -- one more was gathered
    pub more_of_part : (after : List ℕ) → Holds mid new (held ++ text item) after
        → HoldsFirst text (between from to items) old new before (i + 1 - from) after
    more_of_part after whole =
        let count : i - from + 1 ≡ i + 1 - from = omega arith in
        subst (λ n. HoldsFirst text (between from to items) old new before n after) count
        (more_held text (between from to items) (i - from) d item inside read old mid new before held first after whole)

    -- one more was cut by a fault
    pub part_cut : (fault : WriteFault) → Cuts mid new (held ++ text item) fault
        → Cuts old new (before ++ flat_map text (between from to items)) fault
    part_cut = cut_at text (between from to items) (i - from) d item inside read old mid new before held first
