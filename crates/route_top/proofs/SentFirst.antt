-- The texts of a list's items that are sent one by one.
use Rattle.std.proofs.Common.{◌≡◌, ℕ, ◌+◌, ◌<◌, ◌≤◌, List, [], ◌∷◌, ◌++◌, Err, Ok, length, take, drop, get_or, ap, sym, ◌∙◌, subst, append-nil}
use Rattle.std.specs.List.{flat_map}
use Rattle.std.proofs.lemmas.List.{take_all, take_more, take-append-drop}
use Rattle.std.proofs.lemmas.Grind.{flat_map-append}
use Rattle.route_io.specs.declared.fault.WriteFault.{WriteFault}
use Rattle.route_io.specs.Sinks.{SinkState, Sends}
use Rattle.route_io.proofs.SendsLemmas.{Sent, Sends-then, Sends-cut}

-- the texts of the first so many items were sent
abbrev pub SentFirst : {X : Type 0} → (X → List ℕ) → List X → ℕ → SinkState → SinkState → Type 0
SentFirst text items count old new = Sent old new (flat_map text (take count items))

-- all were sent
pub all_sent : {X : Type 0} (text : X → List ℕ) (items : List X) (i : ℕ) (old new : SinkState) → length items ≤ i
    → SentFirst text items i old new → Sent old new (flat_map text items)
all_sent text items i old new past sent = subst (λ l. Sent old new (flat_map text l)) (take_all i items past) sent

module _ {X : Type 0} (text : X → List ℕ) (items : List X) (i : ℕ) (d item : X) (inside : i < length items) (next : item ≡ get_or items i d)
    (old mid new : SinkState) (sent : SentFirst text items i old mid) where
  one_more : flat_map text (take i items) ++ text item ≡ flat_map text (take (i + 1) items)
  one_more =
      ap (λ x. flat_map text (take i items) ++ text x) next
      ∙ sym (ap (flat_map text) (take_more items i d inside) ∙ flat_map-append text (take i items) (get_or items i d ∷ [])
      ∙ ap (λ l. flat_map text (take i items) ++ l) (append-nil (text (get_or items i d))))

  -- one more was sent
  pub more_sent : Sent mid new (text item) → SentFirst text items (i + 1) old new
  more_sent whole = subst (Sent old new) one_more (Sends-then old mid new _ (text item) (Ok tt) sent whole)

  -- one more was sent in part
  pub cut_at : (fault : WriteFault) → Sends {T = Unit {0}} mid new (text item) (Err fault) → Sends {T = Unit {0}} old new (flat_map text items) (Err fault)
  cut_at fault part =
      let rest = flat_map text (drop (i + 1) items) in
      let whole : (flat_map text (take i items) ++ text item) ++ rest ≡ flat_map text items =
      ap (λ l. l ++ rest) one_more ∙ sym (flat_map-append text (take (i + 1) items) (drop (i + 1) items))
      ∙ ap (flat_map text) (take-append-drop (i + 1) items) in
      subst (λ l. Sends {T = Unit {0}} old new l (Err fault)) whole
      (Sends-cut old new _ rest fault (Sends-then old mid new _ (text item) (Err fault) sent part))
