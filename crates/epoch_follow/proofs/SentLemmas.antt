-- Texts of a feed that are sent one after another.
use Rattle.std.proofs.Common.{◌≡◌, ℕ, ◌+◌, ◌<◌, List, [], ◌∷◌, ◌++◌, Err, length, take, drop, get_or, ap, sym, ◌∙◌, append-nil, append_assoc, arith}
use Rattle.std.specs.List.{flat_map}
use Rattle.std.proofs.lemmas.List.{take_more, take-append-drop, length-take}
use Rattle.std.proofs.lemmas.Grind.{flat_map-append}
use Rattle.route_io.specs.declared.fault.WriteFault.{WriteFault}
use Rattle.route_io.specs.Sinks.{SinkState, Sends}
use Rattle.route_io.proofs.SendsLemmas.{Sent, Sends-then, Sends-cut}
use Rattle.arc_graph.specs.declared.change.Change.{Change}
use Rattle.epoch_follow.specs.Text.{change_line, message, messages}

-- the messages of the first sets, and then those of the others
pub messages-append : (epoch : ℕ) (css others : List (List Change))
    → messages epoch (css ++ others) ≡ messages epoch css ++ messages (epoch + length css) others
messages-append epoch [] others = ap (λ e. messages e others) (omega arith)
messages-append epoch (cs ∷ css) others =
    ap (λ t. message epoch cs ++ t) (messages-append (epoch + 1) css others ∙ ap (λ e. messages (epoch + 1) css ++ messages e others) (omega arith))
    ∙ sym (append_assoc (message epoch cs) (messages (epoch + 1) css) (messages (epoch + length (cs ∷ css)) others))

-- one part of a text more was sent, or a part of that
module _ (whole front part rest : List ℕ) (parts : whole ≡ (front ++ part) ++ rest) (old mid new : SinkState) (sent : Sent old mid front) where
  pub part_cut : (fault : WriteFault) → Sends {T = Unit {0}} mid new part (Err fault) → Sends {T = Unit {0}} old new whole (Err fault)
  part_cut fault cut =
      rw parts (Sends-cut old new (front ++ part) rest fault (Sends-then old mid new front part (Err fault) sent cut))

-- ---- messages

module _ (epoch : ℕ) (css : List (List Change)) (i : ℕ) (d cs : List Change) (inside : i < length css) (next : cs ≡ get_or css i d) where
  -- the message of set number i, from 0, behind those of the sets before it
  pub messages-more : messages epoch (take i css) ++ message (epoch + i) cs ≡ messages epoch (take (i + 1) css)
  messages-more =
      let count : length (take i css) ≡ i = omega (arith, length-take i css, inside) in
      ap (λ t. messages epoch (take i css) ++ t) (sym (append-nil (message (epoch + i) cs)))
      ∙ ap (λ n. messages epoch (take i css) ++ messages (epoch + n) (cs ∷ [])) (sym count)
      ∙ sym (messages-append epoch (take i css) (cs ∷ []))
      ∙ ap (λ c. messages epoch (take i css ++ c ∷ [])) next ∙ sym (ap (messages epoch) (take_more css i d inside))

  pub messages-parts : messages epoch css
      ≡ (messages epoch (take i css) ++ message (epoch + i) cs) ++ messages (epoch + length (take (i + 1) css)) (drop (i + 1) css)
  messages-parts =
      ap (messages epoch) (sym (take-append-drop (i + 1) css)) ∙ messages-append epoch (take (i + 1) css) (drop (i + 1) css)
      ∙ ap (λ t. t ++ messages (epoch + length (take (i + 1) css)) (drop (i + 1) css)) (sym messages-more)

-- ---- changes

module _ (cs : List Change) (i : ℕ) (d c : Change) (inside : i < length cs) (next : c ≡ get_or cs i d) where
  -- the line of change number i, from 0, behind those of the changes before it
  pub changes-more : flat_map change_line (take i cs) ++ change_line c ≡ flat_map change_line (take (i + 1) cs)
  changes-more =
      ap (λ t. flat_map change_line (take i cs) ++ t) (sym (append-nil (change_line c)))
      ∙ sym (flat_map-append change_line (take i cs) (c ∷ [])) ∙ ap (λ x. flat_map change_line (take i cs ++ x ∷ [])) next
      ∙ sym (ap (flat_map change_line) (take_more cs i d inside))

  pub changes-parts : flat_map change_line cs ≡ (flat_map change_line (take i cs) ++ change_line c) ++ flat_map change_line (drop (i + 1) cs)
  changes-parts =
      ap (flat_map change_line) (sym (take-append-drop (i + 1) cs)) ∙ flat_map-append change_line (take (i + 1) cs) (drop (i + 1) cs)
      ∙ ap (λ t. t ++ flat_map change_line (drop (i + 1) cs)) (sym changes-more)
