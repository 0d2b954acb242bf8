-- Lines of arcs that are written one after another.
use Rattle.std.proofs.Common.{◌≡◌, ℕ, ◌+◌, List, [], ◌∷◌, ◌++◌, length, refl, sym, ap, ◌∙◌, append_assoc, append-nil, length-append, arith, subst}
use Rattle.std.specs.List.{flat_map, range_with_len, zip}
use Rattle.std.proofs.lemmas.Grind.{flat_map-append}
use Rattle.std.proofs.lemmas.List.FromFn.{length-map-range_with_len}
use Rattle.graph_gen.specs.Sequence.{nth_behind, weight_by, weights_behind}
use Rattle.graph_gen.specs.Texts.{arc_line, arc_lines}
use Rattle.graph_gen.specs.Writing.{ArcLines, PutsArcs}
use Rattle.graph_gen.proofs.RangeLemmas.{flat_map-range_more}
use Rattle.graph_gen.proofs.SequenceLemmas.{nth_behind_nth, weights-append}

zip-append : {A B : Type 0} (xs ys : List A) (vs ws : List B) → length vs ≡ length xs → zip (xs ++ ys) (vs ++ ws) ≡ zip xs vs ++ zip ys ws
zip-append [] ys [] ws same = refl
zip-append [] ys (v ∷ vs) ws same = cc
zip-append (x ∷ xs) ys [] ws same = cc
zip-append (x ∷ xs) ys (v ∷ vs) ws same =
    let rest : length vs ≡ length xs = cc in ap (λ l. (x, v) ∷ l) (zip-append xs ys vs ws rest)

-- the lines of arcs, and then of others
arc_lines-append : (x : ℕ) (arcs others : List (ℕ × ℕ))
    → arc_lines x (arcs ++ others) ≡ arc_lines x arcs ++ arc_lines (nth_behind x (length arcs)) others
arc_lines-append x arcs others =
    let front = weights_behind x (length arcs) in
    let back = weights_behind (nth_behind x (length arcs)) (length others) in
    ap (λ n. flat_map arc_line (zip (arcs ++ others) (weights_behind x n))) (length-append arcs others)
    ∙ ap (λ ws. flat_map arc_line (zip (arcs ++ others) ws)) (weights-append x (length arcs) (length others))
    ∙ ap (flat_map arc_line) (zip-append arcs others front back (length-map-range_with_len (λ n. weight_by (nth_behind x n)) 1 (length arcs)))
    ∙ flat_map-append arc_line (zip arcs front) (zip others back)

-- nothing was written
pub puts_none : (lines : ArcLines) → PutsArcs lines lines []
puts_none lines = record { side = refl; text = sym (append-nil lines.text); last = refl }

-- arcs were written, and then others, which depend on the grid's side
pub puts_then : (old mid new : ArcLines) (arcs : List (ℕ × ℕ)) (others : ℕ → List (ℕ × ℕ)) → PutsArcs old mid arcs
    → PutsArcs mid new (others mid.side) → PutsArcs old new (arcs ++ others old.side)
puts_then old mid new arcs others first second =
    let next = others old.side in
    let same : others mid.side ≡ next = ap others first.side in
    record {
      side = second.side ∙ first.side;
      text = second.text ∙ ap (λ o. mid.text ++ arc_lines mid.last o) same ∙ ap (λ x. mid.text ++ arc_lines x next) first.last
          ∙ ap (λ t. t ++ arc_lines (nth_behind old.last (length arcs)) next) first.text
          ∙ append_assoc old.text (arc_lines old.last arcs) (arc_lines (nth_behind old.last (length arcs)) next)
          ∙ ap (λ t. old.text ++ t) (sym (arc_lines-append old.last arcs next));
      last = second.last ∙ ap (λ o. nth_behind mid.last (length o)) same ∙ ap (λ x. nth_behind x (length next)) first.last
          ∙ nth_behind_nth old.last (length arcs) (length next) ∙ ap (nth_behind old.last) (sym (length-append arcs next));
    }

-- the arcs of one row more, or of one column more
pub puts_more : (old mid new : ArcLines) (n : ℕ) (arcs : ℕ → ℕ → List (ℕ × ℕ)) → PutsArcs old mid (flat_map (arcs old.side) (range_with_len 0 n))
    → PutsArcs mid new (arcs mid.side n) → PutsArcs old new (flat_map (arcs old.side) (range_with_len 0 (n + 1)))
puts_more old mid new n arcs first second =
    subst (PutsArcs old new) (sym (flat_map-range_more (arcs old.side) 0 n n (omega arith)))
    (puts_then old mid new (flat_map (arcs old.side) (range_with_len 0 n)) (λ side. arcs side n) first second)
