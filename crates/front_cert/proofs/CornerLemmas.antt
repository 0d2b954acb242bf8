-- Corners of blocks of labels.
use Rattle.std.proofs.Common.{◌≡◌, ℕ, ◌+◌, ◌-◌, ◌*◌, ◌<◌, ◌≤◌, List, [], ◌∷◌, ◌++◌, length, take, drop, get_or, min, Some, inl, inr, sym, ap, subst, ◌∙◌, arith, length-append, length-take}
use Rattle.std.specs.Prelude.{All, slice_get}
use Rattle.std.proofs.lemmas.Bool.{cases_lt}
use Rattle.std.proofs.lemmas.List.{get_or-drop, get_or-take, length-drop, take_more}
use Rattle.std.proofs.lemmas.List.Elements.{All-append, All-cons, All-nil, All-weaker}
use Rattle.std.proofs.lemmas.Option.{get_or_from_slice_get}
use Rattle.std.proofs.Math.Seq.{get_or-append_seam}
use Rattle.std.proofs.Math.ListN.{get_or-append}
use Rattle.cost_vector.specs.Costs.{AtMost}
use Rattle.cost_vector.specs.declared.label.Label.{Label as StoredLabel}
use Rattle.cost_vector.proofs.Components.{IsMeet}
use Rattle.cost_vector.proofs.Vectors.{AtMost-trans}
use Rattle.front_cert.proofs.OffsetLemmas.{offsets_none}
use Rattle.front_cert.specs.Listing.{AreCorners, AreKept, AreKeptWith, block_size}

-- the first places have the lesser components
pub meet_taken : (a b places : List ℕ) (n : ℕ) → n ≡ length a → length a ≡ length b → n ≤ length places
    → ((k : ℕ) → k < n → get_or places k 0 ≡ min (get_or a k 0) (get_or b k 0)) → IsMeet (take n places) a b
meet_taken a b places n is same within lesser = record {
  as_long = omega (arith, length-take n places, is, within);
  as_long_other = omega (arith, length-take n places, is, same, within);
  lesser = λ k inside. let below : k < n = omega (arith, inside, length-take n places) in get_or-take n places k 0 below ∙ lesser k below;
}

-- no corner is laid yet
pub corners_none : (d : ℕ) (labels : List StoredLabel) → AreCorners d labels []
corners_none d labels = record {
  whole = All-nil (λ c. length c ≡ d);
  within = omega arith;
  at_most = λ k j l there at low high. absurd (omega (arith, there));
}

pub kept_bare : (d : ℕ) (labels : List StoredLabel) → AreKept d labels → AreKeptWith d labels [] []
kept_bare d labels kept = record { whole = kept.whole; ascending = kept.ascending; cornered = corners_none d labels; ends = offsets_none labels }

module _ (d : ℕ) (labels : List StoredLabel) (corners : List (List ℕ)) (are : AreCorners d labels corners) (corner : List ℕ) (long : length corner ≡ d)
    (first : ℕ) (is_first : first ≡ length corners * block_size) (within : first + block_size ≤ length labels)
    (low : All (λ (l : StoredLabel). AtMost corner l.cost) (take block_size (drop first labels))) where
  -- the label at a place of the block
  low_at : (j : ℕ) (l : StoredLabel) → slice_get labels j ≡ Some l → first ≤ j → j < first + block_size → AtMost corner l.cost
  low_at j l at above below =
      let i = j - first in
      let inside : i < block_size = omega (arith, above, below) in
      let there : i < length (take block_size (drop first labels)) = omega (arith, inside, within, length-take block_size (drop first labels), length-drop first labels) in
      let same : first + i ≡ j = omega (arith, above) in
      subst (λ (x : StoredLabel). AtMost corner x.cost)
      (get_or-take block_size (drop first labels) i l inside ∙ get_or-drop first labels i l ∙ ap (λ n. get_or labels n l) same ∙ get_or_from_slice_get labels j l l at)
      (low i l there)

  -- one corner more
  pub corners_push : AreCorners d labels (corners ++ corner ∷ [])
  corners_push = record {
    whole = All-append (λ c. length c ≡ d) corners (corner ∷ []) are.whole (All-cons (λ c. length c ≡ d) corner [] long (All-nil (λ c. length c ≡ d)));
    within = omega (arith, within, is_first, length-append corners (corner ∷ []));
    at_most = λ k j l there at above below. elim (cases_lt k (length corners)) [
      | inl old ↦ subst (λ c. AtMost c l.cost) (sym (get_or-append corners (corner ∷ []) [] k old)) (are.at_most k j l old at above below)
      | inr new ↦
          let same : k ≡ length corners = omega (arith, there, new, length-append corners (corner ∷ [])) in
          let here : get_or (corners ++ corner ∷ []) k [] ≡ corner = ap (λ n. get_or (corners ++ corner ∷ []) n []) same ∙ get_or-append_seam corners corner [] [] in
          subst (λ c. AtMost c l.cost) (sym here) (low_at j l at (omega (arith, above, same, is_first)) (omega (arith, below, same, is_first)))
    ];
  }

-- a lesser corner is at most one cost more
pub low_more : (labels : List StoredLabel) (corner least : List ℕ) (i : ℕ) (l d : StoredLabel) → i < length labels → l ≡ get_or labels i d → AtMost least corner → AtMost least l.cost
    → All (λ (x : StoredLabel). AtMost corner x.cost) (take i labels) → All (λ (x : StoredLabel). AtMost least x.cost) (take (i + 1) labels)
low_more labels corner least i l d within is below there all =
    let LeastAt : StoredLabel → Type 0 = λ x. AtMost least x.cost in
    subst (All LeastAt) (sym (take_more labels i d within))
    (All-append LeastAt (take i labels) (get_or labels i d ∷ [])
    (All-weaker (λ (x : StoredLabel). AtMost corner x.cost) LeastAt (λ x at_most. AtMost-trans least corner x.cost below at_most) (take i labels) all)
    (All-cons LeastAt (get_or labels i d) [] (subst LeastAt is there) (All-nil LeastAt)))
