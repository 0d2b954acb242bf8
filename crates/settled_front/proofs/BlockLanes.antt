-- Blocks of costs, compared side by side.
use Rattle.std.proofs.Common.{◌≡◌, ◌↔◌, ℕ, ◌<◌, ◌≤◌, List, [], length, length-take-le, get_or, set, take, replicate, inl, inr, sym, ◌∙◌, arith, get_or-set_same}
use Rattle.std.proofs.Common.{get_or-set_other, get_or-take, length-set, take_all}
use Rattle.std.proofs.lemmas.Bool.{cases_lt, cases_eq}
use Rattle.std.proofs.lemmas.List.{get_or-replicate, length-replicate}
use Rattle.std.proofs.lemmas.List.FromFn.{fill_by_all, get_or-map-range_with_len, length-map-range_with_len}
use Rattle.std.proofs.lemmas.List.Elements.{AllZip-get_or}
use Rattle.cost_vector.specs.Costs.{AtMost}
use Rattle.cost_vector.proofs.Components.{AtMost_from_places}
use Rattle.settled_front.specs.Fronts.{IsCovered}
use Rattle.settled_front.specs.Blocks.{AreAtMost, AreFirst, Exceeds, HasOneBefore, block_size, in_row, lane_cost, lane_costs}
use Rattle.settled_front.proofs.Covers.{covered_at, covers_at}

-- where there is a lane before the count whose cost is at most this one, the first costs cover it
pub covered_before : (block : List (List ℕ)) (cost : List ℕ) (lanes count : ℕ) → AreFirst count block → AreAtMost block cost lanes
    → HasOneBefore lanes count ↔ IsCovered (take count block) cost
covered_before block cost lanes count first are =
    let long : length (take count block) ≡ count = length-take-le count block (omega (arith, first.few, first.full)) in
    let at = λ (lane : ℕ) (before : lane < count). get_or-take count block lane [] before in (
      λ h. covers_at (take count block) cost h.lane (omega (arith, h.before, long))
          (rw (at h.lane h.before) ((are h.lane (omega (arith, h.before, first.few))).0 h.has)),
      λ h.
          let lane = h.contains.0 in
          let before : lane < count = omega (arith, h.contains.1, long) in
          record {
            lane = lane;
            before = before;
            has = (are lane (omega (arith, before, first.few))).1 (rw (at lane before) at (covered_at (take count block) cost h));
          },
    )

pub covered_by_lane : (block : List (List ℕ)) (cost : List ℕ) (lanes : ℕ) → length block ≡ block_size → AreAtMost block cost lanes
    → HasOneBefore lanes block_size ↔ IsCovered block cost
covered_by_lane block cost lanes full are =
    rw (take_all block_size block (omega arith)) at (covered_before block cost lanes block_size (record { few = omega arith; full = full }) are)

module _ (d : ℕ) (rows : List (List ℕ)) where
  pub length_lanes : length (lane_costs d rows) ≡ block_size
  length_lanes = length-map-range_with_len (lane_cost d rows) 0 block_size

  lane_at : (lane : ℕ) → lane < block_size → get_or (lane_costs d rows) lane [] ≡ lane_cost d rows lane
  lane_at lane within = get_or-map-range_with_len (lane_cost d rows) 0 block_size lane lane [] within (omega arith)

  component : (lane k : ℕ) → k < d → get_or (lane_cost d rows lane) k 0 ≡ in_row rows k lane
  component lane k within = get_or-map-range_with_len (λ j. in_row rows j lane) 0 d k k 0 within (omega arith)

  -- a cost is at most another where no row exceeds that
  pub unexceeded : (cost : List ℕ) → length cost ≡ d → (lane : ℕ) → lane < block_size
      → (¬ Exceeds rows cost d lane) ↔ AtMost (get_or (lane_costs d rows) lane []) cost
  unexceeded cost long lane within =
      let as_long = length-map-range_with_len (λ k. in_row rows k lane) 0 d in
      rw (lane_at lane within) (
        λ none. AtMost_from_places (lane_cost d rows lane) cost (as_long ∙ sym long) (λ k inside.
            let low : k < d = omega (arith, inside, as_long) in
            elim (cases_lt (get_or cost k 0) (in_row rows k lane)) [
              | inl less ↦ absurd (none (record { row = k; before = low; less = less }))
              | inr not_less ↦ omega (arith, component lane k low)
            ]),
        λ below e. omega (
          arith,
          e.less,
          component lane e.row e.before,
          AllZip-get_or ◌≤◌ (lane_cost d rows lane) cost e.row 0 0 below (omega (arith, e.before, as_long)),
        ),
      )

  -- what was read at one place of each row is the cost there
  pub lane_read : (numbers : List ℕ) (lane : ℕ) → lane < block_size → length numbers ≡ d
      → ((k : ℕ) → k < d → get_or numbers k 0 ≡ in_row rows k lane) → numbers ≡ get_or (lane_costs d rows) lane []
  lane_read numbers lane within long each = fill_by_all (λ k. in_row rows k lane) numbers d 0 long each ∙ sym (lane_at lane within)

-- a cost is written into its lane, component by component
pub lane_written : (d : ℕ) (before after : List (List ℕ)) (lane : ℕ) (cost : List ℕ) → lane < block_size → length cost ≡ d
    → ((k : ℕ) → k < d → length (get_or before k []) ≡ block_size) → ((k : ℕ) → k < d → get_or after k [] ≡ set (get_or before k []) lane (get_or cost k 0))
    → lane_costs d after ≡ set (lane_costs d before) lane cost
lane_written d before after lane cost within long full each =
    let now = set (lane_costs d before) lane cost in
    sym (fill_by_all (lane_cost d after) now block_size [] (length-set (lane_costs d before) lane cost ∙ length_lanes d before) (λ j low.
    elim (cases_eq j lane) [
      | inl here ↦
          rw (here, get_or-set_same (lane_costs d before) lane cost [] (omega (arith, within, length_lanes d before)))
          (fill_by_all (λ k. in_row after k lane) cost d 0 long (λ k inside.
          rw (each k inside, get_or-set_same (get_or before k []) lane (get_or cost k 0) 0 (omega (arith, within, full k inside)))))
      | inr other ↦
          rw (get_or-set_other (lane_costs d before) lane j cost [] other, lane_at d before j low)
          (fill_by_all (λ k. in_row after k j) (lane_cost d before j) d 0 (length-map-range_with_len (λ k. in_row before k j) 0 d) (λ k inside.
          rw (component d before j k inside, each k inside, get_or-set_other (get_or before k []) lane j (get_or cost k 0) 0 other)))
    ]))

-- rows of the same number are costs of that number
pub same_lanes : (d x : ℕ) → lane_costs d (replicate d (replicate block_size x)) ≡ replicate block_size (replicate d x)
same_lanes d x =
    let rows : List (List ℕ) = replicate d (replicate block_size x) in
    let costs : List (List ℕ) = replicate block_size (replicate d x) in
    sym (fill_by_all (lane_cost d rows) costs block_size [] (length-replicate block_size (replicate d x)) (λ lane within.
    rw (get_or-replicate block_size lane (replicate d x) [] within)
    (fill_by_all (λ k. in_row rows k lane) (replicate d x) d 0 (length-replicate d x) (λ k inside.
    rw (get_or-replicate d k x 0 inside, get_or-replicate d k (replicate block_size x) [] inside, get_or-replicate block_size lane x 0 within)))))
