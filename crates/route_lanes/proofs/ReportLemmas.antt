-- What is reported of lanes whose sessions have learnt the whole history.
use Rattle.std.proofs.Common.{◌≡◌, ℕ, List, ◌++◌, length, map, take, drop, subst}
use Rattle.std.proofs.lemmas.Simd.{map-map}
use Rattle.std.proofs.Math.Seq.{take-append_seam}
use Rattle.arc_graph.specs.History.{History}
use Rattle.session_core.specs.declared.end.SessionEnd.{SessionEnd}
use Rattle.route_lanes.specs.Served.{learnt, report_of}
use Rattle.route_lanes.specs.declared.session_lane.SessionLane.{SessionLane}

-- a list that was written back whole
pub written_back : {X : Type 0} (xs ys : List X) (n : ℕ) → length xs ≡ n → take n (xs ++ drop (length xs) ys) ≡ xs
written_back xs ys n same = subst (λ (k : ℕ). take k (xs ++ drop (length xs) ys) ≡ xs) same (take-append_seam xs (drop (length xs) ys))

-- what is reported of the lanes doesn't change as their sessions learn
pub reports_of_learnt : {T : Type 0} (last : ℕ) (whole : History) (lanes : List (SessionLane T SessionEnd))
    → map (report_of last) (map (learnt whole) lanes) ≡ map (report_of last) lanes
reports_of_learnt last whole lanes = map-map (report_of last) (learnt whole) lanes
