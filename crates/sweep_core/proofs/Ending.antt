-- Where nothing waits any more, all that is relevant by the potential is settled.
use Rattle.std.proofs.Common.{◌≡◌, ℕ, List, [], replicate, inl, inr, sym, ap, subst, ◌∙◌}
use Rattle.std.specs.Prelude.{Contains}
use Rattle.list_laws.proofs.Members.{in_none}
use Rattle.cost_vector.specs.Costs.{AtMost, Dominates, plus}
use Rattle.cost_vector.proofs.Vectors.{AtMost-cancel, cases_same, plus-zeros}
use Rattle.road_network.specs.Network.{Network, IsNetwork}
use Rattle.road_network.proofs.WalkLaws.{length_of_walk}
use Rattle.waiting_item.specs.Waiting.{Spot}
use Rattle.sweep_parts.specs.Settled.{IsDominated}
use Rattle.settled_front.specs.Fronts.{IsCovered}
use Rattle.sweep_core.specs.Potentials.{IsConsistent, IsRelevantBy, Potential}
use Rattle.sweep_core.specs.Sweeps.{IsEnded, IsSettledIn, IsSweep, SettlesAll, Sweep, costs_at, lifted}
use Rattle.sweep_core.proofs.Frontier.{IsAhead, ahead_of_walk}

module _ (net : Network) (road : IsNetwork net) (t : ℕ) (P : Potential) (is : IsConsistent net t P) (s : Sweep) (sweep : IsSweep net P s)
    (none : s.queue ≡ []) (target : s.target ≡ t) (v : ℕ) (c : List ℕ) (r : IsRelevantBy net s.start s.target s.limit P v c) where
  by_cover : IsCovered (costs_at s v) (plus c r.height) → IsSettledIn s.settled (lifted v c r.height)
  by_cover covered =
      let y : Spot = record { cost = covered.by; node = v } in
      let pair = (sweep.settled_from y covered.contains).lifted in
      let e = pair.cost in
      let best = (sweep.relevant y pair covered.contains).best in
      let long = is.whole v r.height r.has in
      let c_long = length_of_walk net road r.best.reached.0 s.start v c r.best.reached.1 in
      let sum : covered.by ≡ plus e r.height = pair.sum ∙ ap (plus e) (is.one v pair.height r.height pair.has r.has) in
      let less : AtMost e c =
      AtMost-cancel e c r.height (pair.whole ∙ sym long) (c_long ∙ sym long) (subst (λ z. AtMost z (plus c r.height)) sum covered.at_most) in
      elim (cases_same e c) [
        | inl same ↦ subst (Contains (costs_at s v)) (sum ∙ ap (λ z. plus z r.height) same) covered.contains
        | inr differs ↦ absurd (r.best.nondominated best.reached.0 e best.reached.1 (record { at_most = less; differs = differs }))
      ]

  not_barred : ¬ IsDominated (costs_at s s.target) (plus c r.height)
  not_barred barred =
      let y : Spot = record { cost = barred.by; node = s.target } in
      let pair = (sweep.settled_from y barred.contains).lifted in
      let zero = replicate net.criteria 0 in
      let has = subst (λ u. P u zero) (sym target) is.target in
      let sum : barred.by ≡ pair.cost =
      pair.sum ∙ ap (plus pair.cost) (is.one s.target pair.height zero pair.has has) ∙ plus-zeros net.criteria pair.cost pair.whole in
      r.undominated pair.cost (sweep.relevant y pair barred.contains).best (subst (λ z. Dominates z (plus c r.height)) sum barred.dominates)

  all_settled : IsSettledIn s.settled (lifted v c r.height)
  all_settled = by (ahead_of_walk net road t P is s sweep r.best.reached.0 v c r.height r.best.reached.1 r.has r.within) where
    by : IsAhead s (lifted v c r.height) → IsSettledIn s.settled (lifted v c r.height)
    by (inl covered) = by_cover covered
    by (inr (inl barred)) = absurd (not_barred barred)
    by (inr (inr h)) = absurd (in_none h.item (subst (λ q. Contains q h.item) none h.waits))

pub ended_settles_all : (net : Network) (road : IsNetwork net) (t : ℕ) (P : Potential) (is : IsConsistent net t P) (s : Sweep) → IsEnded net P s → s.target ≡ t
    → SettlesAll net s.start s.target s.limit P s.settled
ended_settles_all net road t P is s ended target = record {
  count = ended.sweep.count;
  relevant = λ x there. let b = (ended.sweep.settled_from x there).lifted in record { is_lifted = b; relevant = ended.sweep.relevant x b there };
  all = λ v c h has r.
      subst (λ g. IsSettledIn s.settled (lifted v c g)) (is.one v r.height h r.has has) (all_settled net road t P is s ended.sweep ended.none target v c r);
}
