-- Arcs by their numbers.
use Rattle.std.proofs.Common.{◌≡◌, ℕ, ◌-◌, ◌≤◌, List, length, Option, Some, None, inl, inr, refl, sym, ap, ◌∙◌, arith}
use Rattle.std.specs.Prelude.{slice_get}
use Rattle.std.specs.Option.{option_map_or, option_and_then}
use Rattle.std.proofs.lemmas.Option.{slice_get_cases}
use Rattle.cost_vector.specs.declared.label.ArcNo.{ArcNo}
use Rattle.road_network.specs.Network.{Network, IsNetwork, IsNode, Leads}
use Rattle.arc_graph.specs.Graph.{arc_state, head_of, tail_of}
use Rattle.list_laws.proofs.Members.{all_got}

module _ (net : Network) (a : ArcNo) (counted : 1 ≤ a.0) (there : a.0 ≤ length net.ends) where
  ends_of : slice_get net.ends (a.0 - 1) ≡ Some (tail_of net.ends a, head_of net.ends a)
  ends_of = by_end (slice_get net.ends (a.0 - 1)) refl where
    by_end : (o : Option (ℕ × ℕ)) → slice_get net.ends (a.0 - 1) ≡ o
        → o ≡ Some (option_map_or (λ (e : ℕ × ℕ). e.0) o 0, option_map_or (λ (e : ℕ × ℕ). e.1) o 0)
    by_end (Some e) at = refl
    by_end None at = elim (slice_get_cases net.ends (a.0 - 1)).1 [
      | inl inside ↦ let none = sym at ∙ inside.2 in absurd cc
      | inr past ↦ let bottom : ⊥ = omega (arith, past.0) in absurd bottom
    ]

  -- a passable arc leads from its tail to its head
  pub leads_over : (w : List ℕ) → arc_state net.states a ≡ Some w → Leads net a.0 (tail_of net.ends a) w (head_of net.ends a)
  leads_over w state = record { counted = counted; ends = ends_of; passable = by_state (slice_get net.states (a.0 - 1)) refl state } where
    by_state : (o : Option (Option (List ℕ))) → slice_get net.states (a.0 - 1) ≡ o → option_and_then (λ s. s) o ≡ Some w → o ≡ Some (Some w)
    by_state None at e = absurd cc
    by_state (Some None) at e = absurd cc
    by_state (Some (Some y)) at e = ap Some e

  pub tail_is_node : IsNetwork net → IsNode net.nodes (tail_of net.ends a)
  tail_is_node is = all_got (λ e. IsNode net.nodes e.0) net.ends (a.0 - 1) (tail_of net.ends a, head_of net.ends a) is.tails ends_of

-- a shut arc leads nowhere
pub shut_leads_nowhere : (net : Network) (a : ArcNo) → arc_state net.states a ≡ None → (u v : ℕ) (w : List ℕ) → ¬ Leads net a.0 u w v
shut_leads_nowhere net a shut u v w arc = let none : None ≡ Some w = sym shut ∙ ap (option_and_then (λ s. s)) arc.passable in absurd cc
