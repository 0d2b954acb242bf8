use Rattle.std.proofs.Common.{◌-◌, Option, List, ℕ, IfSome, ap, subst, sym, set, ◌∙◌}
use Rattle.std.proofs.lemmas.List.{map-set}
use Rattle.road_network.specs.Network.{IsVector}
use Rattle.arc_graph.specs.Graph.{Weights}
use Rattle.arc_graph.specs.Stored.{state_in, states_of}
use Rattle.arc_graph.specs.History.{with_change}
use Rattle.arc_graph.proofs.weights.Weights.set.Goals as goal

pub returns : goal.returns
returns c =
    let d = c.self.inside.criteria in
    let vector = subst (λ v. IfSome c.args.w (IsVector v)) (sym (ap (λ (v : Weights). v.criteria) c.self.view_is)) c.requires.vector in
    ap (λ (s : List (Option (List ℕ))). record { criteria = d; states = s })
    (map-set (state_in d) c.self.inside.vectors.items (c.args.a.0 - 1) c.places_of.result
    ∙ ap (set (states_of d c.self.inside.vectors.items) (c.args.a.0 - 1)) (c.places_of.ensures d vector).state_is)
    ∙ ap (λ v. with_change v (record { arc = c.args.a; weight = c.args.w })) c.self.view_is
