use Rattle.std.proofs.Common.{true, false, ◌^◌, ◌<◌, Some, IfSome, ap, sym, subst, ◌∙◌}
use Rattle.std.specs.Prelude.{All}
use Rattle.road_network.specs.Network.{IsVector}
use Rattle.arc_graph.specs.Graph.{AreWeights}
use Rattle.arc_graph.proofs.Places.{states_in, state_by_places, holds_of_state}
use Rattle.arc_graph.proofs.weights.Weights.get.Goals as goal

pub returns-then-is_zero-clause-state : goal.returns-then-is_zero-clause-state
returns-then-is_zero-clause-state c =
    sym (state_by_places _ _ _ c.args.a _ true c.self.view_is c.requires.counted c.requires.there c.index.ensures (sym c.is_zero.ensures ∙ c.if-is_zero.true))

pub returns-clause-state : goal.returns-clause-state
returns-clause-state c =
    let test = sym c.is_zero.ensures ∙ c.if-is_zero.false in
    ap Some c.of_places.ensures ∙ sym (state_by_places _ _ _ c.args.a _ false c.self.view_is c.requires.counted c.requires.there c.index.ensures test)

pub returns-clause-vector : goal.returns-clause-vector
returns-clause-vector c =
    let states = subst AreWeights c.self.view_is (states_in _ _ c.self.invariant) in
    let Vector = IsVector c.args.self.now.criteria in
    subst (λ o. IfSome o Vector) (sym (returns-clause-state c)) (holds_of_state Vector c.args.self.now c.args.a states.vectors)

pub returns-clause-small : goal.returns-clause-small
returns-clause-small c =
    let states = subst AreWeights c.self.view_is (states_in _ _ c.self.invariant) in
    subst (λ o. IfSome o (All (λ x. x < 2 ^ 32))) (sym (returns-clause-state c)) (holds_of_state (All (λ x. x < 2 ^ 32)) c.args.self.now c.args.a states.small)
