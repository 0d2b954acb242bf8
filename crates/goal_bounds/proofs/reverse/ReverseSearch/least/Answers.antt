use Rattle.std.proofs.Common.{◌≡◌, get_or, sym, subst, ◌∙◌}
use Rattle.goal_bounds.specs.Reverse.{IsLeastOf, ReverseSearch}
use Rattle.goal_bounds.proofs.ReverseLemmas.{known_at_node, least_where_known, none_where_unknown}
use Rattle.goal_bounds.proofs.reverse.ReverseSearch.least.Goals as goal

pub returns-then-value-clause-none : goal.returns-then-value-clause-none
returns-then-value-clause-none c =
    let net = c.args.network.now in let s = c.loop-self.self in let before = c.args.self.now in let v = c.args.node.0 in
    let read = known_at_node net before.target before.criterion s c.loop-self.invariant v c.index-value.result.now c.requires.node
    (subst (λ (z : ReverseSearch). c.index-value.result.now ≡ get_or z.values v c.index-value.result.now) c.self.view_is c.index-value.ensures) in
    none_where_unknown net c.nodes.ensures.network before.target before.criterion s c.loop-self.invariant v (c.is_final.ensures.0 c.loop-self-test.false)
    (sym read ∙ c.if-value.true)

pub returns-clause-least : goal.returns-clause-least
returns-clause-least c =
    let net = c.args.network.now in let s = c.loop-self.self in let before = c.args.self.now in let v = c.args.node.0 in
    let read = known_at_node net before.target before.criterion s c.loop-self.invariant v c.index-value.result.now c.requires.node
    (subst (λ (z : ReverseSearch). c.index-value.result.now ≡ get_or z.values v c.index-value.result.now) c.self.view_is c.index-value.ensures) in
    subst (IsLeastOf net v before.target before.criterion) (sym read)
    (least_where_known net c.nodes.ensures.network before.target before.criterion s c.loop-self.invariant v (c.is_final.ensures.0 c.loop-self-test.false) c.requires.node
    (λ e. c.if-value.false (read ∙ e)))
